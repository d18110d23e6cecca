-- `index::mark` meets its contract. Rests on Says.
use Prim.Native.Nat.{◌+◌, ◌*◌}
use mathlib.Core.Path.{refl, sym, ◌∙◌}
use native.Mathlib.Omega.{arith}
use lib.ListN.{length-set}
use Rattle.index.specs.Index.{MARKS}
use Rattle.index.proofs.Says.{marked, marked_none, silent_size}
use Rattle.index.proofs.mark.Goals as goal

pub bounds-ix-k : goal.bounds-ix-k
bounds-ix-k c =
    omega (arith, c.requires.0, c.requires.1, silent_size _ _ _ (sym c.silent.ensures ∙ c.if-silent.true))

pub add-requires : goal.add-requires
add-requires c = (
  length-set c.args.ix.now (c.args.k * MARKS + c.args.r) 1
      ∙ silent_size _ _ _ (sym c.silent.ensures ∙ c.if-silent.true),
  c.requires.0,
  c.requires.1,
)

pub returns-then-silent : goal.returns-then-silent
returns-then-silent c =
    marked _ _ _ _ _ (silent_size _ _ _ (sym c.silent.ensures ∙ c.if-silent.true)) c.requires.0 c.requires.1 refl
    c.add.ensures

pub returns-else-silent : goal.returns-else-silent
returns-else-silent c = marked_none _ _ _ (sym c.silent.ensures ∙ c.if-silent.false)
