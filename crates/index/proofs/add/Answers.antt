-- `index::add` meets its contract. Rests on Says.
use Prim.Native.Nat.{ℕ, ◌+◌, ◌*◌}
use mathlib.Core.Path.{refl}
use native.Mathlib.Omega.{arith}
use borrow.Author.Rules.{Below-set}
use Rattle.index.specs.Index.{LISTS, LIST}
use Rattle.index.proofs.Says.{added, not_added}
use Rattle.index.proofs.add.Goals as goal

pub bounds-ix-k-then-n-lt-LISTED-2 : goal.bounds-ix-k-then-n-lt-LISTED-2
bounds-ix-k-then-n-lt-LISTED-2 c =
    Below-set ℕ c.args.ix.now (LISTS + c.args.k * LIST) _ _ (omega (
      arith,
      c.requires.0,
      c.requires.1,
    ))

pub returns-then-n-lt-LISTED : goal.returns-then-n-lt-LISTED
returns-then-n-lt-LISTED c = added _ _ _ _ refl c.if-n-lt-LISTED.true

pub returns-else-n-lt-LISTED : goal.returns-else-n-lt-LISTED
returns-else-n-lt-LISTED c = not_added _ _ _ c.if-n-lt-LISTED.false
