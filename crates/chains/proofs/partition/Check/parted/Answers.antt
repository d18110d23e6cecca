use mathlib.Core.Path.{sym, ap, ◌∙◌}
use native.Mathlib.Omega.{arith}
use lib.Dec.{eqb}
use Rattle.chains.proofs.Parts.{free_broken, free_marked, part_again, part_broken, part_end}
use Rattle.chains.proofs.partition.Check.parted.Goals.{else-loop-k-test}
use Rattle.chains.proofs.partition.Check.parted.Goals.{then-loop-k-test+in-Some-mark_chain+else-k-k-end}
use Rattle.chains.proofs.partition.Check.parted.Goals as goal

pub returns-in_default : goal.returns-in_default
returns-in_default c = sym (free_broken c.requires.1 c.in_default.ensures.0)

pub loop-k-init : goal.loop-k-init
loop-k-init c = (free_marked c.requires.1 c.in-Some.ensures.0, c.in-Some.ensures.1)

pub returns-in_default-mark_chain : goal.returns-in_default-mark_chain
returns-in_default-mark_chain c =
    let i = c.loop-k.invariant in
    sym (part_broken i.0 (omega arith) c.head_of.ensures (rw i.1 at c.in_default-mark_chain.ensures.0))

pub loop-k-preserved : goal.loop-k-preserved
loop-k-preserved c =
    let i = c.loop-k.invariant in (
      part_again i.0 (omega arith) c.head_of.ensures (rw i.1 at c.in-Some-mark_chain.ensures.0),
      c.in-Some-mark_chain.ensures.1 ∙ i.1,
    )

pub returns : goal.returns
returns c = elim c.loop-k-test.branch [
  | else-loop-k-test w ↦ ap (λ n. eqb n 0) w.room-is ∙ part_end c.loop-k.invariant.0 (omega arith)
  | then-loop-k-test+in-Some-mark_chain+else-k-k-end w ↦
      (let i = c.loop-k.invariant in
      ap (λ n. eqb n 0) w.room-is
      ∙ part_end
      (part_again i.0 (omega arith) w.head_of.ensures (rw i.1 at w.in-Some-mark_chain.ensures.0))
      (omega arith))
]
