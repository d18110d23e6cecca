-- The turns and the end of the loop; it keeps the number of marks.
use mathlib.Core.Path.{ap, ◌∙◌}
use lib.ListN.{length}
use Rattle.tables.specs.Walked.{values_left}
use Rattle.clauses.specs.Marks.{mark_accesses}
use Rattle.clauses.proofs.Marking.{access_size}
use Rattle.clauses.proofs.Marks.{accesses_on, accesses_done}
use Rattle.std.proofs.Common.{rules}
use Rattle.record_clauses.proofs.lock_marks.LockMarks.mark_slot.Goals as goal

pub loop-a-init : goal.loop-a-init
loop-a-init c = (
  ap (mark_accesses c.args.s.tables.counts c.args.s.tables.words.now c.args.s.number c.args.self.now.rows)
      (ap values_left c.into_iter-a-iterator.ensures.into_iter_gives ∙ c.accesses-a-items.ensures),
  search rules,
)

pub loop-a-preserved : goal.loop-a-preserved
loop-a-preserved c =
    let n = c.args.s.tables.counts in
    let w = c.args.s.tables.words.now in (
      accesses_on n w c.args.s.number _ c.loop-a.invariant.0 c.in-Some.ensures.steps c.mark_access.ensures,
      ap length c.mark_access.ensures ∙ access_size n w c.args.s.number _ _ ∙ c.loop-a.invariant.1,
    )

pub returns : goal.returns
returns c =
    accesses_done c.args.s.tables.counts c.args.s.tables.words.now c.args.s.number _ c.loop-a.invariant.0
    c.in-None.ensures.steps.0
