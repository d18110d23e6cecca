-- `record_clauses::lock_marks::LockMarks::mark_slot`: the marks of the accesses still to come, put on the marks so far,
-- are the answer. Rests on Marks of `clauses`.
use mathlib.Core.Path.{◌≡◌}
use Rattle.chains.specs.Partition.{Marks}
use Rattle.tables.specs.Views.{edit_in}
use Rattle.tables.specs.Walked.{values_left}
use Rattle.clauses.specs.Marks.{mark_accesses}
use Rattle.record_clauses.proofs.lock_marks.LockMarks.mark_slot.Given as goal

abbrev pub invariant-loop-a : goal.invariant-loop-a
invariant-loop-a l =
    let c = l.s.tables.counts in
    let w = l.s.tables.words.now in
    (mark_accesses c w l.s.number l.self.rows (values_left l.a-iterator)
    ≡ mark_accesses c w l.s.number l.initial.self.rows (edit_in l.s).accesses)
    × Marks l.self.rows
