-- `record_clauses::lock_marks::LockMarks::mark_own`: the marks of the rows still to come, put on the marks so far, are
-- the answer; those rows are rows of the chain. Rests on Marks of `clauses`.
use mathlib.Core.Path.{◌≡◌}
use Rattle.chains.specs.Partition.{Marks}
use Rattle.chains.specs.Walker.{rows_left}
use Rattle.tables.specs.Decode.{lock_rows}
use Rattle.clauses.specs.Marks.{mark_own}
use Rattle.clauses.proofs.Marks.{Ahead}
use Rattle.record_clauses.proofs.lock_marks.LockMarks.mark_own.Given as goal

abbrev pub invariant-loop-i : goal.invariant-loop-i
invariant-loop-i l =
    let c = l.r.tables.counts in
    let w = l.r.tables.words.now in
    (mark_own c w l.k l.self.rows (rows_left l.i-iterator)
    ≡ mark_own c w l.k l.initial.self.rows (lock_rows c w l.r.number))
    × Marks l.self.rows × Ahead (lock_rows c w l.r.number) (rows_left l.i-iterator)
