-- `record_clauses::lock_marks::LockMarks::mark_slots` meets its contract. Rests on Marking and Marks.
use Prim.Native.Nat.{◌-◌}
use mathlib.Core.Path.{◌≡◌}
use Rattle.chains.specs.Partition.{Marks}
use Rattle.clauses.specs.Marks.{mark_slots}
use Rattle.record_clauses.proofs.lock_marks.LockMarks.mark_slots.Given as goal

abbrev pub invariant-loop-number : goal.invariant-loop-number
invariant-loop-number l =
    (l.self.rows ≡ mark_slots l.t.counts l.t.words.now l.initial.self.rows (l.number - 1)) × Marks l.self.rows
