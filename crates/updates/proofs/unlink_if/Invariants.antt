-- `updates::unlink_if` meets its contract: unlinking by the test whether word o of a row is v. Rests on Turns.
use mathlib.Core.List.{[]}
use Rattle.chains.specs.Table.{rows_of, holds}
use Rattle.chains.proofs.Turns.{TurnInv}
use Rattle.updates.proofs.unlink_if.Given as goal

abbrev pub invariant-loop-r : goal.invariant-loop-r
invariant-loop-r l =
    TurnInv l.p.of.table l.p.of.heads (holds l.p.of.table l.initial.w l.o l.v) l.initial.w l.p.a l.p.b []
    (rows_of l.p.of.table l.p.of.heads l.initial.w l.p.a) l.w l.place l.walk

abbrev pub decreases-loop-r : goal.decreases-loop-r
decreases-loop-r l = l.walk.left
