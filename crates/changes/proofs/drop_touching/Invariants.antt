-- `changes::drop_touching` meets its contract. The loop's invariant: record r's locks up to the place have lost the
-- settled reads that touch low..high, and `row` is what those and low..high are together. Rests on Joins.
use Rattle.changes.proofs.Joins.{Joins}
use Rattle.changes.proofs.drop_touching.Given as goal

abbrev pub invariant-loop-i : goal.invariant-loop-i
invariant-loop-i l = Joins l.c l.low l.high l.fn.w l.r l.w l.row l.place l.walk

abbrev pub decreases-loop-i : goal.decreases-loop-i
decreases-loop-i l = l.walk.left
