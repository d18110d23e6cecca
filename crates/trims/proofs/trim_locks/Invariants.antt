-- `trims::trim_locks` meets its contract. The loop's invariant: record r's locks up to the place are trimmed and have
-- lost those left empty, as many as were freed. Rests on Trims.
use Rattle.trims.proofs.Trims.{Trims}
use Rattle.trims.proofs.trim_locks.Given as goal

abbrev pub invariant-loop-i : goal.invariant-loop-i
invariant-loop-i l = Trims l.c l.v l.initial.w l.r l.w l.place l.walk l.freed

abbrev pub decreases-loop-i : goal.decreases-loop-i
decreases-loop-i l = l.walk.left
