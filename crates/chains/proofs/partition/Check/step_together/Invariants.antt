-- `chains::partition::Check::step_together` meets its contract. The loop's invariant is Advances, of each walk. Rests
-- on Checks.
use Prim.Native.Nat.{◌+◌}
use Rattle.chains.specs.Checked.{Advances}
use Rattle.chains.proofs.partition.Check.step_together.Given as goal

abbrev pub invariant-loop : goal.invariant-loop
invariant-loop l = Advances l.initial.a l.a × Advances l.initial.b l.b × Advances l.initial.c l.c

abbrev pub decreases-loop : goal.decreases-loop
decreases-loop l = l.a.walk.left + l.b.walk.left + l.c.walk.left
