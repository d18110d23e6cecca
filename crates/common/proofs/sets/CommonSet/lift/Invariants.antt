-- `CommonSet::lift` meets its contract: passes until none moves the point. Rests on Lifts.
use Prim.Native.Nat.{suc, ◌-◌, ◌≤◌}
use Rattle.types.specs.Limits.{LAST}
use Rattle.common.specs.Commit.{all_allow_at, first_in}
use Rattle.common.proofs.Lifts.{Lifting}
use Rattle.common.proofs.sets.CommonSet.lift.Given as goal

abbrev pub invariant-loop-x : goal.invariant-loop-x
invariant-loop-x g l = Lifting (all_allow_at g.E.End.point l.self (first_in l.self l.j)) l.p l.q × (l.q ≤ LAST)

abbrev pub decreases-loop-x : goal.decreases-loop-x
decreases-loop-x g l = suc LAST - l.q
