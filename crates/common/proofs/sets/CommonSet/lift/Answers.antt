-- A pass that moves nothing has found the point; one that finds none ends the search. Rests on Lifts.
use Rattle.common.proofs.Lifts.{lift_on, lift_found, lift_none}
use Rattle.common.proofs.sets.CommonSet.lift.Goals as goal

pub returns-in_err-x : goal.returns-in_err-x
returns-in_err-x g c =
    rw c.from_residual.ensures (lift_none (lift_on c.loop-x.invariant.0 (rw c.in_err-x.was at c.raise.ensures)))

pub returns-then-x-q : goal.returns-then-x-q
returns-then-x-q g c =
    let b = rw c.in_ok-x.was at c.raise.ensures in
    (lift_found c.loop-x.invariant.0 b.0 c.if-x-q.true c.loop-x.invariant.1, c.loop-x.invariant.1)

pub loop-x-preserved : goal.loop-x-preserved
loop-x-preserved g c = let b = rw c.in_ok-x.was at c.raise.ensures in (lift_on c.loop-x.invariant.0 b.0, b.1)
