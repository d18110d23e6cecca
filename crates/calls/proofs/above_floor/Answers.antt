-- `calls::above_floor` meets its contract. Rests on Checks.
use Rattle.calls.proofs.Checks.{floor_not, floor_above}
use Rattle.calls.proofs.above_floor.Goals as goal

pub returns-then-p-floor : goal.returns-then-p-floor
returns-then-p-floor c = rw c.floor.ensures at (floor_not _ _ c.if-p-floor.true)

pub returns : goal.returns
returns c = rw c.floor.ensures at (floor_above _ _ c.if-p-floor.false)
