-- `index::begun` meets its contract. Rests on Noting.
use Rattle.index.proofs.Noting.{begun_clear}
use Rattle.index.proofs.begun.Goals as goal

pub returns-in-Ok : goal.returns-in-Ok
returns-in-Ok c =
    begun_clear _ _ _ _ _ c.in-Ok.is c.slot.ensures c.clear.ensures
