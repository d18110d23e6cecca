-- `endings::finish_slot` meets its contract. Rests on nothing.
use mathlib.Core.Path.{refl}
use Rattle.endings.proofs.finish_slot.Goals as goal

pub settle_slot-requires : goal.settle_slot-requires
settle_slot-requires c = (
  c.requires.0,
  c.requires.1,
  c.requires.2,
)

pub returns-in-Settle : goal.returns-in-Settle
returns-in-Settle c = rw c.in-Settle.is c.settle_slot.ensures

pub returns-in-Keep : goal.returns-in-Keep
returns-in-Keep c =
    rw c.in-Keep.is (record { well = c.requires.0.well; means = refl })
