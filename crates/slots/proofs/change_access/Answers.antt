-- `slots::change_access` meets its contract. Rests on Refills.
use Rattle.slots.proofs.Refills.{refill_row, change_access_law}
use Rattle.slots.proofs.change_access.Goals as goal

pub put_access-requires : goal.put_access-requires
put_access-requires c = (
  c.requires.0.fits,
  refill_row c.requires.0 c.requires.1 _ c.requires.2,
)

pub returns : goal.returns
returns c =
    change_access_law c.requires.0
    c.requires.1 _ c.requires.2 _
    c.requires.3 c.requires.4
    c.put_access.ensures
