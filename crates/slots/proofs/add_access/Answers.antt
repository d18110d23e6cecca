-- `slots::add_access` meets its contract. Rests on Accesses and on Rooms of `tables`.
use Rattle.tables.proofs.Rooms.{free_access}
use Rattle.slots.proofs.Accesses.{access_row, access_moved_fits, add_access_law}
use Rattle.slots.proofs.add_access.Goals as goal

pub returns-in_default : goal.returns-in_default
returns-in_default c = absurd (free_access c.requires.0 c.requires.3 c.in_default.ensures.head)

pub put_access-requires : goal.put_access-requires
put_access-requires c = (
  access_moved_fits c.requires.0 c.requires.1 c.in-Some.ensures,
  access_row c.requires.0 c.requires.1 c.in-Some.ensures,
)

pub returns : goal.returns
returns c =
    add_access_law c.requires.0 c.requires.1
    c.in-Some.ensures _ c.requires.2
    c.put_access.ensures
