-- `slots::take_access` meets its contract. Rests on Accesses.
use Rattle.slots.proofs.Accesses.{access_ready}
use Rattle.slots.proofs.take_access.Goals as goal

pub move_first-requires : goal.move_first-requires
move_first-requires c =
    rw (c.table.ensures, c.heads.ensures)
    (access_ready c.requires.0 c.requires.1)

pub returns : goal.returns
returns c =
    rw (c.table.ensures, c.heads.ensures) at
    c.move_first.ensures
