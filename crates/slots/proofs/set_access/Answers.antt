-- `slots::set_access` meets its contract. Rests on Finds.
use Rattle.slots.proofs.Finds.{row_some, row_none, room_none}
use Rattle.slots.proofs.set_access.Goals as goal

pub add_access-requires : goal.add_access-requires
add_access-requires c =
    let n = row_none _ _ _ _ c.requires.1 (rw c.in-None.is at c.requires.4) in (
      c.requires.0,
      c.requires.1,
      n,
      room_none _ _ _ _ c.requires.3 n,
    )

pub change_access-requires : goal.change_access-requires
change_access-requires c =
    let q = row_some _ _ _ _ (rw c.in-Some.is at c.requires.4) in (
      c.requires.0,
      c.requires.1,
      q.0,
      q.1,
      c.requires.2,
    )
