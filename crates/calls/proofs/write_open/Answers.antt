-- `calls::write_open` meets its contract: no access row, or the value stored. Rests on Writing, Rooms and Answers.
use Rattle.lookups.proofs.Found.{access_row_in}
use Rattle.calls.proofs.Answers.{off, on}
use Rattle.calls.proofs.Rooms.{once}
use Rattle.calls.proofs.Writing.{open_no_room, open_wrote}
use Rattle.calls.proofs.write_open.Goals as goal

pub access_row-i-requires : goal.access_row-i-requires
access_row-i-requires c = (c.requires.2, c.requires.3)

pub access_room-requires : goal.access_room-requires
access_room-requires c = c.requires.0.well

pub returns-then-not-access_room : goal.returns-then-not-access_room
returns-then-not-access_room c =
    open_no_room _ _ c.requires.0 _ _ _
    (off (c.access_room.ensures c.args.k c.args.rec c.requires.1 c.access_row-i.ensures) c.if-not-access_room.true)

pub access_in-requires : goal.access_in-requires
access_in-requires c = access_row_in _ _ c.args.k c.args.rec c.access_row-i.ensures

pub set_access-requires : goal.set_access-requires
set_access-requires c = (
  c.requires.0.well,
  c.requires.1,
  once _ _ c.requires.0 _,
  on (c.access_room.ensures c.args.k
      c.args.rec c.requires.1 c.access_row-i.ensures) c.if-not-access_room.false,
  c.access_row-i.ensures,
)

pub returns : goal.returns
returns c =
    open_wrote _ _ c.requires.0 _ _ _ c.requires.1 (on (c.access_room.ensures c.args.k
    c.args.rec c.requires.1 c.access_row-i.ensures) c.if-not-access_room.false) _
    (c.access_in.ensures c.args.k c.access_row-i.ensures) _ c.set_access.ensures
