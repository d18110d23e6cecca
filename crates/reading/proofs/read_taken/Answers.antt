-- `reading::read_taken` meets its contract: no access row, no lock row, or the access and the lock stored. Rests on
-- Reading.
use native.Mathlib.Omega.{arith}
use Rattle.calls.proofs.Answers.{off, on}
use Rattle.calls.proofs.Rooms.{once, owner_small}
use Rattle.reading.proofs.Reading.{taken_no_access, taken_no_lock, taken_room, taken_done}
use Rattle.reading.proofs.read_taken.Goals as goal

pub access_room-requires : goal.access_room-requires
access_room-requires c = c.requires.0.well

pub returns-then-not-access_room : goal.returns-then-not-access_room
returns-then-not-access_room c =
    taken_no_access _ _ c.requires.0 _ _ _ _ _
    (off (c.access_room.ensures c.args.k c.args.r c.requires.1 c.requires.3) c.if-not-access_room.true)

pub lock_room-requires : goal.lock_room-requires
lock_room-requires c = c.requires.0.well

pub returns-then-not-lock_room : goal.returns-then-not-lock_room
returns-then-not-lock_room c =
    taken_no_lock _ _ c.requires.0 _ _ _ _ _
    (on (c.access_room.ensures c.args.k c.args.r c.requires.1 c.requires.3)
    c.if-not-access_room.false)
    (off c.lock_room.ensures c.if-not-lock_room.true)

pub set_access-requires : goal.set_access-requires
set_access-requires c = (
  c.requires.0.well,
  c.requires.1,
  once _ _ c.requires.0 _,
  on (c.access_room.ensures c.args.k c.args.r c.requires.1
      c.requires.3)
      c.if-not-access_room.false,
  c.requires.3,
)

pub add_lock-requires : goal.add_lock-requires
add_lock-requires c = (
  c.set_access.ensures.well,
  c.requires.2,
  omega arith,
  owner_small _ _ c.requires.0.well.fits _ c.requires.1,
  taken_room _ _ c.requires.0 _ _ _ c.args.end c.args.v
      (on (c.access_room.ensures c.args.k c.args.r c.requires.1 c.requires.3)
      c.if-not-access_room.false)
      (on c.lock_room.ensures c.if-not-lock_room.false) _
      c.set_access.ensures,
)

pub returns : goal.returns
returns c =
    taken_done _ _ c.requires.0 _ _ _ _ _
    (on (c.access_room.ensures c.args.k c.args.r
    c.requires.1 c.requires.3)
    c.if-not-access_room.false)
    (on c.lock_room.ensures c.if-not-lock_room.false) _
    c.set_access.ensures _ _ _ c.add_lock.ensures.becomes
    c.from.ensures c.from-2.ensures
