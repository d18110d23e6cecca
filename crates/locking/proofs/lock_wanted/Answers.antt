-- `locking::lock_wanted` meets its contract: blocked, no lock row, or the points locked. Rests on Locking.
use Rattle.calls.proofs.Answers.{off, on}
use Rattle.calls.proofs.Rooms.{lock_free, owner_small}
use Rattle.locking.proofs.Locking.{wanted_by_small, wanted_blocked, wanted_no_room, wanted_done}
use native.Mathlib.Omega.{arith}
use Rattle.locking.proofs.lock_wanted.Goals as goal

pub lock_grant-requires : goal.lock_grant-requires
lock_grant-requires c = (c.requires.0, c.requires.1.low)

pub judge-requires : goal.judge-requires
judge-requires c = (
  c.requires.0,
  wanted_by_small _ _ c.requires.0 _ _ _ _ _ _ c.lock_grant.ensures _
      c.in-Err.is,
)

pub lock_room-requires : goal.lock_room-requires
lock_room-requires c = c.requires.0.well

pub returns-then-not-lock_room : goal.returns-then-not-lock_room
returns-then-not-lock_room c =
    wanted_no_room _ _ c.requires.0 _ _ _ _ _ _
    c.lock_grant.ensures _ _
    c.in-Ok.is (off c.lock_room.ensures c.if-not-lock_room.true)

pub add_lock-requires : goal.add_lock-requires
add_lock-requires c = (
  c.requires.0.well,
  c.requires.2,
  omega arith,
  owner_small _ _ c.requires.0.well.fits _ c.requires.1,
  lock_free _ _ (on c.lock_room.ensures c.if-not-lock_room.false),
)

pub returns-in-Err : goal.returns-in-Err
returns-in-Err c =
    wanted_blocked _ _ c.requires.0 _ _ _ _ _ _ c.lock_grant.ensures _
    c.in-Err.is _ _ c.judge.ensures

pub returns-else-not-lock_room : goal.returns-else-not-lock_room
returns-else-not-lock_room c =
    wanted_done _ _ c.requires.0 _ _ _ _ _ _ c.lock_grant.ensures _ _
    c.in-Ok.is
    (on c.lock_room.ensures c.if-not-lock_room.false) _ _ _
    c.add_lock.ensures.becomes c.from.ensures
    c.from-in-Ok.ensures
