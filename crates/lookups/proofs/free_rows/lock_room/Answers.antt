-- `lookups::free_rows::lock_room` meets its contract. Rests on Rooms.
use Rattle.lookups.proofs.Rooms.{lock_room_is}
use Rattle.lookups.proofs.free_rows.lock_room.Goals as goal

pub returns : goal.returns
returns c = lock_room_is c.args.t.counts c.args.t.words.now c.has_free.ensures
