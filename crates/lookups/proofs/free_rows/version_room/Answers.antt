-- `lookups::free_rows::version_room` meets its contract. Rests on Rooms.
use Rattle.lookups.proofs.Rooms.{version_room_is}
use Rattle.lookups.proofs.free_rows.version_room.Goals as goal

pub returns : goal.returns
returns c =
    version_room_is c.args.s.tables.counts c.args.s.tables.words.now c.args.s.number c.args.s.there
    c.written_count.ensures c.has_free.ensures
