-- `lookups::free_rows::access_room` meets its contract. Rests on Rooms.
use mathlib.Core.Path.{◌∙◌, sym}
use Rattle.lookups.proofs.Rooms.{access_room_named, access_room_is}
use Rattle.lookups.proofs.free_rows.access_room.Goals as goal

pub returns-then-is_some : goal.returns-then-is_some
returns-then-is_some c k r l e =
    c.if-is_some.true ∙ access_room_named c.args.t.counts c.args.t.words.now k r l e
    (sym c.is_some.ensures ∙ c.if-is_some.true)

pub returns-else-is_some : goal.returns-else-is_some
returns-else-is_some c k r l e =
    access_room_is c.args.t.counts c.args.t.words.now k r l e (sym c.is_some.ensures ∙ c.if-is_some.false)
    c.has_free.ensures
