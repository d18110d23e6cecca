-- What a record and an edit slot of the tables are in the meaning. Rests on Decode.
use Rattle.meaning.specs.Store.{Rec, Edit, Store}
use Rattle.tables.specs.Decode.{record_at, slot_at, decode_at}
use Rattle.tables.specs.declared.views.Tables.{Tables}
use Rattle.tables.specs.declared.views.Record.{Record}
use Rattle.tables.specs.declared.views.Slot.{Slot}

abbrev pub store_in : Tables → Store
store_in t = decode_at t.counts t.words.now

abbrev pub rec_in : Record → Rec
rec_in r = record_at r.tables.counts r.tables.words.now r.number

abbrev pub edit_in : Slot → Edit
edit_in s = slot_at s.tables.counts s.tables.words.now s.number
