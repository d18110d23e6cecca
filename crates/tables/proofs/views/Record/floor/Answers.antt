-- `tables::views::Record::floor` meets its contract. Assumes nothing.
use Rattle.std.proofs.Common.{rules}
use Rattle.tables.specs.Layout.{record_table}
use Rattle.tables.specs.Decode.{record_at, floor_of}
use Rattle.tables.proofs.views.Record.floor.Goals as goal

pub word-requires : goal.word-requires
unfolding record_table
word-requires c = search rules

pub returns : goal.returns
unfolding record_at floor_of
returns c = search rules
