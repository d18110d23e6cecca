-- `tables::views::Slot::accesses` meets its contract: the rows of the chain are those of the decoded store. Assumes
-- nothing.
use Rattle.std.proofs.Common.{rules}
use Rattle.tables.specs.Layout.{access_heads}
use Rattle.tables.specs.Decode.{slot_at, accesses_of, access_rows}
use Rattle.tables.proofs.views.Slot.accesses.Goals as goal

pub rows-requires : goal.rows-requires
unfolding access_heads
rows-requires c = search rules

pub returns : goal.returns
unfolding slot_at accesses_of access_rows
returns c = search rules
