-- `tables::views::Record::locks` meets its contract: the rows of the chain are those of the decoded store. Assumes
-- nothing.
use Rattle.std.proofs.Common.{rules}
use Rattle.tables.specs.Layout.{lock_heads}
use Rattle.tables.specs.Decode.{record_at, locks_of, lock_rows}
use Rattle.tables.proofs.views.Record.locks.Goals as goal

pub rows-requires : goal.rows-requires
unfolding lock_heads
rows-requires c = search rules

pub returns : goal.returns
unfolding record_at locks_of lock_rows
returns c = search rules
