-- `tables::views::Record::versions` meets its contract: the rows of the chain are those of the decoded store. Assumes
-- nothing.
use Rattle.std.proofs.Common.{rules}
use Rattle.tables.specs.Layout.{version_heads}
use Rattle.tables.specs.Decode.{record_at, versions_of, version_rows}
use Rattle.tables.proofs.views.Record.versions.Goals as goal

pub rows-requires : goal.rows-requires
unfolding version_heads
rows-requires c = search rules

pub returns : goal.returns
unfolding record_at versions_of version_rows
returns c = search rules
