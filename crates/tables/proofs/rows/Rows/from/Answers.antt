use borrow.Author.Rules.{rules}
use Rattle.chains.specs.Table.{chain, front}
use Rattle.tables.specs.Walked.{values_left}
use Rattle.tables.proofs.rows.Rows.from.Goals as goal

pub returns : goal.returns
unfolding chain front values_left
returns g c = search rules
