use borrow.Author.Rules.{rules}
use Rattle.chains.specs.Table.{chain, front}
use Rattle.chains.specs.Walker.{rows_left}
use Rattle.chains.proofs.placed.Placed.rows.Goals as goal

pub returns : goal.returns
unfolding chain front rows_left
returns c = search rules
