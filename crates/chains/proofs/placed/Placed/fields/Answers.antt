use borrow.Author.Rules.{rules}
use Rattle.chains.specs.Table.{chain, front}
use Rattle.chains.specs.Walker.{fields_left}
use Rattle.chains.proofs.placed.Placed.fields.Goals as goal

pub returns : goal.returns
unfolding chain front fields_left
returns c = search rules
