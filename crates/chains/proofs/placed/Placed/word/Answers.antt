-- `chains::placed::Placed::word` meets its contract. Rests on nothing.
use Rattle.chains.specs.Table.{field}
use Rattle.chains.proofs.placed.Placed.word.Goals as goal

pub returns : goal.returns
unfolding field
returns c = cc
