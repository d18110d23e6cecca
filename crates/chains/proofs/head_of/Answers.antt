-- `chains::head_of` meets its contract. Rests on nothing.
use Rattle.chains.specs.Table.{head_of}
use Rattle.chains.proofs.head_of.Goals as goal

pub returns : goal.returns
unfolding head_of
returns c = cc
