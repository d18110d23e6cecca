-- `chains::put` meets its contract. Rests on nothing.
use Rattle.chains.proofs.put.Goals as goal

pub returns : goal.returns
returns c = cc
