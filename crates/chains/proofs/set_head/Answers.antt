-- `chains::set_head` meets its contract. Rests on nothing.
use Rattle.chains.proofs.set_head.Goals as goal

pub returns : goal.returns
returns c = cc
