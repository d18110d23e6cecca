-- `store::format` meets its contract: it is the contract of `format::format`. Assumes nothing.
use Rattle.store.proofs.format.Goals as goal

pub returns : goal.returns
returns c = c.format.ensures
