-- `store::point` meets its contract: it is the contract of `types::make_point`. Assumes nothing.
use Rattle.store.proofs.point.Goals as goal

pub returns : goal.returns
returns c = c.of.ensures
