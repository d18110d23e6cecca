-- `view::view` meets its contract: the reader that `open` returns is asked once. Assumes nothing.
use Rattle.view.proofs.view.Goals as goal

pub returns : goal.returns
returns c = rw c.open.ensures at c.at.ensures
