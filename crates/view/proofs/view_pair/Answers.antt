-- `view::view_pair` meets its contract: one reader is asked twice. Assumes nothing.
use Rattle.view.proofs.view_pair.Goals as goal

pub returns : goal.returns
returns c = (rw c.open-chart.ensures at c.at.ensures, rw c.open-chart.ensures at c.at-2.ensures)
