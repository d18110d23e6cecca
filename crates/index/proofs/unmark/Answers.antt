-- `index::unmark` meets its contract. Rests on Says.
use Rattle.index.proofs.Says.{unmarked, not_unmarked}
use Rattle.index.proofs.unmark.Goals as goal

pub returns-then-r-lt-MARKS : goal.returns-then-r-lt-MARKS
returns-then-r-lt-MARKS c = unmarked _ _ _ c.if-r-lt-MARKS.true

pub returns-else-r-lt-MARKS : goal.returns-else-r-lt-MARKS
returns-else-r-lt-MARKS c = not_unmarked _ _ _ c.if-r-lt-MARKS.false
