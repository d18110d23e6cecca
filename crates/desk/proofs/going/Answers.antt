-- `going` meets its contract: an ended session is refused. Assumes nothing.
use mathlib.Core.Path.{sym, ◌∙◌}
use Rattle.desk.proofs.going.Goals as goal

pub returns-then-has_ended : goal.returns-then-has_ended
returns-then-has_ended c = (sym c.has_ended.ensures ∙ c.if-has_ended.true, c.refuse_ended.ensures)

pub returns : goal.returns
returns c = sym c.has_ended.ensures ∙ c.if-has_ended.false
