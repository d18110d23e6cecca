-- `chains::next_after` meets its contract: the head or the link word. Rests on Cells.
use mathlib.Core.Path.{sym, ◌∙◌}
use Rattle.chains.proofs.Cells.{after_head, after_link}
use Rattle.chains.proofs.next_after.Goals as goal

pub returns-then-p-eq0 : goal.returns-then-p-eq0
returns-then-p-eq0 c = c.head_of.ensures ∙ sym (after_head c.args.c.table _ _ _ _ c.if-p-eq0.true)

pub returns-else-p-eq0 : goal.returns-else-p-eq0
returns-else-p-eq0 c =
    c.link.ensures ∙ sym
    (after_link _ c.args.c.heads _ c.args.a _ c.if-p-eq0.false)
