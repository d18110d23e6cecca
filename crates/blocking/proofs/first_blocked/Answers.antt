-- `blocking::first_blocked` meets its contract: nobody blocks, the point found is frozen, or the lowest slot holds it.
-- Rests on Judged.
use mathlib.Core.Path.{sym, ◌∙◌}
use Rattle.blocking.proofs.Judged.{judged_nobody, judged_frozen, judged_held}
use Rattle.blocking.proofs.first_blocked.Goals as goal

pub returns-in_err-b : goal.returns-in_err-b
returns-in_err-b c =
    let t = c.args.r.tables in
    c.from_residual.ensures
    ∙ judged_nobody t.counts t.words.now _ _ _ _ _ c.args.r.there c.args.p.order c.requires.2
    (sym c.in_err-b.was ∙ c.nearest.ensures)

pub returns-then-is_frozen : goal.returns-then-is_frozen
returns-then-is_frozen c =
    let t = c.args.r.tables in
    judged_frozen t.counts t.words.now _ _ _ _ _ c.args.r.there c.args.p.order c.requires.2 c.requires.0
    c.requires.1 _ (sym c.in_ok-b.was ∙ c.nearest.ensures) c.is_frozen.ensures c.if-is_frozen.true

pub returns-else-is_frozen : goal.returns-else-is_frozen
returns-else-is_frozen c =
    let t = c.args.r.tables in
    judged_held t.counts t.words.now _ _ _ _ _ c.args.r.there c.args.p.order c.requires.2 c.requires.0
    c.requires.1 _ (sym c.in_ok-b.was ∙ c.nearest.ensures) c.is_frozen.ensures c.if-is_frozen.false
