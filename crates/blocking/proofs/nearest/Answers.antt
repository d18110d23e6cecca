-- The turns of the code are those of nearest. Rests on Extremes.
use mathlib.Core.Path.{sym, ap, ◌∙◌}
use Rattle.tables.specs.Walked.{values_left}
use Rattle.blocking.specs.Search.{nearest}
use Rattle.blocking.proofs.Extremes.{turn_stops, turn_goes}
use Rattle.blocking.proofs.nearest.Goals as goal

pub returns-then-beyond : goal.returns-then-beyond
unfolding nearest
returns-then-beyond c =
    let s = c.args in
    turn_stops _ _
    (ap (nearest s.a.mode s.a.slot s.p.low s.p.high c.loop-l.best) (sym c.in-Some.ensures.steps)
    ∙ c.loop-l.invariant)
    (sym c.beyond.ensures ∙ c.if-beyond.true)

pub loop-l-preserved : goal.loop-l-preserved
unfolding nearest
loop-l-preserved c =
    let s = c.args in
    let walk = nearest s.a.mode s.a.slot s.p.low s.p.high in
    ap (λ y. walk y (values_left c.next.new.self)) c.nearer-best.ensures
    ∙ turn_goes _ _ (ap (walk c.loop-l.best) (sym c.in-Some.ensures.steps) ∙ c.loop-l.invariant)
    (sym c.beyond.ensures ∙ c.if-beyond.false)

pub returns : goal.returns
unfolding nearest
returns c =
    let s = c.args in
    ap (nearest s.a.mode s.a.slot s.p.low s.p.high c.loop-l.best) (sym c.in-None.ensures.steps.0)
    ∙ c.loop-l.invariant
