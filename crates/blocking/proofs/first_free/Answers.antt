-- What the walk has found where it ends is the least free point: by the turns of reach, and Free.
use mathlib.Core.Path.{◌≡◌, sym, ap, ◌∙◌}
use lib.Dec.{leb}
use Rattle.std.specs.Bool.{then_some}
use Rattle.tables.specs.Views.{rec_in}
use Rattle.tables.specs.Walked.{values_left}
use Rattle.blocking.specs.Search.{reach}
use Rattle.blocking.proofs.Extremes.{turn_stops, turn_goes}
use Rattle.blocking.proofs.Free.{reach_free}
use Rattle.blocking.proofs.first_free.Goals.{in-None, in-Some+then-stops}
use Rattle.blocking.proofs.first_free.Goals as goal

pub loop-l-preserved : goal.loop-l-preserved
unfolding reach
loop-l-preserved c =
    let s = c.args in
    ap (λ y. reach s.which s.p.high y (values_left c.next.new.self)) c.further-end.ensures
    ∙ turn_goes _ _
    (ap (reach s.which s.p.high c.loop-l.end) (sym c.in-Some.ensures.steps) ∙ c.loop-l.invariant)
    (sym c.stops.ensures ∙ c.if-stops.false)

pub returns : goal.returns
unfolding reach
returns c =
    let s = c.args in
    let walked : c.loop-l.end ≡ reach s.which s.p.high s.p.low (rec_in s.r).locks =
    elim c.match-next.branch [
      | in-None w ↦ ap (reach s.which s.p.high c.loop-l.end) (sym w.in-None.ensures.steps.0) ∙ c.loop-l.invariant
      | in-Some+then-stops w ↦
          turn_stops _ _
          (ap (reach s.which s.p.high c.loop-l.end) (sym w.in-Some.ensures.steps) ∙ c.loop-l.invariant)
          (sym w.stops.ensures ∙ w.if-stops.true)
    ] in
    c.then_some.ensures
    ∙ ap (λ q. then_some (leb q s.p.high) q) (walked ∙ reach_free s.which s.p.high _ _ c.requires s.p.order)
