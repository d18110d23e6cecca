-- Each turn takes one access more, until none is left or no point is. Rests on Lifts and on Fronts.
use mathlib.Core.Path.{ap, ◌∙◌}
use mathlib.Core.Logic.{inl}
use native.Mathlib.Omega.{arith}
use Rattle.std.specs.Iterator.Adapters.{enumerate_source, enumerate_count}
use Rattle.tables.specs.Walked.{values_left}
use Rattle.common.specs.Commit.{allows_at, recs_in}
use Rattle.common.proofs.Common.{named_next}
use Rattle.common.proofs.Fronts.{countable}
use Rattle.common.proofs.Lifts.{seek_start, seek_next, seek_on, seek_out, seek_done}
use Rattle.common.proofs.sets.CommonSet.nearest.Goals as goal

pub loop-j-init-derived : goal.loop-j-init-derived
loop-j-init-derived g c =
    let s = c.enumerate-j-items.ensures in
    let e = c.into_iter-j-iterator.ensures.into_iter_gives in
    let l =
    ap (λ t. values_left (enumerate_source t)) e ∙ ap values_left s.source ∙ c.accesses.ensures in
    ((tt, tt, inl (countable _ _ _ c.args.self.slot.tables.fits.ranged (ap enumerate_count e ∙ s.count) l)), tt)

pub loop-j-init : goal.loop-j-init
loop-j-init g c =
    let s = c.enumerate-j-items.ensures in
    let e = c.into_iter-j-iterator.ensures.into_iter_gives in
    let t = c.args.self in
    seek_start (allows_at g.E.End.point (recs_in t) t.slot.number) _ _ _
    (ap enumerate_count e ∙ s.count)
    (ap (λ t. values_left (enumerate_source t)) e ∙ ap values_left s.source ∙ c.accesses.ensures) t.named

pub lift_next-requires : goal.lift_next-requires
lift_next-requires g c =
    let t = c.in-Some.ensures.steps in
    let s = c.args.self in
    let n = seek_next (allows_at g.E.End.point (recs_in s) s.slot.number) _ _ _ c.loop-j.invariant t.0 t.1 in
    (n.2.from, n.0, named_next _ _ c.loop-j.invariant.named t.0, n.1, (n.2, c.loop-j.invariant.low))

pub returns-in_err-p : goal.returns-in_err-p
returns-in_err-p g c =
    let s = c.args.self in
    rw c.from_residual.ensures
    (seek_out (allows_at g.E.End.point (recs_in s) s.slot.number) _ _ _ _ (rw c.in_err-p.was at c.lift_next.ensures)
    (omega arith))

pub loop-j-preserved : goal.loop-j-preserved
loop-j-preserved g c =
    let t = c.in-Some.ensures.steps in
    let s = c.args.self in
    let b = rw c.in_ok-p.was at c.lift_next.ensures in
    seek_on (allows_at g.E.End.point (recs_in s) s.slot.number) _ _ _ c.loop-j.invariant t.0 t.1 t.2 b.0 b.1

pub returns : goal.returns
returns g c =
    let s = c.args.self in (
      seek_done (allows_at g.E.End.point (recs_in s) s.slot.number) _ _ _ c.loop-j.invariant
          c.in-None.ensures.steps.0.0,
      c.loop-j.invariant.low,
    )
