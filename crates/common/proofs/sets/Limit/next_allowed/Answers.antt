-- The access starts after the last point, or all that it allows is nearer; its writes lead nowhere, or to a point that
-- its reads allow or do not.
-- Rests on Reach.
use Prim.Native.Nat.{max}
use mathlib.Core.Path.{sym, ap, ◌∙◌}
use Rattle.common.specs.Commit.{recs_at}
use Rattle.common.proofs.Reach.{read_late, read_past, reads_led, reads_nowhere}
use Rattle.common.proofs.sets.Limit.next_allowed.Goals as goal

pub returns-then-from-gt-LAST : goal.returns-then-from-gt-LAST
returns-then-from-gt-LAST g c =
    let s = c.args.self in
    read_late g.E.End.point g.E.End.near g.E.End.far g.met.E.End.sees (recs_at s) s.slot s.access
    c.args.d c.requires.0 c.requires.1 c.if-from-gt-LAST.true

pub returns-then-far-d : goal.returns-then-far-d
returns-then-far-d g c =
    let s = c.args.self in
    read_past g.E.End.point g.E.End.near g.E.End.far g.met.E.End.sees (recs_at s) s.slot s.access
    c.args.d c.requires.0 c.requires.1 (rw c.far.ensures at c.if-far-d.true)

pub returns-in_err-q : goal.returns-in_err-q
returns-in_err-q g c =
    let s = c.args.self in
    rw c.from_residual.ensures
    (reads_nowhere g.E.End.point g.E.End.near g.E.End.far g.met.E.End.sees (recs_at s) s.slot s.access
    c.args.d c.requires.0 c.requires.1 c.if-from-gt-LAST.false _ c.read_last-last.ensures
    (c.max.ensures ∙ ap (max c.args.d) c.near.ensures)
    (sym c.in_err-q.was ∙ c.written_from.ensures))

pub returns : goal.returns
returns g c =
    let s = c.args.self in
    rw (c.then_some.ensures, c.far-2.ensures)
    (reads_led g.E.End.point g.E.End.near g.E.End.far g.met.E.End.sees (recs_at s) s.slot s.access
    c.args.d c.requires.0 c.requires.1 c.if-from-gt-LAST.false _ c.read_last-last.ensures
    (c.max.ensures ∙ ap (max c.args.d) c.near.ensures)
    (sym c.in_ok-q.was ∙ c.written_from.ensures))
