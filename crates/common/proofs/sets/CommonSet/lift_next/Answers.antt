-- `CommonSet::lift_next` meets its contract: one access more. Rests on Lifts.
use mathlib.Core.Path.{refl}
use native.Mathlib.Omega.{arith}
use Rattle.common.specs.Commit.{allows_at, recs_in}
use Rattle.common.proofs.Lifts.{next_same, next_none, next_out, next_still, next_to}
use Rattle.common.proofs.sets.CommonSet.lift_next.Goals as goal

pub returns-in_err-moved : goal.returns-in_err-moved
returns-in_err-moved g c =
    let s = c.args.self in
    rw c.from_residual.ensures
    (next_none (allows_at g.E.End.point (recs_in s) s.slot.number) c.requires.3 c.requires.4.0
    (rw (c.limit.ensures.0, c.limit.ensures.1, c.limit.ensures.2, c.in_err-moved.was) at c.next_allowed.ensures)
    (omega arith))

pub returns-then-moved-p : goal.returns-then-moved-p
returns-then-moved-p g c =
    let s = c.args.self in
    let b = rw (c.limit.ensures.0, c.limit.ensures.1, c.limit.ensures.2, c.in_ok-moved.was) at
    c.next_allowed.ensures in (
      next_same (allows_at g.E.End.point (recs_in s) s.slot.number) c.requires.3 c.requires.4.0 b.0 c.if-moved-p.true,
      c.requires.4.1,
    )

pub returns-in_err-q : goal.returns-in_err-q
returns-in_err-q g c =
    let s = c.args.self in
    let b = rw (c.limit.ensures.0, c.limit.ensures.1, c.limit.ensures.2, c.in_ok-moved.was) at c.next_allowed.ensures in
    rw c.from_residual-in_err-q.ensures
    (next_out (allows_at g.E.End.point (recs_in s) s.slot.number) c.requires.3 c.requires.4.0 b.0
    (rw c.in_err-q.was at c.raise.ensures) refl)

pub returns-then-q-moved : goal.returns-then-q-moved
returns-then-q-moved g c =
    let s = c.args.self in
    let b = rw (c.limit.ensures.0, c.limit.ensures.1, c.limit.ensures.2, c.in_ok-moved.was) at c.next_allowed.ensures in
    let r = rw c.in_ok-q.was at c.raise.ensures in (
      next_still (allows_at g.E.End.point (recs_in s) s.slot.number) c.requires.3 c.requires.4.0 b.0 r.0
          c.if-q-moved.true,
      r.1,
    )

pub returns : goal.returns
returns g c =
    let s = c.args.self in
    let b = rw (c.limit.ensures.0, c.limit.ensures.1, c.limit.ensures.2, c.in_ok-moved.was) at c.next_allowed.ensures in
    let r = rw c.in_ok-q.was at c.raise.ensures in
    next_to (allows_at g.E.End.point (recs_in s) s.slot.number) c.requires.3 c.requires.4.0 b.0 r.0 _ c.lift.ensures
