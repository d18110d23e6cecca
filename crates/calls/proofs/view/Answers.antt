-- `calls::view` meets its contract: each refusal, and the newest version at or below the point. Rests on Viewing and
-- Checks.
use mathlib.Core.Path.{ap, ◌∙◌}
use native.Mathlib.Omega.{arith}
use Rattle.std.specs.Prelude.{Err}
use Rattle.calls.proofs.Checks.{passed, record_out, record_refused, point_out, point_past}
use Rattle.calls.proofs.Checks.{floor_out, floor_refused}
use Rattle.calls.proofs.Handles.{row_there}
use Rattle.calls.proofs.Viewing.{header_there, header_counts, viewed_no_record, viewed_bad_point, viewed_below}
use Rattle.calls.proofs.Viewing.{viewed}
use Rattle.calls.proofs.view.Goals as goal

pub counts_of-c-requires : goal.counts_of-c-requires
counts_of-c-requires c = header_there _ c.requires

pub returns-in_err-r : goal.returns-in_err-r
returns-in_err-r c =
    let r = record_refused _ _ c.record.ensures c.in_err-r.was in
    rw (passed c.from_residual.result c.from_residual.ensures.1 ∙ ap Err r.1)
    (viewed_no_record _ _ c.counts_of-c.ensures _ _ r.0)

pub returns-in_err-q : goal.returns-in_err-q
returns-in_err-q c =
    let q = point_past _ c.point.ensures c.in_err-q.was in
    rw (passed c.from_residual-in_err-q.result c.from_residual-in_err-q.ensures.1 ∙ ap Err q.1)
    (viewed_bad_point _ _ c.counts_of-c.ensures _ _ (record_out _ _ c.record.ensures c.in_ok-r.was).0 q.0)

pub invariant_of-tables : goal.invariant_of-tables
invariant_of-tables c = record { fits = header_counts _ _ c.requires c.counts_of-c.ensures }

pub invariant_of-x : goal.invariant_of-x
invariant_of-x c =
    let r = record_out _ _ c.record.ensures c.in_ok-r.was in record { there = rw r.1 (row_there _ _ r.0) }

pub overflow_add-q : goal.overflow_add-q
overflow_add-q c =
    let q = point_out _ _ c.point.ensures c.in_ok-q.was in omega (arith, q.1, q.2)

pub returns-in_err-above_floor : goal.returns-in_err-above_floor
returns-in_err-above_floor c =
    let r = record_out _ _ c.record.ensures c.in_ok-r.was in
    let q = point_out _ _ c.point.ensures c.in_ok-q.was in
    let f = floor_refused _ _ c.above_floor.ensures c.in_err-above_floor.was in
    rw (passed c.from_residual-in_err-above_floor.result c.from_residual-in_err-above_floor.ensures.1 ∙ ap Err f.1)
    (viewed_below _ _ c.counts_of-c.ensures _ _ r.0 _ q.2 q.1 (rw r.1 at f.0))

pub newest_at-v-requires : goal.newest_at-v-requires
newest_at-v-requires c =
    let q = point_out _ _ c.point.ensures c.in_ok-q.was in omega (arith, q.1, q.2)

pub returns : goal.returns
returns c =
    let r = record_out _ _ c.record.ensures c.in_ok-r.was in
    let q = point_out _ _ c.point.ensures c.in_ok-q.was in
    let f = floor_out _ _ c.above_floor.ensures c.in_ok-above_floor.was in
    viewed _ _ c.counts_of-c.ensures _ _ r.0 _ q.2 q.1 _ _ (rw r.1 at f) (rw r.1 at c.newest_at-v.ensures)
    c.from.ensures
