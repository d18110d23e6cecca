-- `locking::lock` meets its contract: each refusal, and what `lock_wanted` makes. Rests on Locking and Checks.
use mathlib.Core.Path.{ap, ◌∙◌}
use Rattle.std.specs.Prelude.{Err}
use Rattle.calls.proofs.Acting.{has_header, ready, slot_row}
use Rattle.calls.proofs.Checks.{passed, open_out, record_out, record_refused, point_out, point_refused}
use Rattle.calls.proofs.Checks.{floor_out, floor_refused}
use Rattle.calls.proofs.Handles.{row_there}
use Rattle.locking.proofs.Locking.{locked_closed, locked_no_record, locked_bad_point}
use Rattle.locking.proofs.Locking.{locked_below_lem, lock_acts}
use Rattle.locking.proofs.lock.Goals as goal

pub counts_of-c-requires : goal.counts_of-c-requires
counts_of-c-requires c = has_header _ c.requires

pub invariant_of-tables : goal.invariant_of-tables
invariant_of-tables c = record { fits = (ready _ c.requires _ c.counts_of-c.ensures).well.fits }

pub returns-in_err-k : goal.returns-in_err-k
returns-in_err-k c =
    rw (passed c.from_residual.result c.from_residual.ensures.1)
    (locked_closed _ _ c.requires c.counts_of-c.ensures _ _ _ _ _ c.open_slot.ensures c.in_err-k.was)

pub returns-in_err-r : goal.returns-in_err-r
returns-in_err-r c =
    let o = open_out _ _ c.open_slot.ensures c.in_ok-k.was in
    let r = record_refused _ _ c.record.ensures c.in_err-r.was in
    rw (passed c.from_residual-in_err-r.result c.from_residual-in_err-r.ensures.1 ∙ ap Err r.1)
    (locked_no_record _ _ c.requires c.counts_of-c.ensures _ _ _ _ _ o.0 o.1 r.0)

pub returns-in_err-to : goal.returns-in_err-to
returns-in_err-to c =
    let o = open_out _ _ c.open_slot.ensures c.in_ok-k.was in
    let r = record_out _ _ c.record.ensures c.in_ok-r.was in
    let p = point_refused _ _ c.point.ensures c.in_err-to.was in
    rw (passed c.from_residual-in_err-to.result c.from_residual-in_err-to.ensures.1 ∙ ap Err p.1)
    (locked_bad_point _ _ c.requires c.counts_of-c.ensures _ _ _ _ _ o.0 o.1 r.0 (rw c.from-from.ensures at p.0))

pub invariant_of-x : goal.invariant_of-x
invariant_of-x c =
    let r = record_out _ _ c.record.ensures c.in_ok-r.was in record { there = rw r.1 (row_there _ _ r.0) }

pub returns-in_err-above_floor : goal.returns-in_err-above_floor
returns-in_err-above_floor c =
    let o = open_out _ _ c.open_slot.ensures c.in_ok-k.was in
    let r = record_out _ _ c.record.ensures c.in_ok-r.was in
    let p = point_out _ _ c.point.ensures c.in_ok-to.was in
    let f = floor_refused _ _ c.above_floor.ensures c.in_err-above_floor.was in
    rw (passed c.from_residual-in_err-above_floor.result c.from_residual-in_err-above_floor.ensures.1 ∙ ap Err f.1)
    (locked_below_lem _ _ c.requires c.counts_of-c.ensures _ _ _ _ _ o.0 o.1 r.0 (rw c.from-from.ensures at p.0) p.1
    (rw (r.1, c.from-from.ensures) at f.0))

pub invariant_of-p : goal.invariant_of-p
invariant_of-p c =
    let p = point_out _ _ c.point.ensures c.in_ok-to.was in record { order = rw p.2 p.0; last = rw p.2 p.1 }

pub lock_wanted-requires : goal.lock_wanted-requires
lock_wanted-requires c =
    let o = open_out _ _ c.open_slot.ensures c.in_ok-k.was in
    let r = record_out _ _ c.record.ensures c.in_ok-r.was in (
      ready _ c.requires _ c.counts_of-c.ensures,
      rw o.2 (slot_row _ _ _ o.0),
      rw r.1 (row_there _ _ r.0),
    )

pub returns : goal.returns
returns c =
    let o = open_out _ _ c.open_slot.ensures c.in_ok-k.was in
    let r = record_out _ _ c.record.ensures c.in_ok-r.was in
    let p = point_out _ _ c.point.ensures c.in_ok-to.was in
    let f = floor_out _ _ c.above_floor.ensures c.in_ok-above_floor.was in
    lock_acts _ _ c.requires c.counts_of-c.ensures _ _ _ _ _ o.0 o.1 r.0 (rw c.from-from.ensures at p.0) p.1
    (rw (r.1, c.from-from.ensures) at f) _ _ _ _ _ o.2 c.from-from.ensures p.2 (rw r.1 at c.lock_wanted.ensures)
