-- `reading::read` meets its contract: each refusal, and what `read_open` makes. Rests on Reading and Checks.
use mathlib.Core.Path.{ap, ◌∙◌}
use Rattle.std.specs.Prelude.{Err}
use Rattle.calls.proofs.Acting.{has_header, ready, slot_row, indexed_at}
use Rattle.calls.proofs.Checks.{passed, open_out, record_out, record_refused, point_out, point_refused}
use Rattle.calls.proofs.Handles.{row_there}
use Rattle.reading.proofs.Reading.{reads_closed, reads_no_record, reads_bad_point, read_acts}
use Rattle.reading.proofs.read.Goals as goal

pub counts_of-c-requires : goal.counts_of-c-requires
counts_of-c-requires c = has_header _ c.requires.0

pub invariant_of-tables : goal.invariant_of-tables
invariant_of-tables c = record { fits = (ready _ c.requires.0 _ c.counts_of-c.ensures).well.fits }

pub returns-in_err-k : goal.returns-in_err-k
returns-in_err-k c =
    rw (passed c.from_residual.result c.from_residual.ensures.1)
    (reads_closed _ _ c.requires.0 c.counts_of-c.ensures _ _ _ _ c.open_slot.ensures c.in_err-k.was)

pub returns-in_err-r : goal.returns-in_err-r
returns-in_err-r c =
    let o = open_out _ _ c.open_slot.ensures c.in_ok-k.was in
    let r = record_refused _ _ c.record.ensures c.in_err-r.was in
    rw (passed c.from_residual-in_err-r.result c.from_residual-in_err-r.ensures.1 ∙ ap Err r.1)
    (reads_no_record _ _ c.requires.0 c.counts_of-c.ensures _ _ _ _ o.0 o.1 r.0)

pub returns-in_err-n : goal.returns-in_err-n
returns-in_err-n c =
    let o = open_out _ _ c.open_slot.ensures c.in_ok-k.was in
    let r = record_out _ _ c.record.ensures c.in_ok-r.was in
    let n = point_refused _ _ c.point.ensures c.in_err-n.was in
    rw (passed c.from_residual-in_err-n.result c.from_residual-in_err-n.ensures.1 ∙ ap Err n.1)
    (reads_bad_point _ _ c.requires.0 c.counts_of-c.ensures _ _ _ _ o.0 o.1 r.0 n.0)

pub read_open-requires : goal.read_open-requires
read_open-requires c =
    let o = open_out _ _ c.open_slot.ensures c.in_ok-k.was in
    let r = record_out _ _ c.record.ensures c.in_ok-r.was in
    let n = point_out _ _ c.point.ensures c.in_ok-n.was in (
      ready _ c.requires.0 _ c.counts_of-c.ensures,
      rw o.2 (slot_row _ _ _ o.0),
      rw r.1 (row_there _ _ r.0),
      rw n.2 n.1,
      indexed_at _ _ c.counts_of-c.ensures c.requires.1,
    )

pub returns : goal.returns
returns c =
    let o = open_out _ _ c.open_slot.ensures c.in_ok-k.was in
    let r = record_out _ _ c.record.ensures c.in_ok-r.was in
    let n = point_out _ _ c.point.ensures c.in_ok-n.was in
    read_acts _ _ c.requires.0 c.counts_of-c.ensures _ _ _ _ o.0 o.1 r.0 n.0 n.1 _ _ _ _ o.2 n.2
    (rw r.1 at c.read_open.ensures)
