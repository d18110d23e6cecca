-- `calls::write` meets its contract: each refusal, and what `write_open` makes. Rests on Writing, Checks and Answers.
use mathlib.Core.Path.{ap, ◌∙◌}
use Rattle.std.specs.Prelude.{Err}
use Rattle.calls.proofs.Acting.{has_header, ready, slot_row, indexed_at}
use Rattle.calls.proofs.Checks.{passed, open_out, record_out, record_refused}
use Rattle.calls.proofs.Handles.{row_there}
use Rattle.calls.proofs.Writing.{wrote_closed, wrote_no_record, wrote}
use Rattle.calls.proofs.write.Goals as goal

pub counts_of-c-requires : goal.counts_of-c-requires
counts_of-c-requires c = has_header _ c.requires.0

pub invariant_of-tables : goal.invariant_of-tables
invariant_of-tables c = record { fits = (ready _ c.requires.0 _ c.counts_of-c.ensures).well.fits }

pub returns-in_err-k : goal.returns-in_err-k
returns-in_err-k c =
    rw (passed c.from_residual.result c.from_residual.ensures.1)
    (wrote_closed _ _ c.requires.0 c.counts_of-c.ensures _ _ _ c.open_slot.ensures c.in_err-k.was)

pub returns-in_err-record : goal.returns-in_err-record
returns-in_err-record c =
    let o = open_out _ _ c.open_slot.ensures c.in_ok-k.was in
    let r = record_refused _ _ c.record.ensures c.in_err-record.was in
    rw (passed c.from_residual-in_err-record.result c.from_residual-in_err-record.ensures.1 ∙ ap Err r.1)
    (wrote_no_record _ _ c.requires.0 c.counts_of-c.ensures _ _ _ o.0 o.1 r.0)

pub write_open-requires : goal.write_open-requires
write_open-requires c =
    let o = open_out _ _ c.open_slot.ensures c.in_ok-k.was in
    let r = record_out _ _ c.record.ensures c.in_ok-record.was in (
      ready _ c.requires.0 _ c.counts_of-c.ensures,
      rw o.2 (slot_row _ _ _ o.0),
      row_there _ _ r.0,
      indexed_at _ _ c.counts_of-c.ensures c.requires.1,
    )

pub returns : goal.returns
returns c =
    let o = open_out _ _ c.open_slot.ensures c.in_ok-k.was in
    let r = record_out _ _ c.record.ensures c.in_ok-record.was in
    wrote _ _ c.requires.0 c.counts_of-c.ensures _ _ _ o.0 o.1 r.0 _ _ _ o.2 c.write_open.ensures
