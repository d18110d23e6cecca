-- `would_begin` meets its contract: the lowest free slot is there or not, and unsound words are refused. Rests on
-- Slots.
use Rattle.calls.proofs.Acting.{has_header, ready}
use Rattle.store.proofs.Doing.{checked_sound, shows_refused}
use Rattle.calls.proofs.Checks.{passed}
use Rattle.store.proofs.Slots.{no_slot, a_slot}
use Rattle.store.proofs.would_begin.Goals as goal

pub counts_of-requires : goal.counts_of-requires
counts_of-requires c = has_header _ (checked_sound _ c.check.ensures c.in_ok-check.was)

pub invariant_of-tables : goal.invariant_of-tables
invariant_of-tables c =
    record { fits = (ready _ (checked_sound _ c.check.ensures c.in_ok-check.was) _ c.counts_of.ensures).well.fits }

pub returns-in_err-ok_or : goal.returns-in_err-ok_or
returns-in_err-ok_or c =
    rw (passed c.from_residual-in_err-ok_or.result c.from_residual-in_err-ok_or.ensures.1)
    (no_slot _ _ (checked_sound _ c.check.ensures c.in_ok-check.was) c.counts_of.ensures c.free_slot.ensures
    c.ok_or.ensures.value c.in_err-ok_or.was)

pub returns : goal.returns
returns c =
    a_slot _ _ (checked_sound _ c.check.ensures c.in_ok-check.was) c.counts_of.ensures c.free_slot.ensures
    c.ok_or.ensures.value c.in_ok-ok_or.was

pub returns-in_err-check : goal.returns-in_err-check
returns-in_err-check c =
    rw (passed c.from_residual.result c.from_residual.ensures.1) (shows_refused _ c.check.ensures c.in_err-check.was)
