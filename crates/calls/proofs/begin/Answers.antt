-- `calls::begin` meets its contract: no free slot, or the lowest one opened. Rests on Beginning.
use Rattle.calls.proofs.Acting.{has_header, ready}
use Rattle.calls.proofs.Beginning.{begin_refused, begin_opens, begin_asks, begin_acts}
use Rattle.calls.proofs.Checks.{passed}
use Rattle.calls.proofs.begin.Goals as goal

pub counts_of-c-requires : goal.counts_of-c-requires
counts_of-c-requires c = has_header _ c.requires

pub invariant_of-before : goal.invariant_of-before
invariant_of-before c = record { fits = (ready _ c.requires _ c.counts_of-c.ensures).well.fits }

pub returns-in_err-k : goal.returns-in_err-k
returns-in_err-k c =
    rw (passed c.from_residual.result c.from_residual.ensures.1)
    (begin_refused _ _ c.requires c.counts_of-c.ensures c.free_slot.ensures c.ok_or.ensures.value c.in_err-k.was)

pub open_slot-requires : goal.open_slot-requires
open_slot-requires c =
    begin_opens _ _ c.requires c.counts_of-c.ensures c.free_slot.ensures c.ok_or.ensures.value c.in_ok-k.was

pub handle_at-requires : goal.handle_at-requires
handle_at-requires c =
    begin_asks _ _ c.requires c.counts_of-c.ensures c.free_slot.ensures c.ok_or.ensures.value c.in_ok-k.was _
    c.open_slot.ensures

pub returns : goal.returns
returns c =
    begin_acts _ _ c.requires c.counts_of-c.ensures c.free_slot.ensures c.ok_or.ensures.value c.in_ok-k.was _
    c.open_slot.ensures _ c.handle_at.ensures
