-- `endings::abort` meets its contract. Rests on EndActs, on Acting and Checks of `calls`.
use native.Mathlib.Omega.{arith}
use Rattle.calls.proofs.Acting.{has_header, ready, indexed_at}
use Rattle.calls.proofs.Checks.{passed, open_out}
use Rattle.endings.proofs.Noted.{with_index}
use Rattle.endings.proofs.EndActs.{abort_refused, open_needs, abort_acts}
use Rattle.endings.proofs.abort.Goals as goal

pub counts_of-c-requires : goal.counts_of-c-requires
counts_of-c-requires c = has_header _ c.requires.0

pub invariant_of-tables : goal.invariant_of-tables
invariant_of-tables c = record { fits = (ready _ c.requires.0 _ c.counts_of-c.ensures).well.fits }

pub returns-in_err-k : goal.returns-in_err-k
returns-in_err-k c =
    rw (passed c.from_residual.result c.from_residual.ensures.1)
    (abort_refused _ _ c.requires.0 c.counts_of-c.ensures _ _ c.open_slot.ensures c.in_err-k.was)

pub end_aborted-requires : goal.end_aborted-requires
end_aborted-requires c =
    let o = open_out _ _ c.open_slot.ensures c.in_ok-k.was in
    with_index (open_needs _ _ c.requires.0 c.counts_of-c.ensures _ o.0 o.1 _ o.2)
    (indexed_at _ _ c.counts_of-c.ensures c.requires.1)

pub invariant_of-index : goal.invariant_of-index
invariant_of-index c =
    let o = open_out _ _ c.open_slot.ensures c.in_ok-k.was in
    record { of_slot = omega (arith, o.2) }

pub returns : goal.returns
returns c =
    let o = open_out _ _ c.open_slot.ensures c.in_ok-k.was in
    abort_acts _ _ c.requires.0 c.counts_of-c.ensures _ o.0 _ o.1 _ o.2 _ c.end_aborted.ensures
