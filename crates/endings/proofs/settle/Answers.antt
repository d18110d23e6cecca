-- `endings::settle` meets its contract. Rests on EndActs, on Acting and Checks of `calls`.
use mathlib.Core.Path.{sym, ap, ◌∙◌}
use Rattle.std.specs.Prelude.{Err}
use native.Mathlib.Omega.{arith}
use Rattle.calls.proofs.Acting.{has_header, ready, indexed_at}
use Rattle.calls.proofs.Checks.{passed, known_out, known_refused}
use Rattle.endings.proofs.Noted.{with_index}
use Rattle.endings.proofs.EndActs.{settle_refused, settle_still_open, settle_needs, settle_acts}
use Rattle.endings.proofs.settle.Goals as goal

pub counts_of-c-requires : goal.counts_of-c-requires
counts_of-c-requires c = has_header _ c.requires.0

pub invariant_of-tables : goal.invariant_of-tables
invariant_of-tables c = record { fits = (ready _ c.requires.0 _ c.counts_of-c.ensures).well.fits }

pub returns-in_err-k : goal.returns-in_err-k
returns-in_err-k c =
    let r = known_refused _ _ c.known_slot.ensures c.in_err-k.was in
    rw (passed c.from_residual.result c.from_residual.ensures.1 ∙ ap Err r.1)
    (settle_refused _ _ c.requires.0 c.counts_of-c.ensures _ r.0)

pub returns-then-is_open : goal.returns-then-is_open
returns-then-is_open c =
    settle_still_open _ _ c.requires.0 c.counts_of-c.ensures _ (known_out _ _ c.known_slot.ensures c.in_ok-k.was).0
    (sym c.is_open.ensures ∙ c.if-is_open.true)

pub settle_slot-requires : goal.settle_slot-requires
settle_slot-requires c =
    let o = known_out _ _ c.known_slot.ensures c.in_ok-k.was in
    with_index (settle_needs _ _ c.requires.0 c.counts_of-c.ensures _ o.0 _ o.1)
    (indexed_at _ _ c.counts_of-c.ensures c.requires.1)

pub invariant_of-index : goal.invariant_of-index
invariant_of-index c =
    let o = known_out _ _ c.known_slot.ensures c.in_ok-k.was in
    record { of_slot = omega (arith, o.1) }

pub returns : goal.returns
returns c =
    let o = known_out _ _ c.known_slot.ensures c.in_ok-k.was in
    settle_acts _ _ c.requires.0 c.counts_of-c.ensures _ o.0 (sym c.is_open.ensures ∙ c.if-is_open.false) _ o.1 _
    c.settle_slot.ensures
