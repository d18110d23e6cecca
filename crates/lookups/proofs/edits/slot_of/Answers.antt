-- `lookups::edits::slot_of` meets its contract. Rests on Slots.
use mathlib.Core.Path.{refl}
use mathlib.Core.Logic.{inl, inr}
use native.Mathlib.Omega.{arith}
use Rattle.lookups.proofs.Slots.{slot_none, slot_free, slot_used}
use Rattle.lookups.proofs.edits.slot_of.Goals.{then-number-eq0-via-then-number-eq0}
use Rattle.lookups.proofs.edits.slot_of.Goals.{then-number-eq0-via-else-number-eq0+then-t-number}
use Rattle.lookups.proofs.edits.slot_of.Goals as goal

pub returns-then-number-eq0 : goal.returns-then-number-eq0
returns-then-number-eq0 c = elim c.then-number-eq0.branch [
  | then-number-eq0-via-then-number-eq0 w ↦
      slot_none c.args.t c.args.h.0 c.slot-number.result c.slot-number.ensures (inl w.if-number-eq0.true)
  | then-number-eq0-via-else-number-eq0+then-t-number w ↦
      slot_none c.args.t c.args.h.0 c.slot-number.result c.slot-number.ensures (inr w.if-t-number.true)
]

pub returns-then-state-eq-FREE : goal.returns-then-state-eq-FREE
returns-then-state-eq-FREE c =
    slot_free c.args.t c.args.h.0 c.slot-number.result c.slot-number.ensures
    (record { low = omega (arith, c.if-number-eq0.false); high = omega (arith, c.if-t-number.false) }) c.state.ensures
    c.if-state-eq-FREE.true

pub returns : goal.returns
returns c = (
  refl,
  c.slot-number.ensures,
  slot_used c.args.t c.args.h.0 c.slot-number.result c.slot-number.ensures
      (record { low = omega (arith, c.if-number-eq0.false); high = omega (arith, c.if-t-number.false) }) c.state.ensures
      c.if-state-eq-FREE.false,
)
