-- `lookups::edits::free_slot` meets its contract: no slot passed is free. Rests on Slots.
use native.Mathlib.Omega.{arith}
use Rattle.lookups.proofs.Slots.{passed_on, passed_found, passed_done}
use Rattle.lookups.proofs.edits.free_slot.Goals as goal

pub returns-then-state-eq-FREE : goal.returns-then-state-eq-FREE
returns-then-state-eq-FREE c =
    passed_found _ c.loop-number.invariant (omega arith) c.state.ensures c.if-state-eq-FREE.true

pub returns-else-state-eq-FREE : goal.returns-else-state-eq-FREE
returns-else-state-eq-FREE c =
    passed_done _
    (passed_on _ c.loop-number.invariant (omega arith) c.state.ensures c.if-state-eq-FREE.false)
    (omega arith)
