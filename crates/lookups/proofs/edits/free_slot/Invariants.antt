-- `lookups::edits::free_slot` meets its contract: no slot passed is free. Rests on Slots.
use Rattle.lookups.proofs.Slots.{Passed}
use Rattle.lookups.proofs.edits.free_slot.Given as goal

abbrev pub invariant-loop-number : goal.invariant-loop-number
invariant-loop-number l = Passed l.t.counts l.t.words.now l.number
