-- `calls::known_slot` meets its contract. Rests on Checks.
use Rattle.calls.proofs.Answers.{off, on}
use Rattle.calls.proofs.Checks.{known_none, known_there}
use Rattle.calls.proofs.known_slot.Goals as goal

pub returns-then-not-known : goal.returns-then-not-known
returns-then-not-known c = known_none _ _ (off c.known.ensures c.if-not-known.true)

pub returns : goal.returns
returns c = rw c.slot.ensures (known_there _ _ (on c.known.ensures c.if-not-known.false))
