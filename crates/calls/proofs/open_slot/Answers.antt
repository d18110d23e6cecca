-- `calls::open_slot` meets its contract. Rests on Checks.
use mathlib.Core.Path.{◌∙◌}
use Rattle.calls.proofs.Answers.{off, on}
use Rattle.calls.proofs.Checks.{passed, open_unknown, open_ended, open_there}
use Rattle.calls.proofs.open_slot.Goals as goal

pub returns-in_err-k : goal.returns-in_err-k
returns-in_err-k c =
    passed c.from_residual.result c.from_residual.ensures.1 ∙ open_unknown _ _ c.known_slot.ensures c.in_err-k.was

pub returns-then-not-is_open : goal.returns-then-not-is_open
returns-then-not-is_open c =
    open_ended _ _ c.known_slot.ensures c.in_ok-k.was (off c.is_open.ensures c.if-not-is_open.true)

pub returns : goal.returns
returns c = open_there _ _ c.known_slot.ensures c.in_ok-k.was (on c.is_open.ensures c.if-not-is_open.false)
