-- `begin` meets its contract: on sound words it does what the call on them acts, and unsound words are refused. Rests
-- on Doing.
use Rattle.calls.proofs.Checks.{passed}
use Rattle.store.proofs.Doing.{does_sound, checked_sound, does_refused}
use Rattle.store.proofs.begin.Goals as goal

pub returns-in_err-check : goal.returns-in_err-check
returns-in_err-check c =
    rw (passed c.from_residual.result c.from_residual.ensures.1) (does_refused _ c.check.ensures c.in_err-check.was)

pub begin-requires : goal.begin-requires
begin-requires c = checked_sound _ c.check.ensures c.in_ok-check.was

pub returns : goal.returns
returns c = does_sound (checked_sound _ c.check.ensures c.in_ok-check.was) c.begin.ensures
