-- `abort` meets its contract: on sound words it does what the call on them acts, and unsound words are refused. Rests
-- on Doing.
use Rattle.calls.proofs.Checks.{passed}
use Rattle.store.proofs.Doing.{does_sound, checked_sound, does_refused}
use native.Mathlib.Omega.{arith}
use Rattle.index.proofs.Unknown.{no_index}
use Rattle.store.proofs.abort.Goals as goal

pub returns-in_err-check : goal.returns-in_err-check
returns-in_err-check c =
    rw (passed c.from_residual.result c.from_residual.ensures.1) (does_refused _ c.check.ensures c.in_err-check.was)

pub abort-requires : goal.abort-requires
abort-requires c = (checked_sound _ c.check.ensures c.in_ok-check.was, no_index _ (λ e. omega (arith, e)))

pub returns : goal.returns
returns c = does_sound (checked_sound _ c.check.ensures c.in_ok-check.was) c.abort.ensures
