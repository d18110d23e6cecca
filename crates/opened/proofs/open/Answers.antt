-- `opened::open` meets its contract. Rests on Within and on Doing of `store`.
use Rattle.calls.proofs.Checks.{passed}
use Rattle.store.proofs.Doing.{checked_sound, checked_unsound}
use Rattle.opened.proofs.Within.{opens, opens_not}
use Rattle.opened.proofs.open.Goals as goal

pub returns-in_err-check : goal.returns-in_err-check
returns-in_err-check c =
    let p = checked_unsound _ c.check.ensures c.in_err-check.was in
    rw (passed c.from_residual.result c.from_residual.ensures.1, p.1) (opens_not p.0)

pub returns : goal.returns
returns c = opens (checked_sound _ c.check.ensures c.in_ok-check.was) c.forget.ensures
