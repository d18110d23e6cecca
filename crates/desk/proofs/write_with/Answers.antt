-- `write_with` meets its contract: the calls made at each return follow the program. Rests on Following.
use Rattle.desk.proofs.Following.{write_over, write_locked, write_refused}
use Rattle.desk.proofs.write_with.Goals as goal

pub returns-in-Err : goal.returns-in-Err
returns-in-Err c =
    let p = rw c.in-Err.is at c.going.ensures in rw c.refused.ensures (write_over c.args.s _ _ _ p.0 p.1)

pub returns-in-Ok : goal.returns-in-Ok
returns-in-Ok c =
    write_locked c.args.s _ _ (rw c.in_default.is at c.going.ensures) _ c.lock.ensures _ _
    c.in-Ok.is c.write.ensures

pub returns-in-Err-lock : goal.returns-in-Err-lock
returns-in-Err-lock c =
    rw c.refused-in-Err-lock.ensures
    (write_refused c.args.s _ _ (rw c.in_default.is at c.going.ensures) _ c.lock.ensures _ c.in-Err-lock.is)
