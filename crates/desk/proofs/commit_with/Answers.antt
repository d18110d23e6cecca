-- `commit_with` meets its contract: the calls made at each return follow the program. Rests on Following.
use Rattle.desk.proofs.Following.{commit_over, commit_ended, commit_refused}
use Rattle.desk.proofs.commit_with.Goals as goal

pub returns-in-Err : goal.returns-in-Err
returns-in-Err c =
    let p = rw c.in-Err.is at c.going.ensures in rw c.refused.ensures (commit_over c.args.s _ p.0 p.1)

pub returns-in-Ok : goal.returns-in-Ok
returns-in-Ok c =
    commit_ended c.args.s (rw c.in_default.is at c.going.ensures) _ c.named_point.ensures _
    c.commit.ensures _ _ c.in-Ok.is c.closed.ensures

pub returns-in-Err-commit : goal.returns-in-Err-commit
returns-in-Err-commit c =
    rw c.refused-in-Err-commit.ensures
    (commit_refused c.args.s (rw c.in_default.is at c.going.ensures) _ c.named_point.ensures _
    c.commit.ensures _ c.in-Err-commit.is)
