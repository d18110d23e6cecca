-- `printing::print` meets its contract: each case writes its word and its numbers, which is what `shown` says.
-- Assumes nothing.
use Rattle.printing.proofs.Printed.{printed}
use Rattle.printing.proofs.print.Goals as goal

pub returns-in-Ok : goal.returns-in-Ok
returns-in-Ok c = printed _ _ c.in-Ok.is c.put_word.ensures

pub returns-in-Edit : goal.returns-in-Edit
returns-in-Edit c = printed _ _ c.in-Edit.is c.put_one.ensures

pub returns-in-Locked : goal.returns-in-Locked
returns-in-Locked c = printed _ _ c.in-Locked.is c.put_two.ensures

pub returns-in-Read : goal.returns-in-Read
returns-in-Read c = printed _ _ c.in-Read.is c.put_two_value.ensures

pub returns-in-Own : goal.returns-in-Own
returns-in-Own c = printed _ _ c.in-Own.is c.put_one-in-Own.ensures

pub returns-in-Again : goal.returns-in-Again
returns-in-Again c = printed _ _ c.in-Again.is c.put_one_value.ensures

pub returns-in-Commit : goal.returns-in-Commit
returns-in-Commit c = printed _ _ c.in-Commit.is c.put_one-in-Commit.ensures

pub returns-in-NoPoint : goal.returns-in-NoPoint
returns-in-NoPoint c = printed _ _ c.in-NoPoint.is c.put_word-in-NoPoint.ensures

pub returns-in-Purged : goal.returns-in-Purged
returns-in-Purged c = printed _ _ c.in-Purged.is c.put_two-in-Purged.ensures

pub returns-in-At : goal.returns-in-At
returns-in-At c = printed _ _ c.in-At.is c.put_one_value-in-At.ensures

pub returns-in-No : goal.returns-in-No
returns-in-No c = printed _ _ c.in-No.is c.put_one-in-No.ensures

pub returns-in-Held : goal.returns-in-Held
returns-in-Held c = printed _ _ c.in-Held.is c.put_one-in-Held.ensures

pub returns-in-Malformed : goal.returns-in-Malformed
returns-in-Malformed c = printed _ _ c.in-Malformed.is c.put_word-in-Malformed.ensures
