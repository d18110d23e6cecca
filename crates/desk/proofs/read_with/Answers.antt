-- `read_with` meets its contract: the calls made at each return follow the program. Rests on Following.
use borrow.Author.Rules.{rules}
use Rattle.desk.proofs.Following.{read_over, read_left, read_emptied, read_told, read_refused}
use Rattle.desk.proofs.read_with.Goals as goal

pub returns-in-Err : goal.returns-in-Err
returns-in-Err c =
    let p = rw c.in-Err.is at c.going.ensures in rw c.refused.ensures (read_over c.args.s _ _ p.0 p.1)

pub returns-in-Err-read : goal.returns-in-Err-read
returns-in-Err-read c =
    rw c.refused-in-Err-read.ensures
    (read_refused c.args.s _ (rw c.in_default.is at c.going.ensures) _ c.read.ensures _ c.in-Err-read.is)

pub returns-in-None : goal.returns-in-None
returns-in-None c =
    read_emptied c.args.s _ (rw c.in_default.is at c.going.ensures) _ c.read.ensures _ _ _
    (rw c.in-Read.is at c.in-Ok.is) _ c.cut.ensures _ _ c.in-None.is c.abort.ensures c.closed.ensures

pub returns-in-Some : goal.returns-in-Some
returns-in-Some c =
    read_left c.args.s _ (rw c.in_default.is at c.going.ensures) _ c.read.ensures _ _ _
    (rw c.in-Read.is at c.in-Ok.is) _ c.cut.ensures _ c.in-Some.is

pub returns-in_default-found : goal.returns-in_default-found
returns-in_default-found c =
    read_told c.args.s _ (rw c.in_default.is at c.going.ensures) _ c.read.ensures _ c.in-Ok.is (search rules)
