-- `refuse_ended` meets its contract: 1 by what View replies, else 3. Rests on Leaves.
use borrow.Author.Rules.{rules}
use Rattle.desk.proofs.Leaves.{ended_seen, ended_one, ended_other}
use Rattle.desk.proofs.refuse_ended.Goals as goal

pub returns-in-Err-Unsound : goal.returns-in-Err-Unsound
returns-in-Err-Unsound c =
    let a = c.in-Err-Unsound in
    ended_one _ c.from.ensures _ c.view.ensures (rw a.field-0-is at a.is)

pub returns-in_default : goal.returns-in_default
returns-in_default c = ended_other _ c.from.ensures _ c.view.ensures _ c.in_default.is (search rules)

pub returns-in_default-2 : goal.returns-in_default-2
returns-in_default-2 c = ended_seen _ c.from.ensures _ c.view.ensures _ c.in_default.is
