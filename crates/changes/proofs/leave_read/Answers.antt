-- `changes::leave_read` meets its contract. Rests on Joins.
use Rattle.changes.proofs.Joins.{joined_needs, joined_left}
use Rattle.changes.proofs.leave_read.Goals as goal

pub drop_touching-row-requires : goal.drop_touching-row-requires
drop_touching-row-requires c = (c.requires.0, c.requires.1)

pub add_lock-requires : goal.add_lock-requires
add_lock-requires c =
    joined_needs _ _ _ c.requires.1 c.drop_touching-row.ensures c.requires.2

pub returns : goal.returns
returns c =
    joined_left _ _ _ c.requires.1 c.drop_touching-row.ensures
    c.add_lock.ensures
