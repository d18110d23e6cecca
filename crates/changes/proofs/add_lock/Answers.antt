-- `changes::add_lock` meets its contract. Rests on Locks and on Rooms of `tables`.
use mathlib.Core.Path.{refl}
use native.Mathlib.Omega.{arith}
use Rattle.tables.specs.Layout.{lock_table}
use Rattle.tables.proofs.Rooms.{free_lock}
use Rattle.changes.proofs.Locks.{lock_ready_back, lock_row, lock_inserted_fits, add_lock_law}
use Rattle.changes.proofs.add_lock.Goals as goal

pub insert-requires : goal.insert-requires
unfolding lock_table
insert-requires c =
    (c.requires.0.fits, c.requires.1, lock_ready_back c.requires.0 c.requires.1, omega arith)

pub returns-in_default : goal.returns-in_default
returns-in_default c = absurd (free_lock c.requires.0 c.requires.4 c.in_default.ensures.head)

pub put_lock-requires : goal.put_lock-requires
put_lock-requires c =
    let k = c.in-Some.ensures in (
      lock_inserted_fits c.requires.0 c.requires.1 k,
      lock_row c.requires.0 c.requires.1 k,
      c.requires.2,
      c.requires.3,
    )

pub returns : goal.returns
returns c =
    add_lock_law c.requires.0 c.requires.1
    c.in-Some.ensures c.args.l
    c.requires.2 refl c.put_lock.ensures
