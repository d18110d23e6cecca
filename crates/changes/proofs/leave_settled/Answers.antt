-- `changes::leave_settled` meets its contract. Rests on nothing.
use native.Mathlib.Omega.{arith}
use borrow.Author.Tests.{eq-eqb, ne_eqb}
use Rattle.meaning.specs.Points.{add_lock, leave_settled}
use Rattle.changes.proofs.leave_settled.Goals as goal

pub leave_read-requires : goal.leave_read-requires
leave_read-requires c =
    (c.requires.0, c.requires.1, c.requires.3)

pub add_lock-requires : goal.add_lock-requires
add_lock-requires c =
    (c.requires.0, c.requires.1, c.requires.2, omega arith, c.requires.3)

pub returns-then-mode-eq-READ : goal.returns-then-mode-eq-READ
unfolding leave_settled
returns-then-mode-eq-READ c = rw (eq-eqb _ _ c.if-mode-eq-READ.true) c.leave_read.ensures

pub returns-else-mode-eq-READ : goal.returns-else-mode-eq-READ
unfolding add_lock leave_settled
returns-else-mode-eq-READ c = rw (ne_eqb _ _ c.if-mode-eq-READ.false) c.add_lock.ensures
