-- `locking::lock_grant` meets its contract: all points or none, or the run from the first free point. Rests on
-- Granting.
use mathlib.Core.Path.{sym, ◌∙◌}
use Rattle.tables.specs.Views.{store_in}
use Rattle.calls.proofs.Granting.{search_needs, run_locks, run_takes}
use Rattle.locking.proofs.lock_grant.Goals as goal

pub run-requires : goal.run-requires
run-requires c = search_needs c.requires.0 c.args.r.there c.requires.1

pub later_grant-requires : goal.later_grant-requires
later_grant-requires c = (c.requires.0, c.requires.1, rw c.in-Part.is at (sym c.in-Err.is ∙ c.run.ensures))

pub returns-in-Ok : goal.returns-in-Ok
returns-in-Ok c =
    run_takes (store_in c.args.r.tables) c.args.k c.args.r.number c.args.p.low c.args.p.high c.args.extent _ _
    c.args.p.order (sym c.in-Ok.is ∙ c.run.ensures)

pub returns-in-All : goal.returns-in-All
returns-in-All c =
    rw c.in-All.is
    ((rw c.in-All.is at (sym c.in-Err.is ∙ c.run.ensures))
    ∙ run_locks (store_in c.args.r.tables) c.args.k c.args.r.number c.args.p.low c.args.p.high)

pub returns-in-Part : goal.returns-in-Part
returns-in-Part c = rw c.in-Part.is c.later_grant.ensures
