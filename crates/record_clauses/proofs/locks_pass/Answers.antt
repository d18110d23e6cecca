-- The turns and the exits of the pass.
use mathlib.Core.Path.{ap, ◌∙◌}
use Rattle.tables.specs.Views.{rec_in}
use Rattle.tables.specs.Walked.{values_left}
use Rattle.sweeps.specs.Sweep.{passing, no_swept}
use Rattle.clauses.specs.Clauses.{lock_now}
use Rattle.clauses.specs.Views.{edits_in}
use Rattle.clauses.proofs.Passing.{pass_on, pass_out, pass_done}
use Rattle.record_clauses.proofs.locks_pass.Goals as goal

pub loop-l-init : goal.loop-l-init
loop-l-init c =
    rw (c.none_passed-s.ensures, c.floor-floor.ensures)
    (ap (passing (lock_now (edits_in c.args.r.tables) (rec_in c.args.r).floor) no_swept)
    (ap values_left c.into_iter-l-iterator.ensures.into_iter_gives ∙ c.locks-l-items.ensures))

pub returns-then-not-lock_passes : goal.returns-then-not-lock_passes
returns-then-not-lock_passes c =
    pass_out _ _ c.loop-l.invariant c.in-Some.ensures.steps c.lock_passes.ensures c.if-not-lock_passes.true

pub loop-l-preserved : goal.loop-l-preserved
loop-l-preserved c =
    pass_on _ _ c.loop-l.invariant c.in-Some.ensures.steps c.lock_passes.ensures c.passed-s.result
    c.if-not-lock_passes.false c.passed-s.ensures

pub returns : goal.returns
returns c = pass_done _ _ c.loop-l.invariant c.in-None.ensures.steps.0
