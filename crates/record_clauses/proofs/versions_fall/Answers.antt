-- The turns and the exits of the loop.
use Prim.Native.Nat.{suc}
use mathlib.Core.Path.{ap, ◌∙◌}
use Rattle.types.specs.Limits.{LAST}
use Rattle.tables.specs.Walked.{values_left}
use Rattle.clauses.specs.Clauses.{falls_to}
use Rattle.clauses.proofs.Falling.{fall_on, fall_out, fall_done}
use Rattle.record_clauses.proofs.versions_fall.Goals as goal

pub loop-v-init : goal.loop-v-init
loop-v-init c =
    ap (falls_to c.args.floor (suc LAST))
    (ap values_left c.into_iter-v-iterator.ensures.into_iter_gives ∙ c.versions-v-items.ensures)

pub returns-then-not-falls_below : goal.returns-then-not-falls_below
returns-then-not-falls_below c =
    fall_out _ _ c.loop-v.invariant c.in-Some.ensures.steps c.falls_below.ensures c.if-not-falls_below.true

pub loop-v-preserved : goal.loop-v-preserved
loop-v-preserved c =
    fall_on _ _ c.loop-v.invariant c.in-Some.ensures.steps c.falls_below.ensures c.if-not-falls_below.false

pub returns : goal.returns
returns c = c.ends_at.ensures ∙ fall_done _ _ c.loop-v.invariant c.in-None.ensures.steps.0
