use Rattle.chains.proofs.Parts.{mark_start, mark_met, mark_twice, mark_broken, mark_end}
use mathlib.Core.Path.{refl}
use native.Mathlib.Omega.{arith}
use Rattle.chains.proofs.partition.Check.mark_chain.Goals as goal

pub loop-row-init : goal.loop-row-init
loop-row-init c = (mark_start _ _ _ (omega arith), refl)

pub loop-row-preserved : goal.loop-row-preserved
loop-row-preserved c =
    let i = c.loop-row.invariant in (mark_met i.0 c.args.self.now.few c.in-Some.ensures c.if-self-row.false, i.1)

pub returns-then-self-row : goal.returns-then-self-row
returns-then-self-row c =
    (mark_twice _ _ c.loop-row.invariant.0 c.in-Some.ensures c.if-self-row.true, c.loop-row.invariant.1)

pub returns-then-walk-ne0 : goal.returns-then-walk-ne0
returns-then-walk-ne0 c =
    (mark_broken _ _ c.loop-row.invariant.0 c.in_default.ensures c.if-walk-ne0.true, c.loop-row.invariant.1)

pub returns : goal.returns
returns c = (mark_end _ _ c.loop-row.invariant.0 c.in_default.ensures c.if-walk-ne0.false, c.loop-row.invariant.1)
