use Rattle.chains.proofs.Loops.{length_met, length_ended, length_broken}
use Rattle.chains.proofs.placed.Placed.chain_length.Goals as goal

pub loop-preserved : goal.loop-preserved
loop-preserved c = length_met c.loop.invariant c.in-Some.ensures

pub returns-then-walk-ne0 : goal.returns-then-walk-ne0
returns-then-walk-ne0 c = length_broken c.loop.invariant c.in_default.ensures c.if-walk-ne0.true

pub returns : goal.returns
returns c = length_ended c.loop.invariant c.in_default.ensures c.if-walk-ne0.false
