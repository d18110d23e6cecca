-- `chains::partition::Check::step` meets its contract: no step, or one. Rests on Checks.
use mathlib.Core.Path.{refl}
use native.Mathlib.Omega.{arith}
use Rattle.chains.proofs.Checks.{step_met}
use Rattle.chains.proofs.partition.Check.step.Goals as goal

pub returns : goal.returns
returns c = step_met c.args.self.now _ (omega arith) c.in-Some.ensures c.if-self-i.false refl refl
