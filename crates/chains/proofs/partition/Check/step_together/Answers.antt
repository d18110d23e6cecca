-- `chains::partition::Check::step_together` meets its contract. Rests on Checks.
use native.Mathlib.Omega.{arith}
use Rattle.chains.proofs.Checks.{advances}
use Rattle.chains.proofs.partition.Check.step_together.Goals as goal

pub loop-init : goal.loop-init
loop-init c = (advances _ (omega arith), advances _ (omega arith), advances _ (omega arith))
