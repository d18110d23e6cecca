-- `format::next_free` meets its contract. Rests on Laying.
use native.Mathlib.Omega.{arith}
use Rattle.format.proofs.Laying.{next_in, next_end}
use Rattle.format.proofs.next_free.Goals as goal

pub returns-then-i-n : goal.returns-then-i-n
returns-then-i-n c = next_in _ _ c.if-i-n.true

pub returns-else-i-n : goal.returns-else-i-n
returns-else-i-n c = next_end _ _ (omega arith)
