-- `calls::handle_at` meets its contract: the handle of slot 0 or of a slot past the end, and that of a slot. Rests on
-- Handles.
use Rattle.calls.proofs.Handles.{handle_none, handle_past, handle_here, generation_here}
use mathlib.Core.Path.{◌∙◌}
use native.Mathlib.Omega.{arith}
use Rattle.calls.proofs.handle_at.Goals.{then-k-lt1-via-then-k-lt1, then-k-lt1-via-else-k-lt1+then-t-k}
use Rattle.calls.proofs.handle_at.Goals as goal

pub returns-then-k-lt1 : goal.returns-then-k-lt1
returns-then-k-lt1 c = c.of.ensures ∙ elim c.then-k-lt1.branch [
  | then-k-lt1-via-then-k-lt1 w ↦ handle_none _ _ _ w.if-k-lt1.true
  | then-k-lt1-via-else-k-lt1+then-t-k w ↦ handle_past _ _ _ w.if-t-k.true
]

pub overflow_cast-g : goal.overflow_cast-g
overflow_cast-g c =
    let l = generation_here _ _ _ _ c.if-k-lt1.false c.if-t-k.false c.generation-g.ensures c.requires.1 in
    omega arith

pub returns : goal.returns
returns c = c.of-2.ensures ∙ handle_here _ _ _ _ c.if-k-lt1.false c.if-t-k.false c.generation-g.ensures
