-- `index::clear` meets its contract. Rests on Says.
use mathlib.Core.Path.{refl}
use native.Mathlib.Omega.{arith}
use Rattle.index.proofs.Says.{cleared, cleared_none}
use Rattle.index.proofs.clear.Goals as goal

pub bounds-ix-k : goal.bounds-ix-k
bounds-ix-k c =
    omega (
      arith,
      c.wipe.ensures.size,
      c.if-ix-eq-INDEX.true,
      c.requires,
    )

pub returns-then-ix-eq-INDEX : goal.returns-then-ix-eq-INDEX
returns-then-ix-eq-INDEX c =
    cleared _ _ _ _ c.if-ix-eq-INDEX.true c.requires c.wipe.ensures refl

pub returns-else-ix-eq-INDEX : goal.returns-else-ix-eq-INDEX
returns-else-ix-eq-INDEX c = cleared_none _ _
