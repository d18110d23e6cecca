-- `updates::empty_after` meets its contract: unlinking every row after the place. Rests on Turns.
use mathlib.Core.List.{List}
use Prim.Native.Nat.{ℕ}
use Rattle.chains.specs.Change.{Split}
use Rattle.chains.proofs.Turns.{TurnInv, every_row}
use Rattle.updates.proofs.empty_after.Given as goal

abbrev pub invariant-loop-i : goal.invariant-loop-i
invariant-loop-i l =
    (ks ys : List ℕ) → Split l.p.of.table l.p.of.heads l.initial.w l.p.a l.place ks ys
    → TurnInv l.p.of.table l.p.of.heads every_row l.initial.w l.p.a l.p.b ks ys l.w l.place l.walk

abbrev pub decreases-loop-i : goal.decreases-loop-i
decreases-loop-i l = l.walk.left
