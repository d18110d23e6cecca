-- `changes::freed::free_rows` meets its contract. The loop's invariant: for whatever the test is, record r's rows up to
-- the place have lost those that pass. Rests on Freeing.
use mathlib.Core.Bool.{Bool}
use Prim.Native.Nat.{suc}
use Rattle.changes.specs.Freed.{Decides}
use Rattle.changes.proofs.Freeing.{Freeing}
use Rattle.changes.proofs.freed.free_rows.Given as goal

abbrev pub invariant-loop-i : goal.invariant-loop-i
invariant-loop-i g l =
    (p : g.row.R.Denot → Bool) → Decides (goal.F-post g l.test) p
    → Freeing l.pair.of.table l.pair.of.heads (λ i. p (g.R.Row.at l.c l.fn.w i)) l.fn.w
    (suc l.r) l.w l.place l.walk l.freed

abbrev pub decreases-loop-i : goal.decreases-loop-i
decreases-loop-i g l = l.walk.left
