-- `record_clauses::versions_fall`: what is left to test below the last point met is the answer. Rests on Falling of
-- `clauses`.
use Prim.Native.Nat.{suc}
use mathlib.Core.Path.{◌≡◌}
use Rattle.types.specs.Limits.{LAST}
use Rattle.tables.specs.Views.{rec_in}
use Rattle.tables.specs.Walked.{values_left}
use Rattle.clauses.specs.Clauses.{falls_to}
use Rattle.record_clauses.proofs.versions_fall.Given as goal

abbrev pub invariant-loop-v : goal.invariant-loop-v
invariant-loop-v l =
    falls_to l.floor l.top (values_left l.v-iterator) ≡ falls_to l.floor (suc LAST) (rec_in l.r).versions
