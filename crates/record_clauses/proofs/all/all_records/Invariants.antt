-- `record_clauses::all_records`: all records so far passed, by any function that the test computes. Rests on Counting
-- of `clauses`.
use Prim.Native.Nat.{ℕ}
use mathlib.Core.Path.{◌≡◌}
use mathlib.Core.Bool.{Bool}
use Rattle.tables.specs.declared.views.Record.{Record}
use Rattle.clauses.proofs.Counting.{UpTo}
use Rattle.record_clauses.proofs.all.all_records.Given as goal

abbrev pub invariant-loop-number : goal.invariant-loop-number
invariant-loop-number g l =
    (f : ℕ → Bool) → ((r : Record) (b : Bool) → r.tables ≡ l.t → goal.F-post g l.test r b → b ≡ f r.number)
    → UpTo f l.t.counts.records l.number
