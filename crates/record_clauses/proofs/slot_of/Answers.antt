-- `record_clauses::slot_of` meets its contract. Rests on nothing.
use native.Mathlib.Omega.{arith}
use Rattle.record_clauses.proofs.slot_of.Goals.{then-number-eq0-via-then-number-eq0}
use Rattle.record_clauses.proofs.slot_of.Goals.{then-number-eq0-via-else-number-eq0+then-t-number}
use Rattle.record_clauses.proofs.slot_of.Goals as goal

pub returns-then-number-eq0 : goal.returns-then-number-eq0
returns-then-number-eq0 c = elim c.then-number-eq0.branch [
  | then-number-eq0-via-then-number-eq0 w ↦ λ row. omega (arith, row.low, w.if-number-eq0.true)
  | then-number-eq0-via-else-number-eq0+then-t-number w ↦ λ row. omega (arith, row.high, w.if-t-number.true)
]
