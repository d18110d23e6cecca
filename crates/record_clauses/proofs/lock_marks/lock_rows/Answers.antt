-- The chain from the record's head in the lock table is its lock rows. Rests on Rows of `tables` and on Marks of
-- `clauses`.
use native.Mathlib.Omega.{arith}
use native.Mathlib.Numerals.{add-one}
use Rattle.tables.specs.Layout.{lock_heads}
use Rattle.clauses.proofs.Marks.{lock_walk}
use Rattle.record_clauses.proofs.lock_marks.lock_rows.Goals as goal

pub first-requires : goal.first-requires
unfolding lock_heads
first-requires c = omega (arith, c.args.r.there)

pub returns : goal.returns
returns c =
    lock_walk c.args.r.tables.counts c.args.r.tables.words.now c.args.r.number
    (rw c.part.ensures.0 at c.rows.ensures) c.part.ensures.1
    (rw add-one at c.first.ensures)
