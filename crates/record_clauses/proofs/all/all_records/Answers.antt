-- `record_clauses::all_records`: each call of the test is of a record of the tables, and what all of them answer is the
-- answer. Rests on Counting of `clauses`.
use mathlib.Core.Path.{refl}
use native.Mathlib.Omega.{arith}
use Rattle.clauses.proofs.Counting.{up_start, up_again, up_fail, up_end}
use Rattle.record_clauses.proofs.all.all_records.Goals as goal

pub loop-number-init : goal.loop-number-init
loop-number-init g c f h = up_start

pub returns-then-not-test : goal.returns-then-not-test
returns-then-not-test g c f h =
    up_fail (c.loop-number.invariant f h) (omega arith) (h _ _ refl c.test.ensures) c.if-not-test.true

pub loop-number-preserved : goal.loop-number-preserved
loop-number-preserved g c f h =
    up_again (c.loop-number.invariant f h) (omega arith) (h _ _ refl c.test.ensures) c.if-not-test.false

pub returns : goal.returns
returns g c f h = up_end (c.loop-number.invariant f h) (omega arith)
