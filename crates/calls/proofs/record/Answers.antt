-- `calls::record` meets its contract. Rests on Checks.
use borrow.Author.Tests.{le-ltb, lt-ltb}
use native.Mathlib.Omega.{arith}
use Rattle.calls.proofs.Checks.{record_none, record_there}
use Rattle.calls.proofs.record.Goals as goal

pub returns-then-c-r : goal.returns-then-c-r
returns-then-c-r c = record_none _ _ (le-ltb c.args.r c.args.c.records c.if-c-r.true)

pub returns : goal.returns
returns c = record_there _ _ (lt-ltb c.args.r c.args.c.records (omega (arith, c.if-c-r.false)))
