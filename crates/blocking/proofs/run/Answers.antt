-- `blocking::run` meets its contract: all points, none, or those before the first blocked one. Rests on Runs.
use mathlib.Core.Path.{sym, ◌∙◌}
use native.Mathlib.Omega.{arith}
use Rattle.tables.specs.Views.{store_in}
use Rattle.blocking.proofs.Runs.{run_free, run_to, run_all, run_part}
use Rattle.blocking.proofs.run.Goals as goal

pub overflow_sub-result : goal.overflow_sub-result
overflow_sub-result c = omega (arith, c.if-b-p.false)

pub returns-in-None : goal.returns-in-None
returns-in-None c =
    let s = c.args in
    run_free (store_in s.r.tables) s.r.number s.a.mode s.a.slot s.p.low s.p.high s.p.order
    (sym c.in-None.is ∙ c.first_blocked.ensures) s.extent

pub returns-in-All : goal.returns-in-All
returns-in-All c =
    let s = c.args in
    rw c.in-All.is
    (run_all (store_in s.r.tables) s.r.number s.a.mode s.a.slot s.p.low s.p.high s.p.order _
    (sym c.in-Some.is ∙ c.first_blocked.ensures))

pub returns-then-b-p : goal.returns-then-b-p
returns-then-b-p c =
    let s = c.args in
    rw c.in-Part.is
    (run_part (store_in s.r.tables) s.r.number s.a.mode s.a.slot s.p.low s.p.high s.p.order _
    (sym c.in-Some.is ∙ c.first_blocked.ensures) c.if-b-p.true)

pub returns-else-b-p : goal.returns-else-b-p
returns-else-b-p c =
    let s = c.args in
    rw c.in-Part.is
    (run_to (store_in s.r.tables) s.r.number s.a.mode s.a.slot s.p.low s.p.high s.p.order _
    (sym c.in-Some.is ∙ c.first_blocked.ensures) (omega (arith, c.if-b-p.false)))
