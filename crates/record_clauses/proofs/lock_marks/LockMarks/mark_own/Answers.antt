-- The walk starts at the record's lock rows, each row met is one of them and has a mark, and a turn marks it.
use mathlib.Core.Path.{ap, ◌∙◌}
use native.Mathlib.Omega.{arith}
use lib.ListN.{length-set}
use Rattle.chains.specs.Walk.{IsRow}
use Rattle.chains.specs.Walker.{rows_left}
use Rattle.tables.specs.Layout.{lock_table}
use Rattle.clauses.specs.Marks.{mark_own}
use Rattle.clauses.proofs.Marks.{lock_row, ahead_start, ahead_here, ahead_on, own_hit, own_miss, own_done}
use Rattle.std.proofs.Common.{rules}
use Rattle.record_clauses.proofs.lock_marks.LockMarks.mark_own.Goals.{In-Some}
use Rattle.record_clauses.proofs.lock_marks.LockMarks.mark_own.Goals as goal

pub loop-i-init : goal.loop-i-init
loop-i-init c =
    let e = ap rows_left c.into_iter-i-iterator.ensures.into_iter_gives ∙ c.lock_rows-i-items.ensures in
    let t = c.args.r.tables in
    (ap (mark_own t.counts t.words.now c.args.k c.args.self.now.rows) e, search rules, ahead_start e)

-- the row met is one of the table
row : (c : In-Some) → IsRow c.args.r.tables.counts.locks c.in-Some.i
row c =
    lock_row c.args.r.tables.counts c.args.r.tables.words.now c.args.r.number c.in-Some.i
    (ahead_here c.loop-i.invariant.2 c.in-Some.ensures.steps)

pub bounds-self-i : goal.bounds-self-i
bounds-self-i c =
    let l = row (goal.at.bounds-self-i c).In-Some in omega (arith, l.high, c.args.r.tables.fits.ranged.locks_high)

pub read-requires : goal.read-requires
unfolding lock_table
read-requires c = row (goal.at.read-requires c).In-Some

pub loop-i-preserved-then-read-k : goal.loop-i-preserved-then-read-k
loop-i-preserved-then-read-k c = (
  own_hit c.args.r.tables.counts c.args.r.tables.words.now c.args.k _ c.loop-i.invariant.0 c.in-Some.ensures.steps
      c.read.ensures c.if-read-k.true,
  simp length-set c.loop-i.invariant.1,
  ahead_on c.loop-i.invariant.2 c.in-Some.ensures.steps,
)

pub loop-i-preserved : goal.loop-i-preserved
loop-i-preserved c = (
  own_miss c.args.r.tables.counts c.args.r.tables.words.now c.args.k _ c.loop-i.invariant.0 c.in-Some.ensures.steps
      c.read.ensures c.if-read-k.false,
  c.loop-i.invariant.1,
  ahead_on c.loop-i.invariant.2 c.in-Some.ensures.steps,
)

pub returns : goal.returns
returns c =
    own_done c.args.r.tables.counts c.args.r.tables.words.now c.args.k _ c.loop-i.invariant.0
    c.in-None.ensures.steps.0
