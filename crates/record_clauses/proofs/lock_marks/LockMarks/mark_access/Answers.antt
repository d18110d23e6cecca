-- `record_clauses::lock_marks::LockMarks::mark_access` meets its contract. Rests on Marks of `clauses`.
use mathlib.Core.Path.{sym, ap, ◌∙◌}
use mathlib.Core.Bool.{not}
use native.Mathlib.Omega.{arith}
use Rattle.std.specs.Prelude.{is_some}
use Rattle.clauses.proofs.Marks.{access_unwritten, access_past, access_marked}
use Rattle.record_clauses.proofs.lock_marks.LockMarks.mark_access.Goals as goal

pub returns-then-is_none : goal.returns-then-is_none
returns-then-is_none c =
    access_unwritten c.args.s.tables.counts c.args.s.tables.words.now c.args.s.number _ c.args.a
    (sym (ap is_some c.written.ensures) ∙ c.is_none.ensures ∙ ap not c.if-is_none.true)

pub returns-then-t-number : goal.returns-then-t-number
returns-then-t-number c =
    access_past c.args.s.tables.counts c.args.s.tables.words.now c.args.s.number _ c.args.a
    (sym (ap is_some c.written.ensures) ∙ c.is_none.ensures ∙ ap not c.if-is_none.false)
    (omega (arith, c.if-t-number.true))

pub returns : goal.returns
returns c =
    access_marked c.args.s.tables.counts c.args.s.tables.words.now c.args.s.number _ c.args.a
    (sym (ap is_some c.written.ensures) ∙ c.is_none.ensures ∙ ap not c.if-is_none.false)
    (omega (arith, c.if-t-number.false)) (omega arith) (omega arith) c.mark_own.ensures
