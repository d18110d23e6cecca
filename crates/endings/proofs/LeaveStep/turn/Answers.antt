-- `endings::LeaveStep::turn` meets its contract: its read lock, if it has one, and then its write lock. Rests on
-- Besides.
use mathlib.Core.Path.{sym, ap, ◌∙◌}
use borrow.Author.Tests.{lt-ltb, le-ltb}
use Rattle.std.specs.Prelude.{is_some}
use Rattle.types.specs.Limits.{READ, WRITE}
use Rattle.tables.specs.Layout.{access_table}
use Rattle.endings.proofs.Besides.{left_one, left_none, read_needs, write_needs, row_left}
use Rattle.endings.proofs.LeaveStep.turn.Goals.{then-a-gt0, else-a-gt0}
use Rattle.meaning.specs.Store.{has_read}
use Rattle.meaning.specs.Points.{leave_settled}
use Rattle.tables.specs.Decode.{decode_at}
use Rattle.changes.specs.Becomes.{Beside, on_locks}
use Rattle.endings.proofs.LeaveStep.turn.Goals as goal

pub read-a-requires : goal.read-a-requires
unfolding access_table
read-a-requires c = c.requires.1

pub leave_settled-requires : goal.leave_settled-requires
leave_settled-requires c =
    read_needs _ _ _ _ c.args.self.t c.requires.0 c.requires.2 c.read-a.ensures
    (lt-ltb 0 c.read-a.result.from c.if-a-gt0.true)

pub leave_settled-requires-then-is_some : goal.leave_settled-requires-then-is_some
leave_settled-requires-then-is_some c =
    write_needs _ _ _ _ c.args.self.t c.requires.0 c.requires.2 c.read-a.ensures (elim c.if-a-gt0.branch [
      | then-a-gt0 w ↦ rw w.w-is (left_one _ _ _ READ _ _ _ (lt-ltb 0 c.read-a.result.from w.if-a-gt0.true)
          w.leave_settled.ensures)
      | else-a-gt0 w ↦ rw w.w-is
          (left_none _ _ _ READ _ _ _ (le-ltb 0 c.read-a.result.from w.if-a-gt0.false) c.requires.0)
    ]) (sym (ap is_some c.written.ensures) ∙ sym c.is_some.ensures ∙ c.if-is_some.true)

pub returns-then-is_some : goal.returns-then-is_some
returns-then-is_some c =
    row_left _ _ _ _ c.args.self.t c.requires.0 c.requires.2 c.read-a.ensures (elim c.if-a-gt0.branch [
      | then-a-gt0 w ↦ rw w.w-is (left_one _ _ _ READ _ _ _ (lt-ltb 0 c.read-a.result.from w.if-a-gt0.true)
          w.leave_settled.ensures)
      | else-a-gt0 w ↦ rw w.w-is
          (left_none _ _ _ READ _ _ _ (le-ltb 0 c.read-a.result.from w.if-a-gt0.false) c.requires.0)
    ])
    (left_one _ _ _ WRITE _ _ _ (sym (ap is_some c.written.ensures) ∙ sym c.is_some.ensures ∙ c.if-is_some.true)
    c.leave_settled-then-is_some.ensures)

pub returns-else-is_some : goal.returns-else-is_some
returns-else-is_some c =
    let B : Beside c.args.c c.args.w.now c.if-a-gt0.w (on_locks (decode_at c.args.c c.args.w.now) c.read-a.result.rec
    (leave_settled (has_read c.read-a.result) READ c.read-a.result.from c.args.self.t)) =
    elim c.if-a-gt0.branch [
      | then-a-gt0 w ↦ rw w.w-is (left_one _ _ _ READ _ _ _ (lt-ltb 0 c.read-a.result.from w.if-a-gt0.true)
          w.leave_settled.ensures)
      | else-a-gt0 w ↦ rw w.w-is
          (left_none _ _ _ READ _ _ _ (le-ltb 0 c.read-a.result.from w.if-a-gt0.false) c.requires.0)
    ] in
    row_left _ _ _ _ c.args.self.t c.requires.0 c.requires.2 c.read-a.ensures B
    (left_none _ _ _ WRITE _ _ _
    (sym (ap is_some c.written.ensures) ∙ sym c.is_some.ensures ∙ c.if-is_some.false) B.becomes.well)
