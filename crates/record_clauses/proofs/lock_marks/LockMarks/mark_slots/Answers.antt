-- `record_clauses::lock_marks::LockMarks::mark_slots` meets its contract. Rests on Marking and Marks.
use mathlib.Core.Path.{ap, ◌∙◌}
use native.Mathlib.Omega.{arith}
use lib.ListN.{length}
use Rattle.clauses.proofs.Marking.{accesses_size}
use Rattle.clauses.proofs.Marks.{slots_none, slots_on, slots_end}
use Rattle.std.proofs.Common.{rules}
use Rattle.record_clauses.proofs.lock_marks.LockMarks.mark_slots.Goals as goal

pub loop-number-init : goal.loop-number-init
loop-number-init c = (slots_none c.args.t.counts c.args.t.words.now c.args.self.now.rows, search rules)

pub loop-number-preserved : goal.loop-number-preserved
loop-number-preserved c = (
  slots_end c.args.t.counts c.args.t.words.now c.args.self.now.rows
      (slots_on c.args.t.counts c.args.t.words.now c.args.self.now.rows c.loop-number.number (omega arith)
      c.loop-number.invariant.0 c.mark_slot.ensures) (omega arith),
  ap length c.mark_slot.ensures
      ∙ accesses_size c.args.t.counts c.args.t.words.now _ _ _
      ∙ c.loop-number.invariant.1,
)

pub returns : goal.returns
returns c =
    slots_end c.args.t.counts c.args.t.words.now c.args.self.now.rows c.loop-number.invariant.0
    (omega (arith, c.loop-number.auto.number-end c.args.t.fits.ranged.edits_low))

pub returns-2 : goal.returns-2
returns-2 c =
    slots_end c.args.t.counts c.args.t.words.now c.args.self.now.rows
    (slots_on c.args.t.counts c.args.t.words.now c.args.self.now.rows c.loop-number.number (omega arith)
    c.loop-number.invariant.0 c.mark_slot.ensures) (omega arith)
