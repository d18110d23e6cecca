-- `slot_clauses::slots_sound` meets its contract: one slot after the other, from an array without stamps. Rests on
-- Counting and Slots.
use Prim.Native.Nat.{ℕ, suc, ◌+◌, ◌-◌, ◌≤◌}
use mathlib.Core.Path.{◌≡◌, refl, ap, ◌∙◌}
use mathlib.Core.Bool.{Bool}
use native.Mathlib.Omega.{arith}
use Rattle.meaning.specs.Sound.{sound_edit}
use Rattle.tables.specs.declared.views.Tables.{Tables}
use Rattle.tables.specs.Decode.{slot_at}
use Rattle.clauses.specs.Views.{records_in}
use Rattle.clauses.proofs.Counting.{up_start, up_again, up_fail, up_end}
use Rattle.clauses.proofs.Slots.{slots_all, stamps_before, stamps_new}
use Rattle.slot_clauses.proofs.slots_sound.Goals as goal

-- the clauses of slot n, of which the loops over numbers from 0 on count the one before
abbrev sound : Tables → ℕ → Bool
sound t n = sound_edit (records_in t) n (slot_at t.counts t.words.now n)

counted : (t : Tables) (n : ℕ) {b : Bool} → 1 ≤ n → b ≡ sound t n → b ≡ sound t (suc (n - 1))
counted t n l e = e ∙ ap (sound t) (omega arith)

pub loop-number-init : goal.loop-number-init
loop-number-init c = (up_start, stamps_new _ refl)

pub slot_sound-requires : goal.slot_sound-requires
slot_sound-requires c = (c.loop-number.invariant.1, c.requires)

pub returns-then-not-slot_sound : goal.returns-then-not-slot_sound
returns-then-not-slot_sound c =
    up_fail c.loop-number.invariant.0 (omega arith)
    (counted c.args.t c.loop-number.number (omega arith) c.slot_sound.ensures.0) c.if-not-slot_sound.true
    ∙ slots_all c.args.t.counts c.args.t.words.now

-- one slot more
pub loop-number-preserved : goal.loop-number-preserved
loop-number-preserved c =
    let up = up_again c.loop-number.invariant.0 (omega arith)
    (counted c.args.t c.loop-number.number (omega arith) c.slot_sound.ensures.0) c.if-not-slot_sound.false in
    let e : c.loop-number.number - 1 + 1 ≡ c.loop-number.number + 1 - 1 = omega arith in
    (rw e at up, stamps_before c.slot_sound.ensures.1)

pub returns : goal.returns
returns c = up_end c.loop-number.invariant.0 (omega arith) ∙ slots_all c.args.t.counts c.args.t.words.now

pub returns-else-not-slot_sound : goal.returns-else-not-slot_sound
returns-else-not-slot_sound c =
    up_end
    (up_again c.loop-number.invariant.0 (omega arith)
    (counted c.args.t c.loop-number.number (omega arith) c.slot_sound.ensures.0) c.if-not-slot_sound.false)
    (omega arith)
    ∙ slots_all c.args.t.counts c.args.t.words.now
