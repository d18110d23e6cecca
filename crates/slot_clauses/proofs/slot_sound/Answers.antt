-- `slot_clauses::slot_sound` meets its contract. Rests on Edits and Steps of `clauses`.
use Prim.Native.Nat.{ℕ, ◌-◌, ◌≤◌}
use mathlib.Core.Path.{◌≡◌, sym, ◌∙◌}
use mathlib.Core.List.{List}
use native.Mathlib.Omega.{arith}
use lib.ListN.{length}
use Rattle.types.specs.Limits.{MAX_RECORDS}
use Rattle.meaning.specs.Sound.{sound_edit}
use Rattle.tables.specs.declared.views.Slot.{Slot}
use Rattle.tables.specs.Views.{edit_in}
use Rattle.tables.proofs.Decoded.{records_length}
use Rattle.clauses.specs.Clauses.{Stamps}
use Rattle.clauses.specs.Views.{records_in}
use Rattle.clauses.proofs.Steps.{and_no, and_on}
use Rattle.clauses.proofs.Edits.{stamps_up, accesses_exist, edit_parts, edit_checked}
use Rattle.slot_clauses.proofs.slot_sound.Goals as goal

-- the clauses in the order of the code are all clauses of a slot
module _ (s : Slot) {m : List ℕ} (h : Stamps (s.number - 1) m) where
  few : length (records_in s.tables) ≤ MAX_RECORDS
  few = omega (arith, records_length s.tables.counts s.tables.words.now, s.tables.fits.ranged.records_high)

  whole : edit_parts (records_in s.tables) s.number m (edit_in s) s.there.low few h
      ≡ sound_edit (records_in s.tables) s.number (edit_in s)
  whole = edit_checked (records_in s.tables) s.number m (edit_in s) s.there.low few h

pub point_common-requires : goal.point_common-requires
point_common-requires c =
    let s = c.args.s in (
      accesses_exist (records_in s.tables) s.number c.args.stamps.now (edit_in s) s.there.low (few s c.requires.0)
          c.requires.0 (sym c.accesses_sound.ensures.0 ∙ c.if-accesses_sound.true),
      c.requires.1,
    )

pub returns-then-accesses_sound : goal.returns-then-accesses_sound
returns-then-accesses_sound c = (
  and_on (sym c.slot_listed.ensures ∙ c.if-slot_listed.true)
      (and_on (sym c.accesses_sound.ensures.0 ∙ c.if-accesses_sound.true) c.point_common.ensures)
      ∙ whole c.args.s c.requires.0,
  c.accesses_sound.ensures.1,
)

pub returns-else-accesses_sound : goal.returns-else-accesses_sound
returns-else-accesses_sound c = (
  and_on (sym c.slot_listed.ensures ∙ c.if-slot_listed.true)
      (c.if-accesses_sound.false ∙ and_no _ (sym c.accesses_sound.ensures.0 ∙ c.if-accesses_sound.false))
      ∙ whole c.args.s c.requires.0,
  c.accesses_sound.ensures.1,
)

pub returns-else-slot_listed : goal.returns-else-slot_listed
returns-else-slot_listed c = (
  c.if-slot_listed.false ∙ and_no _ (sym c.slot_listed.ensures ∙ c.if-slot_listed.false)
      ∙ whole c.args.s c.requires.0,
  stamps_up c.requires.0,
)
