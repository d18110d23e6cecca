-- The parts of the tables that the clauses speak of, and the slot with a number, as the code looks it up. Rests on
-- Views of `tables`.
use Rattle.std.specs.Prelude.{ℕ, ◌≡◌, Bool, ◌&&◌, List, Option, Some, None, eqb}
use Rattle.chains.specs.Walk.{IsRow}
use Rattle.types.specs.Limits.{COMMITTED}
use Rattle.meaning.specs.Store.{Rec, Edit, edit_of}
use Rattle.tables.specs.Decode.{records_of, edits_of}
use Rattle.tables.specs.Decode as Decode
use Rattle.tables.specs.declared.views.Tables.{Tables}
use Rattle.tables.specs.declared.views.Record.{Record}
use Rattle.tables.specs.declared.views.Slot.{Slot}

abbrev pub records_in : Tables → List Rec
records_in t = records_of t.counts t.words.now

abbrev pub edits_in : Tables → List Edit
edits_in t = edits_of t.counts t.words.now

abbrev pub lock_rows : Record → List ℕ
lock_rows r = Decode.lock_rows r.tables.counts r.tables.words.now r.number

-- o is the slot k, where there is one
abbrev pub SlotOf : Tables → ℕ → Option Slot → Type 0
SlotOf t k None = IsRow t.counts.edits k → ⊥
SlotOf t k (Some s) = (s.tables ≡ t) × (s.number ≡ k)

abbrev pub committed_at : List Edit → ℕ → ℕ → Bool
committed_at es k p = eqb (edit_of es k).state COMMITTED && eqb (edit_of es k).point p
