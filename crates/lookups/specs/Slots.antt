-- The slot of a handle, and the lowest free one, as the code finds them. Rests on Views of `tables` and on Store and
-- Edits of `meaning`.
use Rattle.std.specs.Prelude.{ℕ, ◌≡◌, true, false, cond, leb, length, Option, Some, None}
use Rattle.types.specs.Numbers.{slot_of}
use Rattle.meaning.specs.Store.{Store, in_use}
use Rattle.meaning.specs.Edits.{free_slot}
use Rattle.tables.specs.declared.views.Tables.{Tables}
use Rattle.tables.specs.declared.views.Slot.{Slot}
use Rattle.tables.specs.Views.{store_in}

-- o is the slot of handle h, where that is in use
abbrev pub SlotOf : Tables → ℕ → Option Slot → Type 0
SlotOf t h None = in_use (store_in t).edits (slot_of h) ≡ false
SlotOf t h (Some s) = (s.tables ≡ t) × (s.number ≡ slot_of h) × (in_use (store_in t).edits (slot_of h) ≡ true)

-- the lowest free slot, if there is one: `free_slot` of the meaning is one more than there are where none is free
unfoldable pub first_free : Store → Option ℕ
first_free s = cond (leb (free_slot s) (length s.edits)) (Some (free_slot s)) None
