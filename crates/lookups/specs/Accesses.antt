-- What the row of an access tells, for the edit whose row it is: one walk along the edit's accesses serves a call.
-- Rests on Decode of `tables`.
use Rattle.std.specs.Prelude.{ℕ, ◌≡◌, Bool, List, Option, Some}
use Rattle.chains.specs.Walk.{IsRow}
use Rattle.meaning.specs.Store.{access_of}
use Rattle.meaning.specs.Outcomes.{access_room}
use Rattle.types.specs.declared.Access.{Access}
use Rattle.types.specs.declared.Counts.{Counts}
use Rattle.tables.specs.Decode.{slot_at, decode_at, AccessRow}

-- i is a row for an access, if it is one
abbrev pub RowIn : Counts → Option ℕ → Type 0
RowIn c i = (row : ℕ) → i ≡ Some row → IsRow c.accesses row

-- a is the access of record r by the edit whose row of it is i
abbrev pub InRow : Counts → List ℕ → ℕ → Option ℕ → Access → Type 0
InRow c w r i a = (k : ℕ) → AccessRow c w k r i → a ≡ access_of (slot_at c w k) r

-- b says whether there is room for an access of a record by the edit whose row of it is i
abbrev pub RoomBeside : Counts → List ℕ → Option ℕ → Bool → Type 0
RoomBeside c w i b = (k r : ℕ) → IsRow c.edits k → AccessRow c w k r i → b ≡ access_room (decode_at c w) k r
