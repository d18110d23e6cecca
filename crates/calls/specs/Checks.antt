-- The checks that several calls share, as what they find or the refusal. Rests on Outcomes of `meaning`.
use Rattle.std.specs.Prelude.{ℕ, ◌&&◌, cond, leb, ltb, Result, Ok, Err}
use Rattle.types.specs.Limits.{LAST}
use Rattle.types.specs.Numbers.{slot_of}
use Rattle.types.specs.declared.Refusal.{Refusal}
use Rattle.types.specs.declared.Refusal.TheVariants.{NoEdit, EditEnded, NoRecord, BadPoint, BelowFloor}
use Rattle.meaning.specs.Store.{Store}
use Rattle.meaning.specs.Outcomes.{knows, is_open}

-- 5: one of n records
unfoldable pub record_in : ℕ → ℕ → Result ℕ Refusal
record_in n r = cond (ltb r n) (Ok r) (Err NoRecord)

-- 6: a point from low to the last one
unfoldable pub point_from : ℕ → ℕ → Result ℕ Refusal
point_from low p = cond (leb low p && leb p LAST) (Ok p) (Err BadPoint)

-- 7: a point above the floor
unfoldable pub above_floor : ℕ → ℕ → Result (Unit {0}) Refusal
above_floor floor p = cond (ltb floor p) (Ok tt) (Err BelowFloor)

-- 2: the slot of the edit that a handle names
unfoldable pub known_slot : Store → ℕ → Result ℕ Refusal
known_slot s h = cond (knows s h) (Ok (slot_of h)) (Err NoEdit)

-- 2, 3: the slot of an open edit
unfoldable pub open_slot : Store → ℕ → Result ℕ Refusal
open_slot s h = cond (knows s h) (cond (is_open s h) (Ok (slot_of h)) (Err EditEnded)) (Err NoEdit)
