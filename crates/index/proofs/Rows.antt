-- A record that an edit has not touched has no access row of it. Rests on Chained of `tables`.
use Prim.Native.Nat.{ℕ}
use mathlib.Core.Path.{◌≡◌, refl, sym}
use mathlib.Core.Bool.{Bool, true, false, ◌||◌}
use mathlib.Core.List.{List}
use Rattle.std.specs.Prelude.{None}
use Rattle.chains.specs.Walk.{IsRow}
use Rattle.types.specs.declared.Counts.{Counts}
use Rattle.meaning.specs.Store.{is_of, names, edit_at}
use Rattle.tables.specs.Decode.{access_at, access_rows, accesses_of, slot_at, decode_at, AccessRow}
use Rattle.tables.proofs.Decoded.{edit_at_lem}
use Rattle.tables.proofs.Chained.{found_none}
use Rattle.index.specs.Index.{touched}

left_false : (a b : Bool) → (a || b) ≡ false → a ≡ false
left_false true b e = e
left_false false b e = refl

pub no_row : (c : Counts) (w : List ℕ) (k r : ℕ) → IsRow c.edits k → touched (decode_at c w) k r ≡ false
    → AccessRow c w k r None
unfolding touched names slot_at accesses_of
no_row c w k r h e =
    let none : names (slot_at c w k) r ≡ false =
    rw (edit_at_lem c w k h) at (left_false (names (edit_at (decode_at c w) k) r) _ e) in
    sym (found_none (is_of r) (access_at c w) (access_rows c w k) none)
