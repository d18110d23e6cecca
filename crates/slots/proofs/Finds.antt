-- The row of an edit's access of a record, as a search finds it: where there is one it stands on the slot's chain and
-- names the record, and where there is none the edit does not name the record. Rests on Accesses, and on Chained of
-- `tables`.
use Prim.Native.Nat.{ℕ, ◌≤◌, ◌<◌}
use mathlib.Core.Path.{◌≡◌, refl, sym, ap, ◌∙◌}
use mathlib.Core.Bool.{Bool, true, false, cond}
use mathlib.Core.List.{List, [], ◌∷◌}
use native.Mathlib.Omega.{arith}
use borrow.Author.Tests.{eqb-true, ltb-true}
use Rattle.std.specs.Prelude.{Some, None, is_some}
use Rattle.std.specs.List.{find}
use Rattle.std.proofs.lemmas.Option.{none-some, same_Some}
use Rattle.chains.specs.Lists.{occ}
use Rattle.chains.specs.Walk.{IsRow}
use Rattle.chains.proofs.Occurs.{occ_here, occ_there}
use Rattle.meaning.specs.Lists.{any}
use Rattle.meaning.specs.Store.{edit_at, is_of, names, accesses_used}
use Rattle.meaning.specs.Outcomes.{access_room}
use Rattle.types.specs.declared.Counts.{Counts}
use Rattle.tables.specs.Decode.{access_at, access_rows, accesses_of, decode_at, AccessRow}
use Rattle.tables.proofs.Chained.{found_some}
use Rattle.slots.proofs.Accesses.{accesses_at}

-- the row found is one of those searched
find_some : (p : ℕ → Bool) (rs : List ℕ) {i : ℕ} → Some i ≡ find p rs → (1 ≤ occ i rs) × (p i ≡ true)
find_some p [] e = absurd (none-some _ (sym e))
find_some p (r ∷ rs) {i} e = go (p r) refl e (find_some p rs)
  where
    go : (b : Bool) → p r ≡ b → Some i ≡ cond b (Some r) (find p rs)
        → (Some i ≡ find p rs → (1 ≤ occ i rs) × (p i ≡ true))
        → (1 ≤ occ i (r ∷ rs)) × (p i ≡ true)
    go true q e ih = let z = same_Some i r e in (rw z (occ_here r rs), ap p z ∙ q)
    go false q e ih = let f = ih e in (omega (arith, f.0, occ_there i r rs), f.1)

module _ (c : Counts) (w : List ℕ) (k r : ℕ) where
  pub row_some : {i : ℕ} → AccessRow c w k r (Some i) → (1 ≤ occ i (access_rows c w k)) × ((access_at c w i).rec ≡ r)
  row_some {i} e =
      let q = find_some (λ j. is_of r (access_at c w j)) (access_rows c w k) e in
      (q.0, eqb-true (access_at c w i).rec r q.1)

  pub row_none : IsRow c.edits k → AccessRow c w k r None → names (edit_at (decode_at c w) k) r ≡ false
  unfolding names accesses_of
  row_none l e = ap (any (is_of r)) (accesses_at c w k l)
      ∙ sym (found_some (is_of r) (access_at c w) (access_rows c w k)) ∙ ap is_some (sym e)

-- so there is room for a new one
pub room_none : (c : Counts) (w : List ℕ) (k r : ℕ) → access_room (decode_at c w) k r ≡ true
    → names (edit_at (decode_at c w) k) r ≡ false → accesses_used (decode_at c w) < c.accesses
unfolding access_room decode_at
room_none c w k r h n = ltb-true (accesses_used (decode_at c w)) c.accesses (rw n at h)
