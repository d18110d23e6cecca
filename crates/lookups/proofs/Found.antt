-- Searches for one entry: the row of a record's access, and the access in it. Rests on the chains of `chains` and on
-- Decode of `tables`.
use Prim.Native.Nat.{ℕ, zero, suc}
use mathlib.Core.Path.{◌≡◌, refl, sym, ap, ◌∙◌}
use mathlib.Core.Bool.{Bool, true, false, cond}
use mathlib.Core.List.{List, [], ◌∷◌, map}
use lib.Dec.{eqb}
use Rattle.std.specs.Prelude.{Option, Some, None, is_some}
use Rattle.std.specs.Option.{unwrap_or, option_map}
use Rattle.std.specs.List.{find as find_list}
use Rattle.std.proofs.lemmas.Option.{none-some, same_Some}
use Rattle.chains.specs.Walk.{among, IsRow, rows}
use Rattle.chains.specs.Table.{link, field, holds, chain, head_of, rows_of}
use Rattle.chains.proofs.Walks.{among_out}
use Rattle.meaning.specs.Lists.{find}
use Rattle.meaning.specs.Store.{is_of, names, no_access, access_of}
use Rattle.types.specs.declared.Counts.{Counts}
use Rattle.tables.specs.Layout.{access_table, access_heads, A_RECORD}
use Rattle.tables.proofs.Chained.{found_some}
use Rattle.tables.specs.Decode.{access_at, access_rows, accesses_of, slot_at, AccessRow}
use Rattle.lookups.specs.Accesses.{RowIn}

-- what a test says of a value it says of the entry that the value is
pub of_entry : {A : Type 0} (t : A → Bool) {x y : A} {b : Bool} → x ≡ y → t x ≡ b → t y ≡ b
of_entry t e q = sym (ap t e) ∙ q

-- the entry of the row that a search finds, or d where it finds none, is the first entry that passes
module _ {A : Type 0} (p : A → Bool) (g : ℕ → A) where
  pub found_entry : (d : A) (xs : List ℕ)
      → unwrap_or (option_map g (find_list (λ i. p (g i)) xs)) d ≡ find p d (map g xs)
  found_entry d [] = refl
  found_entry d (x ∷ xs) = go (p (g x)) (found_entry d xs)
    where
      go : (b : Bool) → unwrap_or (option_map g (find_list (λ i. p (g i)) xs)) d ≡ find p d (map g xs)
          → unwrap_or (option_map g (cond b (Some x) (find_list (λ i. p (g i)) xs))) d
          ≡ cond b (g x) (find p d (map g xs))
      go true e = refl
      go false e = e

-- a row that a search along a chain finds is a row
module _ (q : ℕ → Bool) (nx : ℕ → ℕ) (n : ℕ) where
  pub found_row : (f h : ℕ) {i : ℕ} → Some i ≡ find_list q (rows nx n f h) → IsRow n i
  unfolding rows
  found_row zero h e = absurd (none-some _ (sym e))
  found_row (suc f) h {i} e = go (among n h) refl e (found_row f (nx h))
    where
      rest : (b : Bool) → among n h ≡ true → (Some i ≡ find_list q (rows nx n f (nx h)) → IsRow n i)
          → Some i ≡ cond b (Some h) (find_list q (rows nx n f (nx h))) → IsRow n i
      rest true a ih e = rw (same_Some _ _ e) (among_out n h a)
      rest false a ih e = ih e

      go : (b : Bool) → among n h ≡ b → Some i ≡ find_list q (elim b [ true ↦ h ∷ rows nx n f (nx h) | false ↦ [] ])
          → (Some i ≡ find_list q (rows nx n f (nx h)) → IsRow n i) → IsRow n i
      go true a e ih = rest (q h) a ih e
      go false a e ih = absurd (none-some _ (sym e))

-- the row that the words' search finds
pub access_row_is : (c : Counts) (w : List ℕ) (k r : ℕ) {h : ℕ} → h ≡ head_of (access_heads c) w k
    → find_list (holds (access_table c) w A_RECORD r) (chain (access_table c) w h)
    ≡ find_list (λ j. is_of r (access_at c w j)) (access_rows c w k)
unfolding holds access_rows rows_of access_at
access_row_is c w k r {h} e =
    ap (λ x. find_list (λ j. eqb (field (access_table c) w j A_RECORD) r) (chain (access_table c) w x)) e

-- the access of record r of slot k: i is its row
module _ (c : Counts) (w : List ℕ) (k r : ℕ) where
  access_entry : {i : Option ℕ} → AccessRow c w k r i
      → unwrap_or (option_map (access_at c w) i) (no_access r) ≡ access_of (slot_at c w k) r
  unfolding access_of slot_at accesses_of
  access_entry {i} e =
      ap (λ o. unwrap_or (option_map (access_at c w) o) (no_access r)) e
      ∙ found_entry (is_of r) (access_at c w) (no_access r) (access_rows c w k)

  pub access_none : AccessRow c w k r None → no_access r ≡ access_of (slot_at c w k) r
  access_none e = access_entry e

  pub access_found : {i : ℕ} → AccessRow c w k r (Some i) → access_at c w i ≡ access_of (slot_at c w k) r
  access_found e = access_entry e

  pub access_row_in : {i : Option ℕ} → AccessRow c w k r i → RowIn c i
  unfolding access_rows rows_of chain access_table
  access_row_in e row is =
      found_row (λ j. is_of r (access_at c w j)) (link (access_table c) w) c.accesses c.accesses
      (head_of (access_heads c) w k) (sym is ∙ e)

  pub access_named : {i : Option ℕ} → AccessRow c w k r i → names (slot_at c w k) r ≡ is_some i
  unfolding names slot_at accesses_of
  access_named e = sym (found_some (is_of r) (access_at c w) (access_rows c w k)) ∙ ap is_some (sym e)
