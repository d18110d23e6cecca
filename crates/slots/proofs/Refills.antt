-- A row of a slot's chain that is filled again, by an access of the record that it names: its entry alone changes.
-- Rests on Accesses and on Stored and Lists of `changes`.
use Prim.Native.Nat.{ℕ, ◌≤◌}
use mathlib.Core.Path.{◌≡◌, refl, sym, ap, ◌∙◌}
use mathlib.Core.Logic.{◌⊎◌, inl, inr}
use mathlib.Core.Bool.{true, false, not, cond}
use mathlib.Core.List.{List, map}
use native.Mathlib.Omega.{arith}
use native.Mathlib.Decide.{ℕ_discrete}
use lib.Dec.{eqb}
use borrow.Author.Tests.{eq-eqb, ne_eqb, eqb-false, not-true}
use Rattle.chains.specs.Lists.{occ, all_of}
use Rattle.chains.specs.Walk.{IsRow}
use Rattle.chains.specs.Table.{rows_of}
use Rattle.chains.specs.Change.{Changed}
use Rattle.chains.proofs.Words.{on_chain}
use Rattle.chains.proofs.Frames.{else_refl}
use Rattle.chains.proofs.Entries.{Filled, filled_start, other_entries, entries_kept}
use Rattle.meaning.specs.Lists.{any, pairwise}
use Rattle.meaning.specs.Store.{Edit, with_edit, edit_at, is_of, names}
use Rattle.meaning.specs.Edits.{with_access}
use Rattle.meaning.specs.Sound.{names_once}
use Rattle.types.specs.declared.Access.{Access}
use Rattle.types.specs.declared.Counts.{Counts}
use Rattle.tables.specs.Layout.{access_table, access_heads}
use Rattle.tables.specs.Decode.{access_at, access_rows, accesses_of, decode_at}
use Rattle.writes.specs.Rows.{access_stored}
use Rattle.tables.specs.Words.{Well, marked}
use Rattle.changes.specs.Becomes.{Becomes, with_accesses}
use Rattle.changes.proofs.Parts.{all_same}
use Rattle.changes.proofs.OneTable.{accesses_become}
use Rattle.changes.proofs.Stored.{access_stored_at, access_stored_marked, access_filled, access_rest}
use Rattle.slots.proofs.Accesses.{access_ready, accesses_at}
use Rattle.changes.proofs.Lists.{all_row, row_all, any_entry, pair_rows, map_map}

-- an access of a record that the edit names takes that one's place
old_access : (e : Edit) (a : Access) → names e a.rec ≡ true
    → with_access e a ≡ with_accesses e (map (λ b. cond (is_of a.rec b) a b) e.accesses)
unfolding with_access
old_access e a h = rw h refl

-- no other row names the record
once_other : (a b : Access) (r : ℕ) → a.rec ≡ r
    → (not (eqb a.rec b.rec) ≡ true) ⊎ (not (eqb b.rec a.rec) ≡ true) → is_of r b ≡ false
once_other a b r e (inl h) =
    ne_eqb b.rec r (λ z. eqb-false a.rec b.rec (not-true (eqb a.rec b.rec) h) (e ∙ sym z))
once_other a b r e (inr h) =
    ne_eqb b.rec r (λ z. eqb-false b.rec a.rec (not-true (eqb b.rec a.rec) h) (z ∙ sym e))

module _ {c : Counts} {w : List ℕ} (W : Well c w) {k : ℕ} (l : IsRow c.edits k) (i : ℕ)
    (on : 1 ≤ occ i (access_rows c w k)) where
  pub refill_row : IsRow c.accesses i
  unfolding access_rows access_table access_heads
  refill_row = on_chain (access_table c) (access_heads c) w W.accesses_parted_lem k l.high i on

  module _ (x : Access) (same : (access_at c w i).rec ≡ x.rec)
      (once : names_once (edit_at (decode_at c w) k) ≡ true) where
    refilled : Filled (access_table c) (access_heads c) w (access_stored c w i x) 0 k
        (rows_of (access_table c) (access_heads c) w 0) (rows_of (access_table c) (access_heads c) w k) i
    refilled =
        let still : Changed (access_table c) (access_heads c) w w 0 k (rows_of (access_table c) (access_heads c) w 0)
        (rows_of (access_table c) (access_heads c) w k) =
        record {
          parted = W.accesses_parted_lem;
          at_a = refl;
          at_b = refl;
          others = λ j p a b. refl;
          elsewhere = else_refl (access_table c) (access_heads c) w;
        } in
        access_filled c (access_ready W l) (filled_start (access_ready W l) i still) refill_row x

    others_unnamed : (y : ℕ) → 1 ≤ occ y (access_rows c w k) → (y ≡ i → ⊥) → is_of x.rec (access_at c w y) ≡ false
    unfolding names_once accesses_of
    others_unnamed y o n = once_other (access_at c w i) (access_at c w y) x.rec same
        (pair_rows (access_at c w) (λ a b. not (eqb a.rec b.rec)) (access_rows c w k)
        (ap (pairwise (λ a b. not (eqb a.rec b.rec))) (sym (accesses_at c w k l)) ∙ once) i y on o n)

    refilled_entry : (y : ℕ) → 1 ≤ occ y (access_rows c w k)
        → access_at c (access_stored c w i x) y ≡ cond (is_of x.rec (access_at c w y)) x (access_at c w y)
    unfolding access_rows access_table access_heads
    refilled_entry y o = elim (ℕ_discrete y i) [
      | yes z ↦ rw (z, eq-eqb (access_at c w i).rec x.rec same) (access_stored_at W.fits refill_row x)
      | no z ↦ rw (others_unnamed y o z)
          (access_rest c refilled y (on_chain (access_table c) (access_heads c) w W.accesses_parted_lem k l.high y o)
          z).0
    ]

    refilled_here : accesses_of c (access_stored c w i x) k ≡ map (λ b. cond (is_of x.rec b) x b) (accesses_of c w k)
    unfolding accesses_of access_rows
    refilled_here = ap (map (access_at c (access_stored c w i x))) refilled.at_b
        ∙ entries_kept (access_at c (access_stored c w i x))
        (λ y. cond (is_of x.rec (access_at c w y)) x (access_at c w y)) (rows_of (access_table c) (access_heads c) w k)
        refilled_entry
        ∙ sym (map_map (access_at c w) (λ b. cond (is_of x.rec b) x b) (rows_of (access_table c) (access_heads c) w k))

    refilled_others : {A : Type 0} (f g : ℕ → A) → ((y : ℕ) → IsRow c.accesses y → (y ≡ i → ⊥) → f y ≡ g y) → (j : ℕ)
        → IsRow c.edits j → (j ≡ k → ⊥) → map f (access_rows c (access_stored c w i x) j) ≡ map g (access_rows c w j)
    unfolding access_rows access_heads access_table
    refilled_others f g e j q n =
        other_entries refilled f g W.accesses_parted_lem k l.high on e j q.high (λ z. omega (arith, q.low)) n
        (λ z. n (sym z))

    refilled_mark : (y : ℕ) → 1 ≤ occ y (access_rows c w k) → marked c (access_stored c w i x) y ≡ true
    unfolding access_rows access_table access_heads
    refilled_mark y o = elim (ℕ_discrete y i) [
      | yes z ↦ rw z (access_stored_marked W.fits refill_row x)
      | no z ↦ (access_rest c refilled y
          (on_chain (access_table c) (access_heads c) w W.accesses_parted_lem k l.high y o) z).1
          ∙ all_row (marked c w) (access_rows c w k) (W.marks k l.low l.high) y o
    ]

    rows_same : access_rows c (access_stored c w i x) k ≡ access_rows c w k
    unfolding access_rows
    rows_same = refilled.at_b

    refilled_marks : (j : ℕ) → 1 ≤ j → j ≤ c.edits
        → all_of (marked c (access_stored c w i x)) (access_rows c (access_stored c w i x) j) ≡ true
    refilled_marks j p q = elim (ℕ_discrete j k) [
      | yes z ↦ rw (z, rows_same) (row_all (marked c (access_stored c w i x)) (access_rows c w k) refilled_mark)
      | no z ↦ all_same (marked c (access_stored c w i x)) (marked c w) (access_rows c w j)
          (access_rows c (access_stored c w i x) j)
          (refilled_others (marked c (access_stored c w i x)) (marked c w) (λ y q n. (access_rest c refilled y q n).1) j
          (record { low = p; high = q }) z)
          (W.marks j p q)
    ]

    named : names (edit_at (decode_at c w) k) x.rec ≡ true
    unfolding names accesses_of
    named =
        ap (λ as'. any (is_of x.rec) as') (accesses_at c w k l)
        ∙ any_entry (access_at c w) (is_of x.rec) (access_rows c w k) i on (eq-eqb (access_at c w i).rec x.rec same)

    pub change_access_law : {w₂ : List ℕ} → w₂ ≡ access_stored c w i x
        → Becomes c w₂ (with_edit (decode_at c w) k (with_access (edit_at (decode_at c w) k) x))
    unfolding accesses_of
    change_access_law e =
        rw (e, old_access (edit_at (decode_at c w) k) x named)
        (accesses_become W refilled.only k l refilled.parted refilled_marks
        (refilled_others (access_at c (access_stored c w i x)) (access_at c w)
        (λ y q n. (access_rest c refilled y q n).0))
        (refilled_here ∙ ap (map (λ b. cond (is_of x.rec b) x b)) (sym (accesses_at c w k l))))
