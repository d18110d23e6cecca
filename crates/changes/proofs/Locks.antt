-- Changes of one record's locks: a row taken, put at its place and filled; rows dropped by a test. Rests on OneTable,
-- Stored, Rooms and Lists.
use Prim.Native.Nat.{ℕ, suc, ◌≤◌, ◌<◌}
use mathlib.Core.Path.{◌≡◌, refl, sym, ap, ◌∙◌}
use mathlib.Core.Bool.{Bool, true}
use mathlib.Core.List.{List, map, tail}
use native.Mathlib.Omega.{arith}
use native.Mathlib.Decide.{ℕ_discrete}
use lib.Dec.{eqb, ltb}
use borrow.Author.Tests.{eq-eqb}
use Rattle.chains.specs.Lists.{occ, all_of, drop_if, push_if, take_while, drop_while, insert_after}
use Rattle.chains.specs.Walk.{IsRow}
use Rattle.chains.specs.Table.{field, rows_of, rising, stands_before}
use Rattle.chains.specs.Change.{Ready, Elsewhere, Changed, InsertedSorted, First}
use Rattle.chains.proofs.Places.{take_drop}
use Rattle.chains.proofs.Words.{on_chain}
use Rattle.chains.proofs.Frames.{only_elsewhere, field_kept, apart_kept}
use Rattle.chains.proofs.Entries.{Filled, filled_start, inserted_entries, sorted_entries, taken_others, entries_kept}
use Rattle.chains.proofs.Entries.{entries_drop}
use Rattle.meaning.specs.Store.{with_rec, with_locks, rec_at}
use Rattle.meaning.specs.Points.{put_lock, add_lock}
use Rattle.types.specs.declared.Lock.{Lock}
use Rattle.types.specs.declared.Counts.{Counts}
use Rattle.tables.specs.Layout.{lock_table, lock_heads, Fits, MODES, L_LOW, L_HIGH, L_MODE, L_RECORD}
use Rattle.tables.specs.Decode.{lock_at, lock_rows, locks_of, record_at, decode_at}
use Rattle.writes.specs.Rows.{lock_stored}
use Rattle.tables.specs.Words.{Well, names_record}
use Rattle.tables.proofs.Places.{locks_laid}
use Rattle.tables.proofs.Decoded.{rec_at_lem}
use Rattle.changes.specs.Becomes.{Becomes, Beside}
use Rattle.changes.proofs.Apart.{locks_accesses}
use Rattle.changes.proofs.Parts.{accesses_kept, all_same}
use Rattle.changes.proofs.OneTable.{locks_become, locks_fit}
use Rattle.changes.proofs.Stored.{lock_stored_at, lock_stored_record, lock_filled, lock_rest}
use Rattle.changes.proofs.Lists.{all_inserted, all_dropped, occ_drop, lock_after}

-- the decoded locks of a record
pub locks_at : (c : Counts) (w : List ℕ) (r : ℕ) → r < c.records → (rec_at (decode_at c w) r).locks ≡ locks_of c w r
unfolding record_at
locks_at c w r l = ap (λ x. x.locks) (rec_at_lem c w r l)

-- and with those gone that pass a test
pub locks_dropped : (c : Counts) (w : List ℕ) (r : ℕ) → r < c.records → (p : Lock → Bool)
    → map (lock_at c w) (drop_if (λ i. p (lock_at c w i)) (lock_rows c w r)) ≡ drop_if p
    (rec_at (decode_at c w) r).locks
unfolding locks_of
locks_dropped c w r l p = entries_drop (lock_at c w) p (lock_rows c w r) ∙ ap (drop_if p) (sym (locks_at c w r l))

-- where only head and link words differ, the locks are as before
pub lock_kept : {c : Counts} {w w' : List ℕ} → Fits c w → Elsewhere (lock_table c) (lock_heads c) w w' → (x : ℕ)
    → IsRow c.locks x
    → (lock_at c w' x ≡ lock_at c w x) × ((j : ℕ) → names_record c w' j x ≡ names_record c w j x)
unfolding lock_at lock_table
lock_kept {c} {w} {w'} f e x q =
    let kept : (o : ℕ) → o < 4 → field (lock_table c) w' x o ≡ field (lock_table c) w x o =
    λ o b. field_kept (locks_laid f) e x o q.low (omega arith) (λ z. omega arith) in (
      rw (kept L_LOW (omega arith), kept L_HIGH (omega arith), kept L_MODE (omega arith)) refl,
      λ j. ap (λ y. eqb y j) (kept L_RECORD (omega arith)),
    )

module _ {c : Counts} {w : List ℕ} (W : Well c w) {r : ℕ} (l : r < c.records) where
  -- record r's chain and the free one
  pub lock_ready_back : Ready (lock_table c) (lock_heads c) w (suc r) 0
  unfolding lock_heads
  lock_ready_back = record {
    laid = locks_laid W.fits;
    parted = W.locks_parted_lem;
    a_in = omega arith;
    b_in = omega arith;
    differ = λ e. omega arith;
  }

  -- where there is room, a row was taken
  module _ {w₁ : List ℕ} {q i : ℕ}
      (k : First (lock_heads c) w 0 (InsertedSorted (lock_table c) (lock_heads c) w w₁ (suc r) 0 L_LOW q rising)
      i) where
    lock_inserted : InsertedSorted (lock_table c) (lock_heads c) w w₁ (suc r) 0 L_LOW q rising i
    lock_inserted = k.done

    pub lock_row : IsRow c.locks i
    unfolding lock_table
    lock_row = lock_inserted.row

    pub lock_inserted_fits : Fits c w₁
    unfolding lock_table
    lock_inserted_fits = locks_fit W.fits (only_elsewhere (omega arith) lock_inserted.changed.elsewhere)

    -- and once filled it stands where its low point belongs
    module _ (x : Lock) where
      inserted : Filled (lock_table c) (lock_heads c) w (lock_stored c w₁ i r x) (suc r) 0
          (insert_after (stands_before rising (lock_table c) w L_LOW q) i
          (rows_of (lock_table c) (lock_heads c) w (suc r)))
          (tail (rows_of (lock_table c) (lock_heads c) w 0)) i
      inserted = lock_filled c lock_ready_back (filled_start lock_ready_back i lock_inserted.changed) lock_row r x

      inserted_here : x.mode < MODES → x.low ≡ q → locks_of c (lock_stored c w₁ i r x) r ≡ put_lock x (locks_of c w r)
      unfolding locks_of lock_rows lock_at lock_table stands_before rising
      inserted_here m e =
          let rows = rows_of (lock_table c) (lock_heads c) w (suc r) in
          sorted_entries (lock_at c (lock_stored c w₁ i r x)) (lock_at c w) (λ y. ltb y.low q) lock_ready_back
          lock_inserted.taken inserted (λ y q n. (lock_rest c inserted y q n).0)
          ∙ ap (λ y. insert_after (λ z. ltb z.low q) y (map (lock_at c w) rows))
          (lock_stored_at lock_inserted_fits lock_row r x m)
          ∙ lock_after q x e (map (lock_at c w) rows)

      inserted_others : {A : Type 0} (f g : ℕ → A) → ((y : ℕ) → IsRow c.locks y → (y ≡ i → ⊥) → f y ≡ g y) → (j : ℕ)
          → j < c.records → (j ≡ r → ⊥) → map f (lock_rows c (lock_stored c w₁ i r x) j) ≡ map g (lock_rows c w j)
      unfolding lock_rows lock_heads lock_table
      inserted_others f g e j q n =
          taken_others f g lock_ready_back lock_inserted.taken inserted e (suc j) (omega arith)
          (λ z. n (omega arith)) (λ z. omega arith)

      inserted_named : (j : ℕ) → j < c.records
          → all_of (names_record c (lock_stored c w₁ i r x) j) (lock_rows c (lock_stored c w₁ i r x) j) ≡ true
      unfolding lock_rows lock_table
      inserted_named j p =
          let w₂ = lock_stored c w₁ i r x in
          let test = stands_before rising (lock_table c) w L_LOW q in
          let rows = rows_of (lock_table c) (lock_heads c) w (suc r) in
          elim (ℕ_discrete j r) [
            | yes z ↦ rw z (all_inserted (names_record c w₂ r) (names_record c w r) (take_while test rows)
                (drop_while test rows) (lock_rows c w₂ r) (names_record c w₂ r i)
                (inserted_entries (names_record c w₂ r) (names_record c w r) (take_while test rows)
                (drop_while test rows)
                lock_ready_back lock_inserted.taken (take_drop test rows) inserted
                (λ y q n. (lock_rest c inserted y q n).1 r))
                (eq-eqb (field (lock_table c) w₂ i L_RECORD) r (lock_stored_record lock_inserted_fits lock_row r x))
                (ap (all_of (names_record c w r)) (sym (take_drop test rows)) ∙ W.named r l))
            | no z ↦ all_same (names_record c w₂ j) (names_record c w j) (lock_rows c w j) (lock_rows c w₂ j)
                (inserted_others (names_record c w₂ j) (names_record c w j)
                (λ y q n. (lock_rest c inserted y q n).1 j) j p z)
                (W.named j p)
          ]

      pub add_lock_law : {w₂ : List ℕ} → x.mode < MODES → x.low ≡ q → w₂ ≡ lock_stored c w₁ i r x
          → Beside c w w₂
          (with_rec (decode_at c w) r (with_locks (rec_at (decode_at c w) r)
          (add_lock x (rec_at (decode_at c w) r).locks)))
      unfolding locks_of add_lock
      add_lock_law m z e = rw e (record {
        becomes =
            locks_become W inserted.only r l inserted.parted inserted_named
            (inserted_others (lock_at c (lock_stored c w₁ i r x)) (lock_at c w)
            (λ y q n. (lock_rest c inserted y q n).0))
            (inserted_here m z ∙ ap (put_lock x) (sym (locks_at c w r l)));
        accesses = accesses_kept (apart_kept (locks_accesses c) inserted.only);
      })

  -- rows that pass a test were sent to the free chain
  module _ {w' : List ℕ} (test : ℕ → Bool) (unlinked : Changed (lock_table c) (lock_heads c) w w' (suc r) 0
      (drop_if test (rows_of (lock_table c) (lock_heads c) w (suc r)))
      (push_if test (rows_of (lock_table c) (lock_heads c) w (suc r))
      (rows_of (lock_table c) (lock_heads c) w 0))) where
    unlinked_rest : (x : ℕ) → IsRow c.locks x
        → (lock_at c w' x ≡ lock_at c w x) × ((j : ℕ) → names_record c w' j x ≡ names_record c w j x)
    unlinked_rest x q = lock_kept W.fits unlinked.elsewhere x q

    row_of : (j : ℕ) → j < c.records → (x : ℕ) → 1 ≤ occ x (rows_of (lock_table c) (lock_heads c) w (suc j))
        → IsRow c.locks x
    unfolding lock_table lock_heads
    row_of j q x o = on_chain (lock_table c) (lock_heads c) w W.locks_parted_lem (suc j) (omega arith) x o

    unlinked_others : {A : Type 0} (f g : ℕ → A) → ((x : ℕ) → IsRow c.locks x → f x ≡ g x) → (j : ℕ) → j < c.records
        → (j ≡ r → ⊥) → map f (lock_rows c w' j) ≡ map g (lock_rows c w j)
    unfolding lock_rows lock_heads
    unlinked_others f g e j q n =
        ap (map f) (unlinked.others (suc j) (omega arith) (λ z. n (omega arith)) (λ z. omega arith))
        ∙ entries_kept f g (rows_of (lock_table c) (lock_heads c) w (suc j)) (λ x o. e x (row_of j q x o))

    unlinked_here : {A : Type 0} (f g : ℕ → A) → ((x : ℕ) → IsRow c.locks x → f x ≡ g x)
        → map f (lock_rows c w' r) ≡ map g (drop_if test (lock_rows c w r))
    unfolding lock_rows
    unlinked_here f g e = ap (map f) unlinked.at_a
        ∙ entries_kept f g (drop_if test (rows_of (lock_table c) (lock_heads c) w (suc r)))
        (λ x o. e x (row_of r l x (dropped_in x o)))
      where
        dropped_in : (x : ℕ) → 1 ≤ occ x (drop_if test (rows_of (lock_table c) (lock_heads c) w (suc r)))
            → 1 ≤ occ x (rows_of (lock_table c) (lock_heads c) w (suc r))
        dropped_in x o = omega (arith, occ_drop x test (rows_of (lock_table c) (lock_heads c) w (suc r)))

    unlinked_named : (j : ℕ) → j < c.records → all_of (names_record c w' j) (lock_rows c w' j) ≡ true
    unlinked_named j q = elim (ℕ_discrete j r) [
      | yes z ↦ rw z (all_same (names_record c w' r) (names_record c w r) (drop_if test (lock_rows c w r))
          (lock_rows c w' r)
          (unlinked_here (names_record c w' r) (names_record c w r) (λ x q. (unlinked_rest x q).1 r))
          (all_dropped (names_record c w r) test (lock_rows c w r) (W.named r l)))
      | no z ↦ all_same (names_record c w' j) (names_record c w j) (lock_rows c w j) (lock_rows c w' j)
          (unlinked_others (names_record c w' j) (names_record c w j) (λ x q. (unlinked_rest x q).1 j) j q z)
          (W.named j q)
    ]

    pub drop_locks_law : {ls : List Lock} → map (lock_at c w) (drop_if test (lock_rows c w r)) ≡ ls
        → Becomes c w' (with_rec (decode_at c w) r (with_locks (rec_at (decode_at c w) r) ls))
    unfolding locks_of lock_table
    drop_locks_law e =
        locks_become W (only_elsewhere (omega arith) unlinked.elsewhere) r l unlinked.parted unlinked_named
        (unlinked_others (lock_at c w') (lock_at c w) (λ x q. (unlinked_rest x q).0))
        (unlinked_here (lock_at c w') (lock_at c w) (λ x q. (unlinked_rest x q).0) ∙ e)
