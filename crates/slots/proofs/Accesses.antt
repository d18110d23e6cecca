-- Changes of one slot's accesses: a row taken, filled and put first; a row filled again; all rows freed. Rests on
-- OneTable, Stored, Rooms, Lists.
use Prim.Native.Nat.{ℕ, ◌≤◌, ◌<◌}
use mathlib.Core.Path.{◌≡◌, refl, sym, ap, ◌∙◌}
use mathlib.Core.Bool.{true, false}
use mathlib.Core.List.{List, [], ◌∷◌, map, tail, reverse_aux}
use native.Mathlib.Omega.{arith}
use native.Mathlib.Decide.{ℕ_discrete}
use lib.Dec.{leb}
use Rattle.chains.specs.Lists.{occ, all_of, last_or}
use Rattle.chains.specs.Walk.{IsRow}
use Rattle.chains.specs.Table.{field, rows_of}
use Rattle.chains.specs.Change.{Ready, Changed, Moved, First, Emptied}
use Rattle.chains.proofs.Occurs.{occ_here}
use Rattle.chains.proofs.Words.{on_chain}
use Rattle.chains.proofs.Frames.{only_elsewhere, field_kept}
use Rattle.chains.proofs.Entries.{Filled, filled_start, pushed_entries, other_entries, entries_kept}
use Rattle.meaning.specs.Store.{Edit, with_edit, edit_at, names}
use Rattle.meaning.specs.Edits.{with_access}
use Rattle.types.specs.declared.Access.{Access}
use Rattle.types.specs.declared.Counts.{Counts}
use Rattle.tables.specs.Layout.{access_table, access_heads, Fits, A_RECORD, A_FROM, A_WRITTEN, A_VALUE}
use Rattle.tables.specs.Decode.{access_at, access_rows, accesses_of, slot_at, decode_at}
use Rattle.writes.specs.Rows.{access_stored}
use Rattle.tables.specs.Words.{Well, marked}
use Rattle.tables.proofs.Places.{accesses_laid}
use Rattle.tables.proofs.Decoded.{edit_at_lem}
use Rattle.changes.specs.Becomes.{Becomes, with_accesses}
use Rattle.changes.proofs.Parts.{all_same}
use Rattle.changes.proofs.OneTable.{accesses_become, accesses_fit}
use Rattle.changes.proofs.Stored.{access_stored_at, access_stored_marked, access_filled, access_rest}
use Rattle.changes.proofs.Lists.{all_pushed}

-- the decoded accesses of a slot
pub accesses_at : (c : Counts) (w : List ℕ) (k : ℕ) → IsRow c.edits k
    → (edit_at (decode_at c w) k).accesses ≡ accesses_of c w k
unfolding slot_at
accesses_at c w k l = ap (λ x. x.accesses) (edit_at_lem c w k l)

-- an access of a record that the edit does not name stands first
new_access : (e : Edit) (a : Access) → names e a.rec ≡ false → with_access e a ≡ with_accesses e (a ∷ e.accesses)
unfolding with_access
new_access e a h = rw h refl

module _ {c : Counts} {w : List ℕ} (W : Well c w) {k : ℕ} (l : IsRow c.edits k) where
  -- the free chain and slot k's, either way
  pub access_ready : Ready (access_table c) (access_heads c) w 0 k
  unfolding access_heads
  access_ready = record {
    laid = accesses_laid W.fits;
    parted = W.accesses_parted_lem;
    a_in = omega arith;
    b_in = l.high;
    differ = λ e. omega (arith, l.low);
  }

  pub access_ready_back : Ready (access_table c) (access_heads c) w k 0
  unfolding access_heads
  access_ready_back = record {
    laid = accesses_laid W.fits;
    parted = W.accesses_parted_lem;
    a_in = l.high;
    b_in = omega arith;
    differ = λ e. omega (arith, l.low);
  }

  -- where there is room, a row was taken
  module _ {w₁ : List ℕ} {i : ℕ} (t : First (access_heads c) w 0
      (Moved (access_table c) (access_heads c) w w₁ 0 k) i) where
    access_moved : Moved (access_table c) (access_heads c) w w₁ 0 k i
    access_moved = t.done

    pub access_row : IsRow c.accesses i
    unfolding access_table
    access_row = access_moved.row

    pub access_moved_fits : Fits c w₁
    unfolding access_table
    access_moved_fits = accesses_fit W.fits (only_elsewhere (omega arith) access_moved.changed.elsewhere)

    -- and once filled it is the first of slot k's accesses
    module _ (x : Access) where
      pushed : Filled (access_table c) (access_heads c) w (access_stored c w₁ i x) 0 k
          (tail (rows_of (access_table c) (access_heads c) w 0)) (i ∷ rows_of (access_table c) (access_heads c) w k) i
      pushed = access_filled c access_ready (filled_start access_ready i access_moved.changed) access_row x

      pushed_on : 1 ≤ occ i (rows_of (access_table c) (access_heads c) w 0)
      pushed_on = rw access_moved.taken (occ_here i (tail (rows_of (access_table c) (access_heads c) w 0)))

      pushed_here : accesses_of c (access_stored c w₁ i x) k ≡ x ∷ accesses_of c w k
      unfolding accesses_of access_rows access_table
      pushed_here =
          pushed_entries (access_at c (access_stored c w₁ i x)) (access_at c w) access_ready access_moved.taken pushed
          (λ y q n. (access_rest c pushed y q n).0)
          ∙ ap (λ y. y ∷ map (access_at c w) (rows_of (access_table c) (access_heads c) w k))
          (access_stored_at access_moved_fits access_row x)

      pushed_others : {A : Type 0} (f g : ℕ → A) → ((y : ℕ) → IsRow c.accesses y → (y ≡ i → ⊥) → f y ≡ g y) → (j : ℕ)
          → IsRow c.edits j → (j ≡ k → ⊥) → map f (access_rows c (access_stored c w₁ i x) j) ≡ map g (access_rows c w j)
      unfolding access_rows access_heads access_table
      pushed_others f g e j q n =
          other_entries pushed f g W.accesses_parted_lem 0 (omega arith) pushed_on e j q.high
          (λ e. omega (arith, q.low)) n (λ e. omega (arith, q.low))

      pushed_marks : (j : ℕ) → 1 ≤ j → j ≤ c.edits
          → all_of (marked c (access_stored c w₁ i x)) (access_rows c (access_stored c w₁ i x) j) ≡ true
      unfolding access_rows access_heads access_table
      pushed_marks j p q =
          let w₂ = access_stored c w₁ i x in
          elim (ℕ_discrete j k) [
            | yes z ↦ all_pushed (marked c w₂) (marked c w) (access_rows c w j) (access_rows c w₂ j) (marked c w₂ i)
                (rw z (pushed_entries (marked c w₂) (marked c w) access_ready access_moved.taken pushed
                (λ y q n. (access_rest c pushed y q n).1)))
                (access_stored_marked access_moved_fits access_row x) (W.marks j p q)
            | no z ↦ all_same (marked c w₂) (marked c w) (access_rows c w j) (access_rows c w₂ j)
                (pushed_others (marked c w₂) (marked c w) (λ y q n. (access_rest c pushed y q n).1) j
                (record { low = p; high = q }) z)
                (W.marks j p q)
          ]

      pub add_access_law : {w₂ : List ℕ} → names (edit_at (decode_at c w) k) x.rec ≡ false → w₂ ≡ access_stored c w₁ i x
          → Becomes c w₂ (with_edit (decode_at c w) k (with_access (edit_at (decode_at c w) k) x))
      unfolding accesses_of
      add_access_law h e =
          rw (e, new_access (edit_at (decode_at c w) k) x h)
          (accesses_become W pushed.only k l pushed.parted pushed_marks
          (pushed_others (access_at c (access_stored c w₁ i x)) (access_at c w)
          (λ y q n. (access_rest c pushed y q n).0))
          (pushed_here ∙ ap (λ y. x ∷ y) (sym (accesses_at c w k l))))

  -- all rows were sent to the free chain
  module _ {w' : List ℕ}
      (emptied : Changed (access_table c) (access_heads c) w w' k 0 []
      (reverse_aux (rows_of (access_table c) (access_heads c) w k)
      (rows_of (access_table c) (access_heads c) w 0))) where
    emptied_rest : (x : ℕ) → IsRow c.accesses x → (access_at c w' x ≡ access_at c w x) × (marked c w' x ≡ marked c w x)
    unfolding access_at access_table
    emptied_rest x q =
        let kept : (o : ℕ) → o < 4 → field (access_table c) w' x o ≡ field (access_table c) w x o =
        λ o b. field_kept (accesses_laid W.fits) emptied.elsewhere x o q.low (omega arith)
        (λ e. omega arith) in (
          rw (
            kept A_RECORD (omega arith),
            kept A_FROM (omega arith),
            kept A_WRITTEN (omega arith),
            kept A_VALUE (omega arith),
          ) refl,
          ap (λ y. leb y 1) (kept A_WRITTEN (omega arith)),
        )

    row_of : (j : ℕ) → j ≤ c.edits → (x : ℕ) → 1 ≤ occ x (rows_of (access_table c) (access_heads c) w j)
        → IsRow c.accesses x
    unfolding access_table access_heads
    row_of j q x o = on_chain (access_table c) (access_heads c) w W.accesses_parted_lem j q x o

    emptied_others : {A : Type 0} (f g : ℕ → A) → ((y : ℕ) → IsRow c.accesses y → f y ≡ g y) → (j : ℕ)
        → IsRow c.edits j → (j ≡ k → ⊥) → map f (access_rows c w' j) ≡ map g (access_rows c w j)
    unfolding access_rows access_heads
    emptied_others f g e j q n = ap (map f) (emptied.others j q.high n (λ z. omega (arith, q.low)))
        ∙ entries_kept f g (rows_of (access_table c) (access_heads c) w j) (λ x o. e x (row_of j q.high x o))

    emptied_marks : (j : ℕ) → 1 ≤ j → j ≤ c.edits → all_of (marked c w') (access_rows c w' j) ≡ true
    unfolding access_rows all_of
    emptied_marks j p q = elim (ℕ_discrete j k) [
      | yes z ↦ rw (ap (rows_of (access_table c) (access_heads c) w') z ∙ emptied.at_a) refl
      | no z ↦ all_same (marked c w') (marked c w) (access_rows c w j) (access_rows c w' j)
          (emptied_others (marked c w') (marked c w) (λ y q. (emptied_rest y q).1) j (record { low = p; high = q }) z)
          (W.marks j p q)
    ]

    pub empty_accesses_law : Becomes c w' (with_edit (decode_at c w) k (with_accesses (edit_at (decode_at c w) k) []))
    unfolding accesses_of access_rows access_table
    empty_accesses_law =
        accesses_become W (only_elsewhere (omega arith) emptied.elsewhere) k l emptied.parted emptied_marks
        (emptied_others (access_at c w') (access_at c w) (λ y q. (emptied_rest y q).0))
        (ap (map (access_at c w')) emptied.at_a)

  pub emptied_changed : {w' : List ℕ} (n : ℕ) → Emptied (access_table c) (access_heads c) w w' k 0 0 n
      → Changed (access_table c) (access_heads c) w w' k 0 []
      (reverse_aux (rows_of (access_table c) (access_heads c) w k) (rows_of (access_table c) (access_heads c) w 0))
  unfolding Emptied last_or
  emptied_changed n u = (u [] (rows_of (access_table c) (access_heads c) w k) (record { parts = refl; last = refl })).1
