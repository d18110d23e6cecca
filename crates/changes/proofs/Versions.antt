-- Changes of one record's versions: a row taken, put at its place and filled; rows dropped by a test. Rests on
-- OneTable, Stored, Rooms and Lists.
use Prim.Native.Nat.{ℕ, suc, ◌≤◌, ◌<◌}
use mathlib.Core.Path.{◌≡◌, refl, sym, ap, ◌∙◌}
use mathlib.Core.Bool.{Bool}
use mathlib.Core.List.{List, map, tail}
use native.Mathlib.Omega.{arith}
use lib.Dec.{ltb}
use Rattle.chains.specs.Lists.{occ, drop_if, push_if, insert_after}
use Rattle.chains.specs.Walk.{IsRow}
use Rattle.chains.specs.Table.{field, rows_of, falling, stands_before}
use Rattle.chains.specs.Change.{Ready, Elsewhere, Changed, InsertedSorted, First}
use Rattle.chains.proofs.Words.{on_chain}
use Rattle.chains.proofs.Frames.{only_elsewhere, field_kept, apart_kept}
use Rattle.chains.proofs.Entries.{Filled, filled_start, sorted_entries, taken_others, entries_kept, entries_drop}
use Rattle.meaning.specs.Store.{with_rec, rec_at}
use Rattle.meaning.specs.Ending.{insert}
use Rattle.types.specs.declared.Version.{Version}
use Rattle.types.specs.declared.Counts.{Counts}
use Rattle.tables.specs.Layout.{version_table, version_heads, Fits, V_POINT, V_VALUE, V_SPARE}
use Rattle.tables.specs.Decode.{version_at, version_rows, versions_of, record_at, decode_at}
use Rattle.writes.specs.Rows.{version_stored}
use Rattle.tables.specs.Words.{Well}
use Rattle.tables.proofs.Places.{versions_laid}
use Rattle.tables.proofs.Decoded.{rec_at_lem}
use Rattle.changes.specs.Becomes.{AccessesKept, Becomes, with_versions, version_of}
use Rattle.changes.proofs.Apart.{versions_accesses}
use Rattle.changes.proofs.Parts.{accesses_kept}
use Rattle.changes.proofs.OneTable.{versions_become, versions_fit}
use Rattle.changes.proofs.Stored.{version_stored_at, version_filled, version_rest}
use Rattle.changes.proofs.Lists.{occ_drop, insert_after_lem}

-- the decoded versions of a record
pub versions_at : (c : Counts) (w : List ℕ) (r : ℕ) → r < c.records
    → (rec_at (decode_at c w) r).versions ≡ versions_of c w r
unfolding record_at
versions_at c w r l = ap (λ x. x.versions) (rec_at_lem c w r l)

-- where only head and link words differ, the versions are as before
pub version_kept : {c : Counts} {w w' : List ℕ} → Fits c w → Elsewhere (version_table c) (version_heads c) w w'
    → (x : ℕ) → IsRow c.versions x → version_at c w' x ≡ version_at c w x
unfolding version_at version_table
version_kept {c} {w} {w'} f e x q =
    let kept : (o : ℕ) → o < 3 → field (version_table c) w' x o ≡ field (version_table c) w x o =
    λ o b. field_kept (versions_laid f) e x o q.low (omega arith) (λ z. omega arith) in
    rw (kept V_POINT (omega arith), kept V_VALUE (omega arith), kept V_SPARE (omega arith)) refl

module _ {c : Counts} {w : List ℕ} (W : Well c w) {r : ℕ} (l : r < c.records) where
  -- record r's chain and the free one
  pub version_ready : Ready (version_table c) (version_heads c) w (suc r) 0
  unfolding version_heads
  version_ready = record {
    laid = versions_laid W.fits;
    parted = W.versions_parted_lem;
    a_in = omega arith;
    b_in = omega arith;
    differ = λ e. omega arith;
  }

  -- where there is room, a row was taken
  module _ {w₁ : List ℕ} {q i : ℕ}
      (k : First (version_heads c) w 0
      (InsertedSorted (version_table c) (version_heads c) w w₁ (suc r) 0 V_POINT q falling) i) where
    version_inserted : InsertedSorted (version_table c) (version_heads c) w w₁ (suc r) 0 V_POINT q falling i
    version_inserted = k.done

    pub version_row : IsRow c.versions i
    unfolding version_table
    version_row = version_inserted.row

    pub version_inserted_fits : Fits c w₁
    unfolding version_table
    version_inserted_fits = versions_fit W.fits (only_elsewhere (omega arith) version_inserted.changed.elsewhere)

    -- and once filled it stands where its point belongs
    module _ (point value : ℕ) where
      inserted : Filled (version_table c) (version_heads c) w (version_stored c w₁ i point value) (suc r) 0
          (insert_after (stands_before falling (version_table c) w V_POINT q) i
          (rows_of (version_table c) (version_heads c) w (suc r)))
          (tail (rows_of (version_table c) (version_heads c) w 0)) i
      inserted =
          version_filled c version_ready (filled_start version_ready i version_inserted.changed) version_row point
          value

      inserted_here : point ≡ suc q
          → versions_of c (version_stored c w₁ i point value) r ≡ insert (version_of point value) (versions_of c w r)
      unfolding versions_of version_rows version_at version_table stands_before falling
      inserted_here e =
          let rows = rows_of (version_table c) (version_heads c) w (suc r) in
          sorted_entries (version_at c (version_stored c w₁ i point value)) (version_at c w) (λ x. ltb q x.point)
          version_ready version_inserted.taken inserted (λ y q n. version_rest c inserted y q n)
          ∙ ap (λ y. insert_after (λ x. ltb q x.point) y (map (version_at c w) rows))
          (version_stored_at version_inserted_fits version_row point value)
          ∙ insert_after_lem q (version_of point value) e (map (version_at c w) rows)

      inserted_others : (j : ℕ) → j < c.records → (j ≡ r → ⊥)
          → versions_of c (version_stored c w₁ i point value) j ≡ versions_of c w j
      unfolding versions_of version_rows version_heads version_table
      inserted_others j q n =
          taken_others (version_at c (version_stored c w₁ i point value)) (version_at c w) version_ready
          version_inserted.taken inserted (λ y q n. version_rest c inserted y q n) (suc j) (omega arith)
          (λ e. n (omega arith)) (λ e. omega arith)

      pub add_version_law : {w₂ : List ℕ} → point ≡ suc q → w₂ ≡ version_stored c w₁ i point value
          → Becomes c w₂ (with_rec (decode_at c w) r
          (with_versions (rec_at (decode_at c w) r)
          (insert (version_of point value) (rec_at (decode_at c w) r).versions)))
      add_version_law e z =
          rw z (versions_become W inserted.only r l inserted.parted inserted_others
          (inserted_here e ∙ ap (insert (version_of point value)) (sym (versions_at c w r l))))

      pub add_version_kept : {w₂ : List ℕ} → w₂ ≡ version_stored c w₁ i point value → AccessesKept c w w₂
      add_version_kept z = rw z (accesses_kept (apart_kept (versions_accesses c) inserted.only))

  -- rows that pass a test of their entry were sent to the free chain
  module _ {w' : List ℕ} (p : Version → Bool)
      (unlinked : Changed (version_table c) (version_heads c) w w' (suc r) 0
      (drop_if (λ i. p (version_at c w i)) (rows_of (version_table c) (version_heads c) w (suc r)))
      (push_if (λ i. p (version_at c w i)) (rows_of (version_table c) (version_heads c) w (suc r))
      (rows_of (version_table c) (version_heads c) w 0))) where
    unlinked_rest : (x : ℕ) → IsRow c.versions x → version_at c w' x ≡ version_at c w x
    unlinked_rest = version_kept W.fits unlinked.elsewhere

    row_of : (j : ℕ) → j < c.records → (x : ℕ) → 1 ≤ occ x (rows_of (version_table c) (version_heads c) w (suc j))
        → IsRow c.versions x
    unfolding version_table version_heads
    row_of j q x o = on_chain (version_table c) (version_heads c) w W.versions_parted_lem (suc j) (omega arith) x o

    unlinked_others : (j : ℕ) → j < c.records → (j ≡ r → ⊥) → versions_of c w' j ≡ versions_of c w j
    unfolding versions_of version_rows version_heads
    unlinked_others j q n =
        ap (map (version_at c w')) (unlinked.others (suc j) (omega arith) (λ z. n (omega arith)) (λ z. omega arith))
        ∙ entries_kept (version_at c w') (version_at c w) (rows_of (version_table c) (version_heads c) w (suc j))
        (λ x o. unlinked_rest x (row_of j q x o))

    unlinked_here : versions_of c w' r ≡ drop_if p (versions_of c w r)
    unfolding versions_of version_rows
    unlinked_here =
        let test : ℕ → Bool = λ i. p (version_at c w i) in
        let rows = rows_of (version_table c) (version_heads c) w (suc r) in
        ap (map (version_at c w')) unlinked.at_a
        ∙ entries_kept (version_at c w') (version_at c w) (drop_if test rows)
        (λ x o. unlinked_rest x (row_of r l x (omega (arith, occ_drop x test rows))))
        ∙ entries_drop (version_at c w) p rows

    pub drop_versions_law : {vs : List Version} → drop_if p (rec_at (decode_at c w) r).versions ≡ vs
        → Becomes c w' (with_rec (decode_at c w) r (with_versions (rec_at (decode_at c w) r) vs))
    unfolding version_table
    drop_versions_law e =
        versions_become W (only_elsewhere (omega arith) unlinked.elsewhere) r l unlinked.parted unlinked_others
        (unlinked_here ∙ ap (drop_if p) (sym (versions_at c w r l)) ∙ e)
