-- The parts of the words that a change of another part leaves: a table that is kept has the same entries and is as well
-- formed as before, and a store where one record or one slot differs is the old one with that record or slot changed.
-- Rests on Entries of `chains` and Builds of `tables`.
use Prim.Native.Nat.{ℕ, zero, suc, ◌≤◌, ◌<◌}
use mathlib.Core.Path.{◌≡◌, refl, sym, ap, ◌∙◌}
use mathlib.Core.Bool.{Bool, true}
use mathlib.Core.List.{List, map}
use native.Mathlib.Omega.{arith}
use lib.Dec.{eqb, leb}
use Rattle.chains.specs.Lists.{all_of}
use Rattle.chains.specs.Walk.{IsRow}
use Rattle.chains.specs.Table.{field}
use Rattle.chains.specs.Partition.{partition}
use Rattle.chains.proofs.Entries.{same_entries, entries_all}
use Rattle.chains.proofs.Frames.{Kept, kept_same}
use Rattle.meaning.specs.Store.{with_edit, set_edit, with_rec, with_records}
use Rattle.types.specs.declared.Counts.{Counts}
use Rattle.tables.specs.Layout.{slot_table, lock_table, lock_heads, version_table, version_heads, access_table}
use Rattle.tables.specs.Layout.{access_heads, SLOT, S_STATE, S_GENERATION, S_ACCESS, S_POINT, L_LOW, L_HIGH}
use Rattle.tables.specs.Layout.{L_MODE, L_RECORD, V_POINT, V_VALUE, V_SPARE, A_RECORD, A_FROM, A_WRITTEN, A_VALUE}
use Rattle.tables.specs.Layout.{A_NEXT}
use Rattle.tables.specs.Decode.{version_at, lock_at, access_at, version_rows, lock_rows, access_rows}
use Rattle.tables.specs.Decode.{versions_of}
use Rattle.tables.specs.Decode.{locks_of, accesses_of, floor_of, record_at, slot_at, records_of, edits_of, decode_at}
use Rattle.tables.specs.Words.{Well, names_record, marked}
use Rattle.tables.proofs.Builds.{build_ext, build_set}
use Rattle.changes.specs.Becomes.{AccessesKept}

-- Kept tables
pub record VersionsSame (c : Counts) (w w' : List ℕ) : Type 0 where
  pub parted : partition (version_table c) (version_heads c) w' ≡ true
  pub entries : (r : ℕ) → r < c.records → versions_of c w' r ≡ versions_of c w r

pub record LocksSame (c : Counts) (w w' : List ℕ) : Type 0 where
  pub parted : partition (lock_table c) (lock_heads c) w' ≡ true
  pub entries : (r : ℕ) → r < c.records → locks_of c w' r ≡ locks_of c w r
  pub named : (r : ℕ) → r < c.records → all_of (names_record c w' r) (lock_rows c w' r) ≡ true

pub record AccessesSame (c : Counts) (w w' : List ℕ) : Type 0 where
  pub parted : partition (access_table c) (access_heads c) w' ≡ true
  pub entries : (k : ℕ) → IsRow c.edits k → accesses_of c w' k ≡ accesses_of c w k
  pub marks : (k : ℕ) → 1 ≤ k → k ≤ c.edits → all_of (marked c w') (access_rows c w' k) ≡ true

-- a test of rows holds again where it reads the same
pub all_same : (f g : ℕ → Bool) (rs rs' : List ℕ) → map f rs' ≡ map g rs → all_of g rs ≡ true → all_of f rs' ≡ true
all_same f g rs rs' e h = entries_all f (λ b. b) rs' ∙ ap (all_of (λ b. b)) e ∙ sym (entries_all g (λ b. b) rs) ∙ h

module _ {c : Counts} {w w' : List ℕ} (W : Well c w) where
  pub versions_same : Kept (version_table c) (version_heads c) w w' → VersionsSame c w w'
  unfolding versions_of version_rows version_at version_heads version_table
  versions_same K =
      let S = kept_same (omega arith) K in
      record {
        parted = S.parted_kept ∙ W.versions_parted_lem;
        entries = λ r l. same_entries (version_at c w') (version_at c w) W.versions_parted_lem S
            (λ i q. rw
            (K.words i V_POINT q (omega arith), K.words i V_VALUE q (omega arith), K.words i V_SPARE q (omega arith))
            refl)
            (suc r) (omega arith);
      }

  pub locks_same : Kept (lock_table c) (lock_heads c) w w' → LocksSame c w w'
  unfolding locks_of lock_rows lock_at lock_heads lock_table
  locks_same K =
      let S = kept_same (omega arith) K in
      record {
        parted = S.parted_kept ∙ W.locks_parted_lem;
        entries = λ r l. same_entries (lock_at c w') (lock_at c w) W.locks_parted_lem S
            (λ i q. rw
            (K.words i L_LOW q (omega arith), K.words i L_HIGH q (omega arith), K.words i L_MODE q (omega arith))
            refl)
            (suc r) (omega arith);
        named = λ r l. all_same (names_record c w' r) (names_record c w r) (lock_rows c w r) (lock_rows c w' r)
            (same_entries (names_record c w' r) (names_record c w r) W.locks_parted_lem S
            (λ i q. ap (λ x. eqb x r) (K.words i L_RECORD q (omega arith))) (suc r) (omega arith))
            (W.named r l);
      }

  pub accesses_same : Kept (access_table c) (access_heads c) w w' → AccessesSame c w w'
  unfolding accesses_of access_rows access_at access_heads access_table
  accesses_same K =
      let S = kept_same (omega arith) K in
      record {
        parted = S.parted_kept ∙ W.accesses_parted_lem;
        entries = λ k l. same_entries (access_at c w') (access_at c w) W.accesses_parted_lem S
            (λ i q. rw (
              K.words i A_RECORD q (omega arith),
              K.words i A_FROM q (omega arith),
              K.words i A_WRITTEN q (omega arith),
              K.words i A_VALUE q (omega arith),
            ) refl) k l.high;
        marks = λ k p l. all_same (marked c w') (marked c w) (access_rows c w k) (access_rows c w' k)
            (same_entries (marked c w') (marked c w) W.accesses_parted_lem S
            (λ i q. ap (λ x. leb x 1) (K.words i A_WRITTEN q (omega arith))) k l)
            (W.marks k p l);
      }

-- a walk along accesses goes on as before
pub accesses_kept : {c : Counts} {w w' : List ℕ} → Kept (access_table c) (access_heads c) w w' → AccessesKept c w w'
unfolding access_at access_table
accesses_kept K = record {
  entry =
      λ i q. rw (
        K.words i A_RECORD q (omega arith),
        K.words i A_FROM q (omega arith),
        K.words i A_WRITTEN q (omega arith),
        K.words i A_VALUE q (omega arith),
      ) refl;
  next = λ i q. K.words i A_NEXT q (omega arith);
}

-- Kept floors and slots: all words of slots but the heads of their chains
abbrev pub FloorsSame : Counts → List ℕ → List ℕ → Type 0
FloorsSame c w w' = (r : ℕ) → r < c.records → floor_of c w' r ≡ floor_of c w r

abbrev pub SlotsSame : Counts → List ℕ → List ℕ → Type 0
SlotsSame c w w' =
    (k o : ℕ) → IsRow c.edits k → o < SLOT → (o ≡ S_ACCESS → ⊥)
    → field (slot_table c) w' k o ≡ field (slot_table c) w k o

module _ (c : Counts) (w w' : List ℕ) where
  pub slot_same : (k : ℕ) → IsRow c.edits k → accesses_of c w' k ≡ accesses_of c w k
      → ((o : ℕ) → o < SLOT → (o ≡ S_ACCESS → ⊥) → field (slot_table c) w' k o ≡ field (slot_table c) w k o)
      → slot_at c w' k ≡ slot_at c w k
  unfolding slot_at
  slot_same k l a s =
      rw (
        a,
        s S_STATE (omega arith) (λ e. omega arith),
        s S_GENERATION (omega arith) (λ e. omega arith),
        s S_POINT (omega arith) (λ e. omega arith),
      ) refl

  pub edits_same : AccessesSame c w w' → SlotsSame c w w' → edits_of c w' ≡ edits_of c w
  unfolding edits_of
  edits_same A S = build_ext c.edits (λ i. slot_at c w' (suc i)) (λ i. slot_at c w (suc i))
      (λ i l. let q : IsRow c.edits (suc i) = record { low = omega arith; high = omega arith } in
      slot_same (suc i) q (A.entries (suc i) q) (λ o. S (suc i) o q))

  pub record_same : (r : ℕ) → versions_of c w' r ≡ versions_of c w r → locks_of c w' r ≡ locks_of c w r
      → floor_of c w' r ≡ floor_of c w r → record_at c w' r ≡ record_at c w r
  unfolding record_at
  record_same r v l f = rw (v, l, f) refl

  pub records_same : VersionsSame c w w' → LocksSame c w w' → FloorsSame c w w' → records_of c w' ≡ records_of c w
  unfolding records_of
  records_same vs ls fs =
      build_ext c.records (record_at c w') (record_at c w)
      (λ r l. record_same r (vs.entries r l) (ls.entries r l) (fs r l))

  -- one record, one slot differs
  pub record_decoded : (r : ℕ) → r < c.records
      → ((j : ℕ) → j < c.records → (j ≡ r → ⊥) → record_at c w' j ≡ record_at c w j) → edits_of c w' ≡ edits_of c w
      → decode_at c w' ≡ with_rec (decode_at c w) r (record_at c w' r)
  unfolding decode_at with_records records_of
  record_decoded r l f e = rw (e, build_set c.records (record_at c w) (record_at c w') r l f) refl

  pub slot_decoded : (k : ℕ) → IsRow c.edits k
      → ((j : ℕ) → IsRow c.edits j → (j ≡ k → ⊥) → slot_at c w' j ≡ slot_at c w j) → records_of c w' ≡ records_of c w
      → decode_at c w' ≡ with_edit (decode_at c w) k (slot_at c w' k)
  unfolding decode_at with_edit set_edit edits_of
  slot_decoded zero l f e = absurd (omega (arith, l.low))
  slot_decoded (suc k) l f e = rw (
    e,
    build_set c.edits (λ i. slot_at c w (suc i)) (λ i. slot_at c w' (suc i)) k (omega (arith, l.high))
        (λ i q n. f (suc i) (record { low = omega arith; high = omega arith }) (λ z. n (omega arith))),
  ) refl
