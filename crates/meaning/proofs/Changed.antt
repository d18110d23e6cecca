-- What committing, settling and purging make of one record and of one slot, as a function of its index, and that the
-- counts stay. Rests on Stores, Kept and LocksLeft.
use Prim.Native.Nat.{ℕ, ◌≤◌, ◌<◌}
use native.Mathlib.Omega.{arith}
use native.Mathlib.Decide.{dec_lt}
use mathlib.Core.Path.{◌≡◌, refl}
use mathlib.Core.Bool.{true}
use lib.ListN.{length, length-set}
use Rattle.meaning.specs.Lists.{◌∈◌, map_from}
use Rattle.types.specs.Limits.{COMMITTED, ABORTED}
use Rattle.meaning.specs.Store.{Access, Rec, Edit, Store, fresh_rec, counts_of, edit_at, rec_at, with_edit}
use Rattle.meaning.specs.Store.{with_records, with_rec}
use Rattle.meaning.specs.Ending.{ended, freed, settled_rec, settled, settled_by, committed_rec, committed, aborted}
use Rattle.meaning.specs.Records.{good_counts}
use Rattle.meaning.proofs.Lists.{length_map_from}
use Rattle.meaning.proofs.Stores.{InRange, edit_same, edit_other, length_set_edit, rec_same, rec_other, rec_past}
use Rattle.meaning.proofs.Stores.{rec_map, rec_map_past}
use Rattle.meaning.proofs.Kept.{access_past}
use Rattle.meaning.proofs.LocksLeft.{settled_none}

-- an edit whose accesses name existing records; then the record is so also past the end
abbrev pub NamesExisting : Store → ℕ → Type 0
NamesExisting s k = (a : Access) → a ∈ (edit_at s k).accesses → a.rec < length s.records

module _ (s : Store) (k t r : ℕ) where
  pub rec_committed : r < length s.records → rec_at (committed s k t) r ≡ committed_rec (edit_at s k) t r (rec_at s r)
  unfolding committed with_edit with_records
  rec_committed h = rec_map (committed_rec (edit_at s k) t) s.records r h

  pub rec_committed_past : length s.records ≤ r → rec_at (committed s k t) r ≡ fresh_rec
  unfolding committed with_edit with_records
  rec_committed_past h = rec_map_past (committed_rec (edit_at s k) t) s.records r h

  pub rec_committed_any : NamesExisting s k → rec_at (committed s k t) r ≡ committed_rec (edit_at s k) t r (rec_at s r)
  rec_committed_any f = go (dec_lt r (length s.records))
    where
      go : Dec (r < length s.records) → rec_at (committed s k t) r ≡ committed_rec (edit_at s k) t r (rec_at s r)
      go (yes h) = rec_committed h
      go (no h) =
          rw (
            rec_committed_past (omega arith),
            access_past (edit_at s k) r s.records f (omega arith),
            rec_past s.records r (omega arith),
          ) refl

module _ (s : Store) (k r : ℕ) where
  pub rec_settled : r < length s.records → rec_at (settled s k) r ≡ settled_rec k (edit_at s k) r (rec_at s r)
  unfolding settled_by with_edit with_records
  rec_settled h = rec_map (settled_rec k (edit_at s k)) s.records r h

  pub rec_settled_past : length s.records ≤ r → rec_at (settled s k) r ≡ fresh_rec
  unfolding settled_by with_edit with_records
  rec_settled_past h = rec_map_past (settled_rec k (edit_at s k)) s.records r h

  pub rec_settled_any : NamesExisting s k → rec_at (settled s k) r ≡ settled_rec k (edit_at s k) r (rec_at s r)
  rec_settled_any f = go (dec_lt r (length s.records))
    where
      go : Dec (r < length s.records) → rec_at (settled s k) r ≡ settled_rec k (edit_at s k) r (rec_at s r)
      go (yes h) = rec_settled h
      go (no h) =
          rw (
            rec_settled_past (omega arith),
            rec_past s.records r (omega arith),
            settled_none k (edit_at s k) r (access_past (edit_at s k) r s.records f (omega arith)),
          ) refl

  pub rec_aborted : rec_at (aborted s k) r ≡ rec_at s r
  unfolding aborted with_edit
  rec_aborted = refl

-- purging puts one record in the place of another
module _ (s : Store) (r : ℕ) (y : Rec) where
  pub rec_purged : r < length s.records → rec_at (with_rec s r y) r ≡ y
  unfolding with_records
  rec_purged h = rec_same s.records r y h

  pub rec_purged_other : (j : ℕ) → (j ≡ r → ⊥) → rec_at (with_rec s r y) j ≡ rec_at s j
  unfolding with_records
  rec_purged_other j h = rec_other s.records r j y h

  pub edit_purged : (k : ℕ) → edit_at (with_rec s r y) k ≡ edit_at s k
  unfolding with_records
  edit_purged k = refl

-- the slots
module _ (s : Store) (k t : ℕ) where
  pub edit_committed : InRange s.edits k → edit_at (committed s k t) k ≡ ended (edit_at s k) COMMITTED t
  unfolding committed with_edit with_records
  edit_committed h = edit_same s.edits k (ended (edit_at s k) COMMITTED t) h

  pub edit_committed_other : (j : ℕ) → (j ≡ k → ⊥) → edit_at (committed s k t) j ≡ edit_at s j
  unfolding committed with_edit with_records
  edit_committed_other j h = edit_other s.edits k j (ended (edit_at s k) COMMITTED t) h

module _ (s : Store) (k : ℕ) where
  pub edit_settled : InRange s.edits k → edit_at (settled s k) k ≡ freed (edit_at s k)
  unfolding settled_by with_edit with_records
  edit_settled h = edit_same s.edits k (freed (edit_at s k)) h

  pub edit_settled_other : (j : ℕ) → (j ≡ k → ⊥) → edit_at (settled s k) j ≡ edit_at s j
  unfolding settled_by with_edit with_records
  edit_settled_other j h = edit_other s.edits k j (freed (edit_at s k)) h

  pub edit_aborted : InRange s.edits k → edit_at (aborted s k) k ≡ ended (edit_at s k) ABORTED 0
  unfolding aborted with_edit
  edit_aborted h = edit_same s.edits k (ended (edit_at s k) ABORTED 0) h

  pub edit_aborted_other : (j : ℕ) → (j ≡ k → ⊥) → edit_at (aborted s k) j ≡ edit_at s j
  unfolding aborted with_edit
  edit_aborted_other j h = edit_other s.edits k j (ended (edit_at s k) ABORTED 0) h

-- every record changed by its index and one slot changed, or one record changed: as many as before, and the counts as
-- good
module _ (s : Store) (f : ℕ → Rec → Rec) (k : ℕ) (e : Edit) where
  pub counts_map : good_counts (counts_of s) ≡ true
      → good_counts (counts_of (with_edit (with_records s (map_from 0 f s.records)) k e)) ≡ true
  unfolding with_edit with_records
  counts_map h = rw (length_map_from f 0 s.records, length_set_edit s.edits k e) h

module _ (s : Store) (r : ℕ) (y : Rec) where
  pub counts_purged : good_counts (counts_of s) ≡ true → good_counts (counts_of (with_rec s r y)) ≡ true
  unfolding with_records
  counts_purged h = rw (length-set s.records r y) h
