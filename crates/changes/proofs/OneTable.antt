-- What a change of one table leaves alone, and what it makes of the store: `but_versions`, `but_locks`, `but_accesses`
-- are the frames of every mutator; `versions_become` and its like are what a mutator shows to be done. Rests on Apart
-- and Parts.
use Prim.Native.Nat.{ℕ, ◌≤◌, ◌<◌}
use mathlib.Core.Path.{◌≡◌, refl, sym, ap, ◌∙◌}
use mathlib.Core.Bool.{true}
use mathlib.Core.List.{List}
use native.Mathlib.Omega.{arith}
use Rattle.chains.specs.Lists.{all_of}
use Rattle.chains.specs.Walk.{IsRow}
use Rattle.chains.specs.Table.{field}
use Rattle.chains.specs.Partition.{partition}
use Rattle.chains.proofs.Frames.{OnlyTable, apart_kept}
use Rattle.meaning.specs.Store.{with_rec, with_edit, with_locks, rec_at, edit_at}
use Rattle.types.specs.declared.Version.{Version}
use Rattle.types.specs.declared.Lock.{Lock}
use Rattle.types.specs.declared.Access.{Access}
use Rattle.types.specs.declared.Counts.{Counts}
use Rattle.tables.specs.Layout.{lock_table, lock_heads, version_table, version_heads, access_table}
use Rattle.tables.specs.Layout.{access_heads, Fits, S_STATE, S_GENERATION, S_POINT}
use Rattle.tables.specs.Decode.{lock_rows, access_rows, versions_of, locks_of, accesses_of, floor_of, record_at}
use Rattle.tables.specs.Decode.{slot_at}
use Rattle.tables.specs.Decode.{decode_at}
use Rattle.tables.specs.Words.{Well, names_record, marked}
use Rattle.tables.proofs.Places.{fits_same}
use Rattle.tables.proofs.Decoded.{rec_at_lem, edit_at_lem}
use Rattle.changes.specs.Becomes.{Becomes, with_versions, with_accesses}
use Rattle.changes.proofs.Apart
use Rattle.changes.proofs.Parts

pub record ButVersions (c : Counts) (w w' : List ℕ) : Type 0 where
  pub fits : Fits c w'
  pub locks : Parts.LocksSame c w w'
  pub accesses : Parts.AccessesSame c w w'
  pub floors : Parts.FloorsSame c w w'
  pub slots : Parts.SlotsSame c w w'

pub record ButLocks (c : Counts) (w w' : List ℕ) : Type 0 where
  pub fits : Fits c w'
  pub versions : Parts.VersionsSame c w w'
  pub accesses : Parts.AccessesSame c w w'
  pub floors : Parts.FloorsSame c w w'
  pub slots : Parts.SlotsSame c w w'

pub record ButAccesses (c : Counts) (w w' : List ℕ) : Type 0 where
  pub fits : Fits c w'
  pub versions : Parts.VersionsSame c w w'
  pub locks : Parts.LocksSame c w w'
  pub floors : Parts.FloorsSame c w w'
  pub slots : Parts.SlotsSame c w w'

-- the counts are as before
pub versions_fit : {c : Counts} {w w' : List ℕ} → Fits c w → OnlyTable (version_table c) (version_heads c) w w'
    → Fits c w'
versions_fit {c} f o = fits_same f o.size (λ p q. Apart.off_same (Apart.count_versions c p q) o)

pub locks_fit : {c : Counts} {w w' : List ℕ} → Fits c w → OnlyTable (lock_table c) (lock_heads c) w w' → Fits c w'
locks_fit {c} f o = fits_same f o.size (λ p q. Apart.off_same (Apart.count_locks c p q) o)

pub accesses_fit : {c : Counts} {w w' : List ℕ} → Fits c w → OnlyTable (access_table c) (access_heads c) w w'
    → Fits c w'
accesses_fit {c} f o = fits_same f o.size (λ p q. Apart.off_same (Apart.count_accesses c p q) o)

module _ {c : Counts} {w w' : List ℕ} (W : Well c w) where
  pub but_versions : OnlyTable (version_table c) (version_heads c) w w' → ButVersions c w w'
  unfolding floor_of field
  but_versions o = record {
    fits = versions_fit W.fits o;
    locks = Parts.locks_same W (apart_kept (Apart.versions_locks c) o);
    accesses = Parts.accesses_same W (apart_kept (Apart.versions_accesses c) o);
    floors = λ r l. Apart.off_same (Apart.floor_versions c r l) o;
    slots = λ k u q l n. Apart.off_same (Apart.slot_versions c k u q l) o;
  }

  pub but_locks : OnlyTable (lock_table c) (lock_heads c) w w' → ButLocks c w w'
  unfolding floor_of field
  but_locks o = record {
    fits = locks_fit W.fits o;
    versions = Parts.versions_same W (apart_kept (Apart.locks_versions c) o);
    accesses = Parts.accesses_same W (apart_kept (Apart.locks_accesses c) o);
    floors = λ r l. Apart.off_same (Apart.floor_locks c r l) o;
    slots = λ k u q l n. Apart.off_same (Apart.slot_locks c k u q l) o;
  }

  pub but_accesses : OnlyTable (access_table c) (access_heads c) w w' → ButAccesses c w w'
  unfolding floor_of field
  but_accesses o = record {
    fits = accesses_fit W.fits o;
    versions = Parts.versions_same W (apart_kept (Apart.accesses_versions c) o);
    locks = Parts.locks_same W (apart_kept (Apart.accesses_locks c) o);
    floors = λ r l. Apart.off_same (Apart.floor_accesses c r l) o;
    slots = λ k u q l n. Apart.off_same (Apart.slot_accesses c k u q l n) o;
  }

-- Record r's versions have become vs, its locks ls; slot k's accesses as'
module _ {c : Counts} {w w' : List ℕ} (W : Well c w) where
  pub versions_become : OnlyTable (version_table c) (version_heads c) w w' → (r : ℕ) → r < c.records
      → {vs : List Version} → partition (version_table c) (version_heads c) w' ≡ true
      → ((j : ℕ) → j < c.records → (j ≡ r → ⊥) → versions_of c w' j ≡ versions_of c w j) → versions_of c w' r ≡ vs
      → Becomes c w' (with_rec (decode_at c w) r (with_versions (rec_at (decode_at c w) r) vs))
  unfolding record_at
  versions_become o r l {vs} p others here =
      let B = but_versions W o in
      let e : record_at c w' r ≡ with_versions (record_at c w r) vs =
      rw (here, B.locks.entries r l, B.floors r l) refl in
      record {
        well = record {
          fits = B.fits;
          versions_parted_lem = p;
          locks_parted_lem = B.locks.parted;
          accesses_parted_lem = B.accesses.parted;
          named = B.locks.named;
          marks = B.accesses.marks;
        };
        means =
            Parts.record_decoded c w w' r l
            (λ j q n. Parts.record_same c w w' j (others j q n) (B.locks.entries j q) (B.floors j q))
            (Parts.edits_same c w w' B.accesses B.slots)
            ∙ ap (with_rec (decode_at c w) r) (e ∙ ap (λ x. with_versions x vs) (sym (rec_at_lem c w r l)));
      }

  pub locks_become : OnlyTable (lock_table c) (lock_heads c) w w' → (r : ℕ) → r < c.records → {ls : List Lock}
      → partition (lock_table c) (lock_heads c) w' ≡ true
      → ((j : ℕ) → j < c.records → all_of (names_record c w' j) (lock_rows c w' j) ≡ true)
      → ((j : ℕ) → j < c.records → (j ≡ r → ⊥) → locks_of c w' j ≡ locks_of c w j) → locks_of c w' r ≡ ls
      → Becomes c w' (with_rec (decode_at c w) r (with_locks (rec_at (decode_at c w) r) ls))
  unfolding record_at
  locks_become o r l {ls} p named others here =
      let B = but_locks W o in
      let e : record_at c w' r ≡ with_locks (record_at c w r) ls =
      rw (here, B.versions.entries r l, B.floors r l) refl in
      record {
        well = record {
          fits = B.fits;
          versions_parted_lem = B.versions.parted;
          locks_parted_lem = p;
          accesses_parted_lem = B.accesses.parted;
          named = named;
          marks = B.accesses.marks;
        };
        means =
            Parts.record_decoded c w w' r l
            (λ j q n. Parts.record_same c w w' j (B.versions.entries j q) (others j q n) (B.floors j q))
            (Parts.edits_same c w w' B.accesses B.slots)
            ∙ ap (with_rec (decode_at c w) r) (e ∙ ap (λ x. with_locks x ls) (sym (rec_at_lem c w r l)));
      }

  pub accesses_become : OnlyTable (access_table c) (access_heads c) w w' → (k : ℕ) → IsRow c.edits k
      → {as' : List Access} → partition (access_table c) (access_heads c) w' ≡ true
      → ((j : ℕ) → 1 ≤ j → j ≤ c.edits → all_of (marked c w') (access_rows c w' j) ≡ true)
      → ((j : ℕ) → IsRow c.edits j → (j ≡ k → ⊥) → accesses_of c w' j ≡ accesses_of c w j) → accesses_of c w' k ≡ as'
      → Becomes c w' (with_edit (decode_at c w) k (with_accesses (edit_at (decode_at c w) k) as'))
  unfolding slot_at
  accesses_become o k l {as'} p marks others here =
      let B = but_accesses W o in
      let e : slot_at c w' k ≡ with_accesses (slot_at c w k) as' =
      rw (
        here,
        B.slots k S_STATE l (omega arith) (λ z. omega arith),
        B.slots k S_GENERATION l (omega arith) (λ z. omega arith),
        B.slots k S_POINT l (omega arith) (λ z. omega arith),
      ) refl in
      record {
        well = record {
          fits = B.fits;
          versions_parted_lem = B.versions.parted;
          locks_parted_lem = B.locks.parted;
          accesses_parted_lem = p;
          named = B.locks.named;
          marks = marks;
        };
        means =
            Parts.slot_decoded c w w' k l (λ j q n. Parts.slot_same c w w' j q (others j q n) (λ o. B.slots j o q))
            (Parts.records_same c w w' B.versions B.locks B.floors)
            ∙ ap (with_edit (decode_at c w) k) (e ∙ ap (λ x. with_accesses x as') (sym (edit_at_lem c w k l)));
      }
