-- A store is sound exactly if the facts of SoundFacts hold, and the fresh store is sound. Rests on RecParts and
-- EditParts.
use Prim.Native.Nat.{ℕ, zero, suc, ◌+◌, ◌<◌}
use native.Mathlib.Omega.{arith}
use native.Mathlib.Decide.{dec_lt}
use mathlib.Core.Path.{◌≡◌, refl}
use mathlib.Core.Bool.{Bool, true}
use mathlib.Core.List.Memᴰ
use mathlib.Core.List.{List, [], ◌∷◌}
use lib.Dec.{leb}
use lib.ListN.{length, get_or, replicate, length-replicate}
use borrow.Author.Tests.{leb-true, le-leb}
use Rattle.meaning.specs.Lists.{total, all_from}
use Rattle.meaning.specs.Store.{Counts, Rec, Edit, Store, fresh_rec, fresh_edit, fresh, counts_of, edit_of, rec_of}
use Rattle.meaning.specs.Store.{versions_used, locks_used, accesses_used}
use Rattle.meaning.specs.Records.{good_counts}
use Rattle.meaning.specs.Sound.{rows_fit, sound_rec, sound_edit, sound_store, versions_fall, names_once}
use Rattle.meaning.specs.SoundFacts.{SoundRec, SoundEdit, SoundStore}
use Rattle.meaning.specs.Laws.{SoundIsFacts, FreshIsSound}
use Rattle.meaning.proofs.Lists.{every_at, get_d_past, all_from_in, all_from_out}
use Rattle.meaning.proofs.Stores.{rec_past}
use Rattle.meaning.proofs.RecParts.{◌also◌, rec_out, rec_in}
use Rattle.meaning.proofs.EditParts.{edit_out, edit_in}

-- a fresh record and a fresh edit are sound, wherever they stand
pub fresh_rec_lem : (es : List Edit) (r : ℕ) → SoundRec es r fresh_rec
unfolding versions_fall
fresh_rec_lem es r =
    record {
      mode = λ l m. absurd (Memᴰ.not-nil m);
      falls = refl;
      low = λ v m. absurd (Memᴰ.not-nil m);
      high = λ v m. absurd (Memᴰ.not-nil m);
      base = λ h. absurd (omega arith);
      nonzero = λ v m. absurd (Memᴰ.not-nil m);
      span = λ l m. absurd (Memᴰ.not-nil m);
      owner = λ l m. absurd (Memᴰ.not-nil m);
      apart = λ l m i. absurd (Memᴰ.not-nil i);
      backed = λ v m. absurd (Memᴰ.not-nil m);
      rises = refl;
      joined = refl;
    }

pub fresh_edit_lem : (rs : List Rec) (k : ℕ) → SoundEdit rs k fresh_edit
unfolding names_once
fresh_edit_lem rs k =
    record {
      state = omega arith;
      generation = omega arith;
      point = λ o. refl;
      existing = λ a m. absurd (Memᴰ.not-nil m);
      once = refl;
      present = λ a tr m. absurd (Memᴰ.not-nil m);
      locked = λ a tr m. absurd (Memᴰ.not-nil m);
      common = λ c. absurd (omega arith);
      idle = λ c. refl;
    }

-- the tests of a store, in the order of sound_store; those of its rows
abbrev pub row_tests : Store → List Bool
row_tests s =
    leb (versions_used s) s.version_rows ∷ leb (locks_used s) s.lock_rows ∷ leb (accesses_used s) s.access_rows ∷ []

abbrev pub store_tests : Store → List Bool
store_tests s =
    good_counts (counts_of s)
    ∷ rows_fit s
    ∷ all_from 0 (sound_rec s.edits) s.records
    ∷ all_from 1 (sound_edit s.records) s.edits
    ∷ []

module _ (s : Store) where
  pub sound_out : sound_store s ≡ true → SoundStore s
  unfolding sound_store rows_fit rec_of edit_of
  sound_out h =
      record {
        counts = tests 0;
        versions_fit = leb-true (versions_used s) s.version_rows (rows 0);
        locks_fit = leb-true (locks_used s) s.lock_rows (rows 1);
        accesses_fit = leb-true (accesses_used s) s.access_rows (rows 2);
        recs = λ r. recs r (dec_lt r (length s.records));
        edits = edits;
      }
    where
      tests : (i : ℕ) → get_or (store_tests s) i true ≡ true
      tests i = every_at (store_tests s) h i

      rows : (i : ℕ) → get_or (row_tests s) i true ≡ true
      rows i = every_at (row_tests s) (tests 1) i

      recs : (r : ℕ) → Dec (r < length s.records) → SoundRec s.edits r (rec_of s.records r)
      recs r (yes q) =
          let z : 0 + r ≡ r = omega arith in
          rec_out s.edits r (rec_of s.records r)
          (rw z at (all_from_out (sound_rec s.edits) 0 s.records fresh_rec (tests 2) r q))
      recs r (no q) = rw (rec_past s.records r (omega arith)) (fresh_rec_lem s.edits r)

      slot : (i : ℕ) → Dec (i < length s.edits) → SoundEdit s.records (suc i) (get_or s.edits i fresh_edit)
      slot i (yes q) =
          let z : 1 + i ≡ suc i = omega arith in
          edit_out s.records (suc i) (get_or s.edits i fresh_edit)
          (rw z at (all_from_out (sound_edit s.records) 1 s.edits fresh_edit (tests 3) i q))
      slot i (no q) = rw (get_d_past s.edits i fresh_edit (omega arith)) (fresh_edit_lem s.records (suc i))

      edits : (k : ℕ) → SoundEdit s.records k (edit_of s.edits k)
      edits zero = fresh_edit_lem s.records 0
      edits (suc i) = slot i (dec_lt i (length s.edits))

  pub sound_in : SoundStore s → sound_store s ≡ true
  unfolding sound_store rows_fit rec_of edit_of
  sound_in f =
      f.counts
      also (le-leb (versions_used s) s.version_rows f.versions_fit
      also le-leb (locks_used s) s.lock_rows f.locks_fit
      also le-leb (accesses_used s) s.access_rows f.accesses_fit
      also refl)
      also all_from_in (sound_rec s.edits) 0 s.records fresh_rec (λ r h. recs r)
      also all_from_in (sound_edit s.records) 1 s.edits fresh_edit (λ i h. slots i)
      also refl
    where
      recs : (r : ℕ) → sound_rec s.edits (0 + r) (get_or s.records r fresh_rec) ≡ true
      recs r = let z : 0 + r ≡ r = omega arith in rw z (rec_in s.edits r (rec_of s.records r) (f.recs r))

      slots : (i : ℕ) → sound_edit s.records (1 + i) (get_or s.edits i fresh_edit) ≡ true
      slots i =
          let z : 1 + i ≡ suc i = omega arith in
          rw z (edit_in s.records (suc i) (get_or s.edits i fresh_edit) (f.edits (suc i)))

-- the fresh store
pub get_d_replicate : {A : Type 0} (n i : ℕ) (x : A) → get_or (replicate n x) i x ≡ x
get_d_replicate zero i x = refl
get_d_replicate (suc n) zero x = refl
get_d_replicate (suc n) (suc i) x = get_d_replicate n i x

pub total_replicate : {A : Type 0} (m : A → ℕ) (n : ℕ) (x : A) → m x ≡ 0 → total m (replicate n x) ≡ 0
total_replicate m zero x h = refl
total_replicate m (suc n) x h = omega (arith, total_replicate m n x h)

pub fresh_store : (c : Counts) → good_counts c ≡ true → SoundStore (fresh c)
unfolding versions_used locks_used accesses_used rec_of edit_of
fresh_store c g =
    record {
      counts = rw (length-replicate c.records fresh_rec, length-replicate c.edits fresh_edit) g;
      versions_fit = omega (arith, total_replicate (λ x. length x.versions) c.records fresh_rec refl);
      locks_fit = omega (arith, total_replicate (λ x. length x.locks) c.records fresh_rec refl);
      accesses_fit = omega (arith, total_replicate (λ e. length e.accesses) c.edits fresh_edit refl);
      recs = λ r. rw (get_d_replicate c.records r fresh_rec) (fresh_rec_lem (fresh c).edits r);
      edits = edits;
    }
  where
    edits : (k : ℕ) → SoundEdit (fresh c).records k (edit_of (fresh c).edits k)
    edits zero = fresh_edit_lem (fresh c).records 0
    edits (suc i) = rw (get_d_replicate c.edits i fresh_edit) (fresh_edit_lem (fresh c).records (suc i))

pub sound_is_facts : SoundIsFacts
sound_is_facts s = (sound_out s, sound_in s)

pub fresh_is_sound : FreshIsSound
fresh_is_sound c g = sound_in (fresh c) (fresh_store c g)
