-- Commit's loop over the accesses of an edit: it ends with a version for every record written, and there is a free row
-- at each step. Rests on Folds and Besides.
use Prim.Native.Nat.{ℕ, suc, ◌+◌, ◌≤◌, ◌<◌}
use native.Mathlib.Omega.{arith}
use mathlib.Core.Path.{◌≡◌, refl}
use mathlib.Core.Bool.{Bool, true, false, cond}
use mathlib.Core.List.Memᴰ
use mathlib.Core.List.{List, [], ◌∷◌}
use lib.ListN.{length}
use borrow.Author.Tests.{leb-true}
use Rattle.meaning.specs.Lists.{keep, map_from}
use Rattle.types.specs.declared.Access.{Access}
use Rattle.types.specs.declared.Version.{Version}
use Rattle.meaning.specs.Store.{Rec, Store, edit_at, rec_at, with_records, no_access, access_of, written_of}
use Rattle.meaning.specs.Store.{versions_used}
use Rattle.meaning.specs.Outcomes.{version_room}
use Rattle.meaning.specs.Ending.{insert, new_version, committed_rec}
use Rattle.meaning.specs.Sound.{names_once}
use Rattle.meaning.specs.SoundFacts.{SoundStore}
use Rattle.meaning.proofs.Inserted.{length_insert}
use Rattle.meaning.proofs.StoresMore.{versions_set}
use Rattle.types.specs.declared.Counts.{Counts}
use Rattle.tables.specs.Decode.{access_at, decode_at}
use Rattle.tables.specs.Words.{Well}
use Rattle.changes.specs.Becomes.{Beside, on_versions, version_of}
use Rattle.changes.proofs.Besides.{beside_none}
use Rattle.calls.proofs.Acting.{records_counted}
use Rattle.endings.specs.Steps.{changed, along, saved_rec, wrote_of, SaveNeed}
use Rattle.endings.proofs.Folds.{rec_again, along_all, existing_rest}
use Rattle.endings.proofs.Besides.{version_rows_lem}
use Rattle.meaning.specs.Store.{has_written, written_value}

idle : (t r : ℕ) (x : Rec) → saved_rec t (no_access r) x ≡ x
unfolding saved_rec
idle t r x = refl

pub saved_all : (s : Store) (k t : ℕ) → SoundStore s
    → along (saved_rec t) (edit_at s k).accesses s ≡ with_records s
    (map_from 0 (committed_rec (edit_at s k) t) s.records)
unfolding names_once access_of saved_rec
saved_all s k t good =
    along_all (saved_rec t) (idle t) (edit_at s k).accesses s (good.edits k).existing (good.edits k).once

pub save_start : (s : Store) (k : ℕ) → SoundStore s → version_room s k ≡ true → SaveNeed (edit_at s k).accesses s
unfolding version_room
save_start s k good e =
    record {
      existing = (good.edits k).existing;
      room = leb-true (versions_used s + length (written_of (edit_at s k))) s.version_rows e;
    }

module _ (a : Access) (acc : List Access) (s : Store) (n : SaveNeed (a ∷ acc) s) where
  pub save_record : a.rec < length s.records
  save_record = n.existing a (Memᴰ.head refl)

  pub save_free : has_written a ≡ true → versions_used s < s.version_rows
  save_free e = let h = rw e at n.room in omega arith

  -- the access at hand alone
  pub save_one : SaveNeed (a ∷ []) s
  save_one = record { existing = λ b m. rw (Memᴰ.eq_of_singleton m) save_record; room = go (has_written a) n.room }
    where
      go : (b : Bool) → versions_used s + length (cond b (a ∷ keep wrote_of acc) (keep wrote_of acc)) ≤ s.version_rows
          → versions_used s + length (cond b (a ∷ []) []) ≤ s.version_rows
      go true h = omega arith
      go false h = omega arith

  added : (t : ℕ) → versions_used (changed (saved_rec t) a s) + length (rec_at s a.rec).versions
      ≡ versions_used s
      + length (cond (has_written a) (insert (new_version a t) (rec_at s a.rec).versions) (rec_at s a.rec).versions)
  unfolding changed saved_rec
  added t = versions_set s a.rec (saved_rec t a (rec_at s a.rec)) save_record

  pub save_step : (t : ℕ) → SaveNeed acc (changed (saved_rec t) a s)
  unfolding changed with_records
  save_step t =
      record {
        existing = existing_rest (saved_rec t) (idle t) a acc s n.existing;
        room =
            go (has_written a) (insert (new_version a t) (rec_at s a.rec).versions)
            (length_insert (new_version a t) (rec_at s a.rec).versions) (added t) n.room;
      }
    where
      go : (b : Bool) (vs : List Version) → length vs ≡ suc (length (rec_at s a.rec).versions)
          → versions_used (changed (saved_rec t) a s) + length (rec_at s a.rec).versions
          ≡ versions_used s + length (cond b vs (rec_at s a.rec).versions)
          → versions_used s + length (cond b (a ∷ keep wrote_of acc) (keep wrote_of acc)) ≤ s.version_rows
          → versions_used (changed (saved_rec t) a s) + length (keep wrote_of acc) ≤ s.version_rows
      go true vs l e h = omega arith
      go false vs l e h = omega arith

-- what access row i makes of its record: a is its access
module _ (c : Counts) (w : List ℕ) (i : ℕ) (a : Access) (t : ℕ) (W : Well c w)
    (n : SaveNeed (access_at c w i ∷ []) (decode_at c w))
    (ea : a ≡ access_at c w i) where
  need : SaveNeed (a ∷ []) (decode_at c w)
  need = rw ea n

  pub version_needs : 1 ≤ t → has_written a ≡ true
      → Well c w × (a.rec < c.records) × (1 ≤ t) × (versions_used (decode_at c w) < c.versions)
  version_needs p e = (
    W,
    omega (arith, save_record a [] (decode_at c w) need, records_counted c w),
    p,
    omega (arith, save_free a [] (decode_at c w) need e, version_rows_lem c w),
  )

  pub row_saved : has_written a ≡ true → (w' : List ℕ)
      → Beside c w w' (on_versions (decode_at c w) a.rec (insert (version_of t (written_value a))))
      → Beside c w w' (changed (saved_rec t) (access_at c w i) (decode_at c w))
  unfolding changed saved_rec
  row_saved e w' B = rw (← ea, e) B

  pub row_unsaved : has_written a ≡ false → Beside c w w (changed (saved_rec t) (access_at c w i) (decode_at c w))
  unfolding changed saved_rec
  row_unsaved e = rw (← ea, e, rec_again (decode_at c w) a.rec) (beside_none W)
