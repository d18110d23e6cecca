-- Every call keeps a store in which each version has a value, since only Commit makes versions, of the values written;
-- and it keeps the number of records. Rests on StoreSlots, EachRecord and EveryCall.
use Rattle.std.specs.Prelude.{Some}
use Prim.Native.Nat.{ℕ}
use mathlib.Core.Path.{◌≡◌, ap, ◌∙◌}
use mathlib.Core.Logic.{◌⊎◌, inl, inr}
use mathlib.Core.Bool.{Bool, true, false, cond}
use mathlib.Core.List.Memᴰ
use lib.Dec.{leb}
use lib.ListN.{length, length-set}
use Rattle.meaning.specs.Lists.{◌∈◌}
use Rattle.meaning.specs.Store.{Rec, Store, fresh, fresh_rec, edit_at, rec_of, rec_at, with_edit, with_records}
use Rattle.meaning.specs.Store.{with_rec}
use Rattle.types.specs.Values.{Val}
use Rattle.meaning.specs.Store.{with_locks, access_of}
use Rattle.meaning.specs.Points.{add_lock}
use Rattle.meaning.specs.Locking.{with_lock, with_lock_by}
use Rattle.meaning.specs.Ending.{settled_rec, settled, settled_by, insert, new_version, committed_rec, committed}
use Rattle.meaning.specs.Records.{purged_rec}
use Rattle.types.specs.declared.Counts.{Counts}
use Rattle.types.specs.declared.Version.{Version}
use Rattle.meaning.proofs.Lists.{keep_out, length_map_from}
use Rattle.meaning.proofs.Inserted.{insert_out}
use Rattle.meaning.proofs.SoundParts.{get_d_replicate}
use Rattle.history.proofs.StoreSlots.{Valued}
use Rattle.history.proofs.EachRecord.{rec_keeps, settled_keeps, committed_keeps}
use Rattle.history.proofs.EveryCall.{Kept, Always}
use Rattle.meaning.specs.Store.{has_written, written_value}

-- every version of the record has a value
abbrev Of : Rec → Type 0
Of x = (w : Version) → w ∈ x.versions → (v : Val) × (w.value ≡ Some v)

of_fresh : Of fresh_rec
of_fresh w m = absurd (Memᴰ.not-nil m)

pub fresh_valued : (c : Counts) → Valued (fresh c)
unfolding rec_of
fresh_valued c r = rw (get_d_replicate c.records r fresh_rec) of_fresh

module _ (s : Store) (h : Valued s) where
  rec_valued : (r : ℕ) (x : Rec) → Of x → Valued (with_rec s r x)
  rec_valued r x f i = rec_keeps Of of_fresh i s r x (λ q. f) (h i)

  lock_valued : (r mode k low high : ℕ) → Valued (with_lock s r mode k low high)
  unfolding with_lock_by
  lock_valued r mode k low high =
      rec_valued r
      (with_locks (rec_at s r) (add_lock (record { low = low; high = high; mode = mode; owner = k })
      (rec_at s r).locks))
      (h r)

  purged_valued : (r v : ℕ) → Valued (with_rec s r (purged_rec (rec_at s r) v))
  unfolding purged_rec
  purged_valued r v =
      rec_valued r (purged_rec (rec_at s r) v)
      (λ w m. h r w (keep_out (λ u. leb v u.point) (rec_at s r).versions m).0)

  settled_valued : (k : ℕ) → Valued (settled s k)
  settled_valued k r = settled_keeps Of of_fresh r s k (h r)

  pub committed_valued : (k t : ℕ) → Valued (committed s k t)
  committed_valued k t r = committed_keeps Of of_fresh r s k t (both (has_written (access_of (edit_at s k) r)))
    where
      new : (w : Version) → (w ≡ new_version (access_of (edit_at s k) r) t) ⊎ (w ∈ (rec_at s r).versions)
          → (v : Val) × (w.value ≡ Some v)
      new w (inl q) = (written_value (access_of (edit_at s k) r), ap (λ (u : Version). u.value) q)
      new w (inr m) = h r w m

      both : (b : Bool) (w : Version)
          → w ∈ cond b (insert (new_version (access_of (edit_at s k) r) t) (rec_at s r).versions) (rec_at s r).versions
          → (v : Val) × (w.value ≡ Some v)
      both true w m = new w (insert_out (new_version (access_of (edit_at s k) r) t) (rec_at s r).versions m)
      both false w m = h r w m

pub valued_kept : Kept Valued Always
unfolding with_edit
valued_kept =
    record {
      edit = λ s k e h. h;
      lock = λ s r mode k low high h. lock_valued s h r mode k low high;
      commits = λ s k t h. committed_valued s h k t;
      settles = λ s k h. settled_valued s h k;
      purges = λ s r v may h. purged_valued s h r v;
    }

-- as many records as n
abbrev pub Records : ℕ → Store → Type 0
Records n s = length s.records ≡ n

pub records_kept : (n : ℕ) → Kept (Records n) Always
unfolding with_edit with_records with_lock_by committed settled_by
records_kept n =
    record {
      edit = λ s k e h. h;
      lock = λ s r mode k low high h. length-set s.records r _ ∙ h;
      commits = λ s k t h. length_map_from (committed_rec (edit_at s k) t) 0 s.records ∙ h;
      settles = λ s k h. length_map_from (settled_rec k (edit_at s k)) 0 s.records ∙ h;
      purges = λ s r v may h. length-set s.records r _ ∙ h;
    }
