-- The floor of a record stays at or below p as long as the record is purged to no version above p. Rests on EachRecord
-- and EveryCall.
use Prim.Native.Nat.{ℕ, suc, ◌≤◌}
use native.Mathlib.Omega.{arith}
use mathlib.Core.Path.{◌≡◌, sym, ap, subst}
use Rattle.types.specs.declared.Counts.{Counts}
use Rattle.types.specs.declared.Version.{Version}
use Rattle.meaning.specs.Store.{Rec, Store, fresh, fresh_rec, rec_of, rec_at, with_edit}
use Rattle.meaning.specs.Store.{newest_at}
use Rattle.meaning.specs.Locking.{with_lock_by}
use Rattle.meaning.specs.Records.{purged_rec}
use Rattle.meaning.specs.Pointwise.{NewestIs, none, one}
use Rattle.meaning.proofs.Newest.{newest_at_is}
use Rattle.meaning.proofs.SoundParts.{get_d_replicate}
use Rattle.history.proofs.CallRuns.{Good, good_facts}
use Rattle.history.proofs.EachRecord.{rec_keeps, settled_keeps, committed_keeps}
use Rattle.history.proofs.EveryCall.{Kept}

-- the version to which a record is purged is not above the point given
pub newest_bound : (s : Store) → Good s → (r b : ℕ) → (newest_at (rec_at s r).versions b).point ≤ b
newest_bound s good r b = go (newest_at_is (rec_at s r) b ((good_facts good).recs r).falls)
  where
    go : {v : Version} → NewestIs (rec_at s r).versions (suc b) v → v.point ≤ b
    go (none z g) = omega (arith, ap (λ (w : Version). w.point) z)
    go (one m h g) = omega arith

module _ (r p : ℕ) where
  abbrev low_floor : Rec → Type 0
  low_floor x = x.floor ≤ p

  abbrev pub Low : Store → Type 0
  Low s = low_floor (rec_at s r)

  -- a purge of another record, or to a version at or below p
  abbrev pub ToLow : ℕ → ℕ → Type 0
  ToLow i v = i ≡ r → v ≤ p

  fresh_floor : low_floor fresh_rec
  fresh_floor = omega arith

  pub fresh_low : (c : Counts) → Low (fresh c)
  unfolding rec_of
  fresh_low c = rw (get_d_replicate c.records r fresh_rec) fresh_floor

  pub low_kept : Kept Low ToLow
  unfolding with_edit with_lock_by purged_rec
  low_kept =
      record {
        edit = λ s k e h. h;
        lock = λ s i mode k low high h.
            rec_keeps low_floor fresh_floor r s i _ (λ q. subst (λ (j : ℕ). (rec_at s j).floor ≤ p) (sym q) h) h;
        commits = λ s k t h. committed_keeps low_floor fresh_floor r s k t h;
        settles = λ s k h. settled_keeps low_floor fresh_floor r s k h;
        purges = λ s i v may h. rec_keeps low_floor fresh_floor r s i (purged_rec (rec_at s i) v) may h;
      }
