-- What a change keeps of one record, with what it makes of it, it keeps of the store: a property of record i, which the
-- fresh record has, since a record past the end reads as fresh. Rests on the changes of `meaning`.
use Prim.Native.Nat.{ℕ, ◌<◌}
use native.Mathlib.Omega.{arith}
use native.Mathlib.Decide.{ℕ_discrete, dec_lt}
use mathlib.Core.Path.{◌≡◌, sym}
use lib.ListN.{length, set, length-set}
use Rattle.meaning.specs.Store.{Rec, Store, fresh_rec, edit_at, rec_of, rec_at, with_records, with_rec}
use Rattle.meaning.specs.Ending.{settled_rec, settled, committed_rec, committed}
use Rattle.meaning.proofs.Stores.{rec_same, rec_other, rec_past}
use Rattle.meaning.proofs.Changed.{rec_committed, rec_committed_past, rec_settled, rec_settled_past}

module _ (P : Rec → Type 0) (fresh : P fresh_rec) (i : ℕ) (s : Store) where
  -- record r becomes x
  pub rec_keeps : (r : ℕ) (x : Rec) → (r ≡ i → P x) → P (rec_at s i) → P (rec_at (with_rec s r x) i)
  unfolding with_records
  rec_keeps r x f h = go (ℕ_discrete i r) (dec_lt r (length s.records))
    where
      go : Dec (i ≡ r) → Dec (r < length s.records) → P (rec_of (set s.records r x) i)
      go (no n) d = rw (rec_other s.records r i x n) h
      go (yes q) (yes l) = rw (q, rec_same s.records r x l) (f (sym q))
      go (yes q) (no l) =
          rw (q, rec_past (set s.records r x) r (omega (arith, length-set s.records r x))) fresh

  pub settled_keeps : (k : ℕ) → P (settled_rec k (edit_at s k) i (rec_at s i)) → P (rec_at (settled s k) i)
  settled_keeps k h = go (dec_lt i (length s.records))
    where
      go : Dec (i < length s.records) → P (rec_at (settled s k) i)
      go (yes l) = rw (rec_settled s k i l) h
      go (no l) = rw (rec_settled_past s k i (omega arith)) fresh

  pub committed_keeps : (k t : ℕ) → P (committed_rec (edit_at s k) t i (rec_at s i)) → P (rec_at (committed s k t) i)
  committed_keeps k t h = go (dec_lt i (length s.records))
    where
      go : Dec (i < length s.records) → P (rec_at (committed s k t) i)
      go (yes l) = rw (rec_committed s k t i l) h
      go (no l) = rw (rec_committed_past s k t i (omega arith)) fresh
