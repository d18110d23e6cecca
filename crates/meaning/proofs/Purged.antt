-- Purging a record to a version above its floor, with no unsettled lock at or below it, keeps a store sound: every read
-- lock of an edit starts above it, so the version that the edit read stays. Rests on Changed, Kept, StoresMore and
-- Trimmed.
use Prim.Native.Nat.{ℕ, suc, ◌≤◌, ◌<◌}
use native.Mathlib.Omega.{arith}
use native.Mathlib.Decide.{ℕ_discrete}
use mathlib.Core.Path.{◌≡◌, sym, ◌∙◌}
use mathlib.Core.Logic.{◌⊎◌, inl, inr}
use mathlib.Core.List.Memᴰ
use mathlib.Core.List.{List}
use lib.Dec.{leb, ltb}
use lib.ListN.{length, set, length-set}
use borrow.Author.Tests.{leb-true, le-leb}
use Rattle.meaning.specs.Lists.{◌∈◌}
use Rattle.types.specs.Limits.{READ, WRITE, SETTLED, FREE}
use Rattle.meaning.specs.Store.{Version, Lock, Access, Rec, Store, edit_of, rec_of, edit_at, rec_at, with_rec}
use Rattle.meaning.specs.Store.{with_records, accesses_used}
use Rattle.meaning.specs.Records.{purged_rec}
use Rattle.meaning.specs.Sound.{versions_fall}
use Rattle.meaning.specs.Pointwise.{VersionOn}
use Rattle.meaning.specs.SoundFacts.{SoundStore, SoundRec, Backed, Present, ReadStarts, Span}
use Rattle.meaning.proofs.Lists.{keep_in, keep_out, length_keep, pairwise_keep}
use Rattle.meaning.proofs.Stores.{rec_same, rec_other}
use Rattle.meaning.proofs.StoresMore.{each_rec, locks_set, versions_set}
use Rattle.meaning.proofs.Changed.{counts_purged}
use Rattle.meaning.proofs.Kept.{Keeps, edit_kept}
use Rattle.meaning.proofs.Trimmed.{Rest, trim_out, trim_in, trim_length, trim_rises, trim_joined}

module _ (s : Store) (r v : ℕ) (good : SoundStore s) (range : r < length s.records)
    (stands : VersionOn (rec_at s r) v) (above : (rec_at s r).floor < v)
    (free : (l : Lock) → l ∈ (rec_at s r).locks → (l.owner ≡ SETTLED → ⊥) → v < l.low) where
  abbrev x : Rec
  x = rec_at s r

  abbrev y : Rec
  y = purged_rec x v

  abbrev rs' : List Rec
  rs' = set s.records r y

  b : SoundRec s.edits r x
  b = good.recs r

  kept_out : (w : Version) → w ∈ y.versions → (w ∈ x.versions) × (v ≤ w.point)
  unfolding purged_rec
  kept_out w m = let n = keep_out (λ w. leb v w.point) x.versions m in (n.0, leb-true v w.point n.1)

  kept_in : (w : Version) → w ∈ x.versions → v ≤ w.point → w ∈ y.versions
  unfolding purged_rec
  kept_in w m h = keep_in (λ w. leb v w.point) m (le-leb v w.point h)

  kept_on : (p : ℕ) → v ≤ p → VersionOn x p → VersionOn y p
  kept_on p h w = record {
    version = w.version;
    member = kept_in w.version w.member (omega (arith, w.stands));
    stands = w.stands;
  }

  lock_out : (m : Lock) → m ∈ y.locks → (l : Lock) × (l ∈ x.locks) × Rest v l m
  unfolding purged_rec
  lock_out m i = trim_out v x.locks m i

  lock_in : (l : Lock) → l ∈ x.locks → (l.owner ≡ SETTLED → v < l.high) → (m : Lock) × (m ∈ y.locks) × Rest v l m
  unfolding purged_rec
  lock_in l i h = trim_in v x.locks l i h

  spans : (l m : Lock) → l ∈ x.locks → Rest v l m → Span v m
  spans l m i h = go (ℕ_discrete l.owner SETTLED)
    where
      go : Dec (l.owner ≡ SETTLED) → Span v m
      go (yes z) =
          let c = b.span l i in
          record {
            above = (h.settled z).0;
            some = omega (arith, h.high, h.least l.high c.some (h.settled z).1);
            last = omega (arith, h.high, c.last);
          }
      go (no d) =
          let c = b.span l i in
          rw (h.unsettled d) (record { above = free l i d; some = c.some; last = c.last })

  owners : (l m : Lock) → l ∈ x.locks → Rest v l m
      → (m.owner ≡ SETTLED) ⊎ ((edit_of s.edits m.owner).state ≡ FREE → ⊥)
  owners l m i h = rw h.owner (b.owner l i)

  modes : (l m : Lock) → l ∈ x.locks → Rest v l m → (m.mode ≡ READ) ⊎ (m.mode ≡ WRITE)
  modes l m i h = rw h.mode (b.mode l i)

  backs : (w : Version) → w ∈ x.versions → v < w.point → Backed s.edits r w.point y.locks
  backs w i h =
      let k = b.backed w i (omega (arith, above)) in
      let m = lock_in k.lock k.member (λ z. omega (arith, k.upto)) in
      make k m.0 m.1 m.2
    where
      make : (k : Backed s.edits r w.point x.locks) (m : Lock) → m ∈ y.locks → Rest v k.lock m
          → Backed s.edits r w.point y.locks
      make k m j c =
          record {
            lock = m;
            member = j;
            write = c.mode ∙ k.write;
            from = c.least w.point k.from h;
            upto = omega (arith, c.high, k.upto);
            owner = rw c.owner k.owner;
          }

  rec_purged : SoundRec s.edits r y
  unfolding purged_rec versions_fall
  rec_purged =
      record {
        mode = λ m i. let l = lock_out m i in modes l.0 m l.1 l.2;
        falls = pairwise_keep (λ v w. ltb w.point v.point) (λ w. leb v w.point) x.versions b.falls;
        low = λ w m. (kept_out w m).1;
        high = λ w m. b.high w (kept_out w m).0;
        base = λ h. kept_on v (omega arith) stands;
        nonzero = λ w m. b.nonzero w (kept_out w m).0;
        span = λ m i. let l = lock_out m i in spans l.0 m l.1 l.2;
        owner = λ m i. let l = lock_out m i in owners l.0 m l.1 l.2;
        apart = λ l m i j q d p a c a' c'.
            let f = lock_out l i in
            let g = lock_out m j in
            b.apart f.0 g.0 f.1 g.1 (sym f.2.mode ∙ q) (λ z. d (f.2.owner ∙ z ∙ sym g.2.owner)) p
            (omega (arith, f.2.low)) (omega (arith, f.2.high)) (omega (arith, g.2.low))
            (omega (arith, g.2.high));
        backed = λ w m h. backs w (kept_out w m).0 h;
        rises = trim_rises v x.locks free b.rises;
        joined = trim_joined v x.locks b.joined;
      }

  -- an edit with an access is no settled owner: its locks stay, and it read the version v or a later one
  module _ (k : ℕ) where
    unsettled : (a : Access) → a ∈ (edit_at s k).accesses → k ≡ SETTLED → ⊥
    unfolding edit_of
    unsettled a m z = Memᴰ.not-nil (rw z at m)

    lock_kept : (l : Lock) → (k ≡ SETTLED → ⊥) → l.owner ≡ k → l ∈ x.locks → l ∈ y.locks
    lock_kept l d o i =
        let n : l.owner ≡ SETTLED → ⊥ = λ z. d (sym o ∙ z) in
        let m = lock_in l i (λ z. absurd (n z)) in
        rw (m.2.unsettled n) at m.1

    present_kept : (tr : ℕ) → (k ≡ SETTLED → ⊥) → ReadStarts k (suc tr) x.locks → Present x tr → Present y tr
    present_kept tr d w (inl h) =
        inl (kept_on tr (omega (arith, w.starts, free w.lock w.member (λ z. d (sym w.owned ∙ z)))) h)
    present_kept tr d w (inr h) =
        absurd (omega (arith, above, w.starts, free w.lock w.member (λ z. d (sym w.owned ∙ z))))

    keeps : Keeps k (edit_at s k) s.records rs'
    keeps =
        record {
          count = omega (arith, length-set s.records r y);
          lock = λ a i l o m. locks a l (unsettled a i) o m (ℕ_discrete a.rec r);
          version =
              λ a tr i z h. versions a tr (unsettled a i) ((good.edits k).locked a tr i z) h (ℕ_discrete a.rec r);
        }
      where
        locks : (a : Access) (l : Lock) → (k ≡ SETTLED → ⊥) → l.owner ≡ k → l ∈ (rec_at s a.rec).locks
            → Dec (a.rec ≡ r) → l ∈ (rec_of rs' a.rec).locks
        locks a l d o m (yes z) = rw (z, rec_same s.records r y range) (lock_kept l d o (rw z at m))
        locks a l d o m (no z) = rw (rec_other s.records r a.rec y z) m

        versions : (a : Access) (tr : ℕ) → (k ≡ SETTLED → ⊥) → ReadStarts k (suc tr) (rec_at s a.rec).locks
            → Present (rec_at s a.rec) tr → Dec (a.rec ≡ r) → Present (rec_of rs' a.rec) tr
        versions a tr d w h (yes z) =
            rw (z, rec_same s.records r y range) (present_kept tr d (rw z at w) (rw z at h))
        versions a tr d w h (no z) = rw (rec_other s.records r a.rec y z) h

  pub purged_sound : SoundStore (with_rec s r (purged_rec (rec_at s r) v))
  unfolding with_records accesses_used purged_rec
  purged_sound =
      record {
        counts = counts_purged s r y good.counts;
        versions_fit =
            omega
            (arith, good.versions_fit, versions_set s r y range, length_keep (λ w. leb v w.point) x.versions);
        locks_fit = omega (arith, good.locks_fit, locks_set s r y range, trim_length v x.locks);
        accesses_fit = good.accesses_fit;
        recs = each_rec (SoundRec s.edits) s.records r y range rec_purged good.recs;
        edits = λ k. edit_kept k (edit_at s k) s.records rs' (keeps k) (good.edits k);
      }
