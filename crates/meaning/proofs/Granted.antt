-- What Lock and Read take of a sound record is a lock that fits, and the version read is present; the slot that Begin
-- finds is free. Rests on Points, Newest and LockAdded.
use Prim.Native.Nat.{ℕ, suc, ◌+◌, ◌≤◌, ◌<◌}
use native.Mathlib.Omega.{arith}
use native.Mathlib.Decide.{dec_lt}
use native.Mathlib.Nat.{le_refl}
use mathlib.Core.Path.{◌≡◌, refl, ap}
use mathlib.Core.Logic.{◌⊎◌, inl, inr}
use mathlib.Core.Bool.{true, false}
use mathlib.Core.List.{List, [], ◌∷◌}
use lib.Dec.{eqb}
use lib.ListN.{length, get_or}
use borrow.Author.Tests.{eqb-true}
use Rattle.meaning.specs.Lists.{◌∈◌}
use Rattle.types.specs.Limits.{LAST, READ, WRITE, FREE}
use Rattle.meaning.specs.Store.{Version, Rec, Edit, fresh_edit, edit_of, newest_below}
use Rattle.meaning.specs.Edits.{free_from}
use Rattle.meaning.specs.Locking.{lock_from, lock_end, lock_granted, read_granted, grant_end}
use Rattle.meaning.specs.Pointwise.{Proper, NoneBlocked, LockTakes, ReadTakes, NewestIs, none, one}
use Rattle.meaning.specs.SoundFacts.{SoundRec, Present}
use Rattle.types.specs.declared.Extent.{Extent}
use Rattle.types.specs.declared.Extent.TheVariants.{All, Part}
use Rattle.meaning.proofs.Lists.{test}
use Rattle.meaning.proofs.Stores.{InRange}
use Rattle.meaning.proofs.Points.{lock_takes_run, read_takes_run}
use Rattle.meaning.proofs.Newest.{newest_below_is}
use Rattle.meaning.proofs.LockAdded.{LockFits}

-- points from..end of low..high, none of them blocked
pub record Taken (mode k : ℕ) (x : Rec) (low high from end : ℕ) : Type 0 where
  pub starts : low ≤ from
  pub some : from ≤ end
  pub upto : end ≤ high
  pub free : NoneBlocked mode k x from end

pub lock_taken : (w : Extent) (k : ℕ) (x : Rec) (low high from end : ℕ) → low ≤ high → LockTakes w k x low high from end
    → Taken WRITE k x low high from end
lock_taken All k x low high from end h t =
    record {
      starts = omega (arith, t.0);
      some = omega (arith, t.0, t.1);
      upto = omega (arith, t.1);
      free = λ q a b. t.2 q (omega (arith, t.0)) (omega (arith, t.1));
    }
lock_taken Part k x low high from end h t =
    record { starts = t.starts; some = t.taken.some; upto = t.taken.upto; free = t.taken.free }

pub read_taken_lem : (w : Extent) (k : ℕ) (x : Rec) (low high end : ℕ) → low ≤ high → ReadTakes w k x low high end
    → Taken READ k x low high low end
read_taken_lem All k x low high end h t =
    record {
      starts = le_refl low;
      some = omega (arith, t.0);
      upto = omega (arith, t.0);
      free = λ q a b. t.1 q a (omega (arith, t.0));
    }
read_taken_lem Part k x low high end h t = record { starts = le_refl low; some = t.some; upto = t.upto; free = t.free }

module _ (es : List Edit) (r : ℕ) (x : Rec) (h : SoundRec es r x) (k : ℕ) (used : (edit_of es k).state ≡ FREE → ⊥)
    (low high : ℕ)
    (above : x.floor < low) (order : low ≤ high) (last : high ≤ LAST) where
  proper : Proper x
  proper l m = (h.span l m).some

  taken_fits : (mode from end : ℕ) → (mode ≡ READ) ⊎ (mode ≡ WRITE) → Taken mode k x low high from end
      → LockFits es x (record { low = from; high = end; mode = mode; owner = k })
  taken_fits mode from end m t =
      record {
        mode = m;
        span = record { above = omega (arith, above, t.starts); some = t.some; last = omega (arith, last, t.upto) };
        used = used;
        free = t.free;
      }

  pub lock_fits : (w : Extent) → lock_granted w k x low high ≡ true
      → LockFits es x (record {
        low = lock_from w k x low high;
        high = lock_end w k x low high;
        mode = WRITE;
        owner = k;
      })
  lock_fits w g =
      taken_fits WRITE (lock_from w k x low high) (lock_end w k x low high) (inr refl)
      (lock_taken w k x low high (lock_from w k x low high) (lock_end w k x low high) order
      ((lock_takes_run w k x low high proper order).0 g))

  pub read_fits : (w : Extent) → read_granted w k x low high ≡ true
      → LockFits es x (record { low = low; high = grant_end w READ k x low high; mode = READ; owner = k })
  read_fits w g =
      taken_fits READ low (grant_end w READ k x low high) (inl refl)
      (read_taken_lem w k x low high (grant_end w READ k x low high) order
      ((read_takes_run w k x low high proper order).0 g))

-- the version read: at or above the floor, below m, present or the never written state under floor 0
pub record ReadAt (x : Rec) (m tr : ℕ) : Type 0 where
  pub above : x.floor ≤ tr
  pub below : tr < m
  pub present : Present x tr

pub read_at_lem : (es : List Edit) (r : ℕ) (x : Rec) → SoundRec es r x → (m : ℕ) → x.floor < m
    → ReadAt x m (newest_below x.versions m).point
read_at_lem es r x h m low = go (newest_below_is x m h.falls)
  where
    ground : ((w : Version) → w ∈ x.versions → m ≤ w.point) → Dec (0 < x.floor) → x.floor ≡ 0
    ground f (yes q) = let b = h.base q in absurd (omega (arith, low, b.stands, f b.version b.member))
    ground f (no q) = omega arith

    go : NewestIs x.versions m (newest_below x.versions m) → ReadAt x m (newest_below x.versions m).point
    go (none e f) =
        let z : (newest_below x.versions m).point ≡ 0 = ap (λ (v : Version). v.point) e in
        let g = ground f (dec_lt 0 x.floor) in
        record { above = omega arith; below = omega arith; present = inr (z, g) }
    go (one i b f) =
        record {
          above = h.low (newest_below x.versions m) i;
          below = b;
          present = inl (record { version = newest_below x.versions m; member = i; stands = refl });
        }

-- the free slot that is found is a slot of the store, and free
pub record FreeAt (es : List Edit) (k : ℕ) : Type 0 where
  pub range : InRange es k
  pub free : (edit_of es k).state ≡ FREE

found_free : (j : ℕ) (es : List Edit) → free_from (suc j) es ≤ j + length es
    → (i : ℕ) × (free_from (suc j) es ≡ suc (j + i)) × (i < length es) × ((get_or es i fresh_edit).state ≡ FREE)
found_free j [] h = absurd (omega arith)
found_free j (e ∷ es) h = go (test (eqb e.state FREE)) (found_free (suc j) es)
  where
    later : eqb e.state FREE ≡ false
        → (i : ℕ) × (free_from (suc (suc j)) es ≡ suc (suc j + i)) × (i < length es)
        × ((get_or es i fresh_edit).state ≡ FREE)
        → (i : ℕ) × (free_from (suc j) (e ∷ es) ≡ suc (j + i)) × (i < suc (length es))
        × ((get_or (e ∷ es) i fresh_edit).state ≡ FREE)
    later q w =
        let z : free_from (suc (suc j)) es ≡ suc (j + suc w.0) = omega (arith, w.1) in
        (suc w.0, rw q z, omega (arith, w.2), w.3)

    go : (eqb e.state FREE ≡ true) ⊎ (eqb e.state FREE ≡ false)
        → (free_from (suc (suc j)) es ≤ suc j + length es
        → (i : ℕ) × (free_from (suc (suc j)) es ≡ suc (suc j + i)) × (i < length es)
        × ((get_or es i fresh_edit).state ≡ FREE))
        → (i : ℕ) × (free_from (suc j) (e ∷ es) ≡ suc (j + i)) × (i < suc (length es))
        × ((get_or (e ∷ es) i fresh_edit).state ≡ FREE)
    go (inl q) ih = (0, rw q (omega arith), omega arith, eqb-true e.state FREE q)
    go (inr q) ih = let b : free_from (suc (suc j)) es ≤ j + suc (length es) = rw q at h in later q (ih (omega arith))

pub free_found : (es : List Edit) → free_from 1 es ≤ length es → FreeAt es (free_from 1 es)
unfolding edit_of
free_found es h =
    let w = found_free 0 es (omega arith) in
    let z : free_from 1 es ≡ suc w.0 = omega (arith, w.1) in
    record { range = record { from = omega arith; upto = h }; free = rw z w.3 }
