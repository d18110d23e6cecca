-- The point at which a Lock or a Read that takes nothing is judged: there is one such point, and the search finds it.
-- Rests on Points and Newest.
use Prim.Native.Nat.{ℕ, suc, ◌≤◌, ◌<◌}
use native.Mathlib.Omega.{arith}
use native.Mathlib.Nat.{le_refl}
use native.Mathlib.Decide.{dec_lt}
use mathlib.Core.Path.{◌≡◌}
use mathlib.Core.Logic.{◌⊎◌, inl, inr}
use mathlib.Core.Bool.{true, false}
use Rattle.types.specs.Limits.{READ, WRITE}
use Rattle.meaning.specs.Store.{Rec, Store, rec_at}
use Rattle.meaning.specs.Points.{first_blocked}
use Rattle.meaning.specs.Locking.{lock_granted, read_granted, read_version, read_from}
use Rattle.meaning.specs.Pointwise.{Proper, LeastBlocked, NoneBlocked, LockDenied, LockTakes, ReadDenied}
use Rattle.meaning.specs.Pointwise.{ReadTakes, NewestIs}
use Rattle.meaning.specs.Causes.{LockJudged, ReadJudged}
use Rattle.types.specs.declared.Extent.{Extent}
use Rattle.types.specs.declared.Extent.TheVariants.{All, Part}
use Rattle.meaning.proofs.Points.{first_blocked_is_least, lock_takes_run, read_takes_run}
use Rattle.meaning.proofs.Newest.{newest_one}

-- a least blocked point is the only one
pub least_one : {mode k : ℕ} {x : Rec} {low high p q : ℕ} → LeastBlocked mode k x low high p
    → LeastBlocked mode k x low high q → p ≡ q
least_one {p = p} {q} a b = go (dec_lt p q) (dec_lt q p)
  where
    go : Dec (p < q) → Dec (q < p) → p ≡ q
    go (yes h) d = absurd (b.least p a.from h a.blocked)
    go (no h) (yes l) = absurd (a.least q b.from l b.blocked)
    go (no h) (no l) = omega arith

-- where a point is blocked the search finds the least one
found : (mode k : ℕ) (x : Rec) (low high : ℕ) → Proper x → low ≤ high → (NoneBlocked mode k x low high → ⊥)
    → LeastBlocked mode k x low high (first_blocked mode k x low high)
found mode k x low high proper h some = go (first_blocked_is_least mode k x low high proper h)
  where
    go : LeastBlocked mode k x low high (first_blocked mode k x low high)
        ⊎ ((first_blocked mode k x low high ≡ suc high) × NoneBlocked mode k x low high)
        → LeastBlocked mode k x low high (first_blocked mode k x low high)
    go (inl l) = l
    go (inr n) = absurd (some n.1)

-- and where there is a least one, that is it
pub found_least : (mode k : ℕ) (x : Rec) (low high : ℕ) → Proper x → {p : ℕ} → LeastBlocked mode k x low high p
    → LeastBlocked mode k x low high (first_blocked mode k x low high)
found_least mode k x low high proper {p} l =
    found mode k x low high proper (omega (arith, l.from, l.upto)) (λ n. n p l.from l.upto l.blocked)

-- what is taken is not denied, and where all is denied a point is blocked
lock_not_both : (w : Extent) (k : ℕ) (x : Rec) (low high from end : ℕ) → LockTakes w k x low high from end
    → LockDenied w k x low high → ⊥
lock_not_both All k x low high from end t d = t.2 d.0 d.1.from d.1.upto d.1.blocked
lock_not_both Part k x low high from end t d =
    t.taken.free from (le_refl from) t.taken.some
    (d from t.starts (omega (arith, t.taken.some, t.taken.upto)))

lock_blocked : (w : Extent) (k : ℕ) (x : Rec) (low high : ℕ) → low ≤ high → LockDenied w k x low high
    → NoneBlocked WRITE k x low high → ⊥
lock_blocked All k x low high h d n = n d.0 d.1.from d.1.upto d.1.blocked
lock_blocked Part k x low high h d n = n low (le_refl low) h (d low (le_refl low) h)

read_not_both : (w : Extent) (k : ℕ) (x : Rec) (low high end : ℕ) → ReadTakes w k x low high end
    → ReadDenied w k x low high → ⊥
read_not_both All k x low high end t d = t.1 d.0 d.1.from d.1.upto d.1.blocked
read_not_both Part k x low high end t d = t.free low (le_refl low) t.some d

read_blocked : (w : Extent) (k : ℕ) (x : Rec) (low high : ℕ) → low ≤ high → ReadDenied w k x low high
    → NoneBlocked READ k x low high → ⊥
read_blocked All k x low high h d n = n d.0 d.1.from d.1.upto d.1.blocked
read_blocked Part k x low high h d n = n low (le_refl low) h d

module _ (s : Store) (k r low high : ℕ) (w : Extent) (proper : Proper (rec_at s r)) (h : low ≤ high) where
  pub lock_granted_lem : lock_granted w k (rec_at s r) low high ≡ true → {p : ℕ} → LockJudged s k r low high w p → ⊥
  lock_granted_lem e j =
      lock_not_both w k (rec_at s r) low high _ _ ((lock_takes_run w k (rec_at s r) low high proper h).0 e) j.denied

  pub lock_denied : lock_granted w k (rec_at s r) low high ≡ false
      → LockJudged s k r low high w (first_blocked WRITE k (rec_at s r) low high)
  lock_denied e =
      let d = (lock_takes_run w k (rec_at s r) low high proper h).1 e in
      record {
        denied = d;
        judged = found WRITE k (rec_at s r) low high proper h (lock_blocked w k (rec_at s r) low high h d);
      }

module _ (s : Store) (k r m : ℕ) (w : Extent) (proper : Proper (rec_at s r))
    (newest : NewestIs (rec_at s r).versions m (read_version s r m)) (h : read_from s r m ≤ m) where
  pub read_granted_lem : read_granted w k (rec_at s r) (read_from s r m) m ≡ true → {p : ℕ} → ReadJudged s k r m w p → ⊥
  read_granted_lem e j =
      read_not_both w k (rec_at s r) (read_from s r m) m _
      ((read_takes_run w k (rec_at s r) (read_from s r m) m proper h).0 e)
      (rw (newest_one newest j.newest) j.denied)

  pub read_denied : read_granted w k (rec_at s r) (read_from s r m) m ≡ false
      → ReadJudged s k r m w (first_blocked READ k (rec_at s r) (read_from s r m) m)
  read_denied e =
      let d = (read_takes_run w k (rec_at s r) (read_from s r m) m proper h).1 e in
      record {
        version = read_version s r m;
        newest = newest;
        denied = d;
        judged =
            found READ k (rec_at s r) (read_from s r m) m proper h
            (read_blocked w k (rec_at s r) (read_from s r m) m h d);
      }

-- two judged points are one
pub lock_judged_one : {s : Store} {k r low high : ℕ} {w : Extent} {p q : ℕ} → LockJudged s k r low high w p
    → LockJudged s k r low high w q → p ≡ q
lock_judged_one a b = least_one a.judged b.judged

pub read_judged_one : {s : Store} {k r m : ℕ} {w : Extent} {p q : ℕ} → ReadJudged s k r m w p → ReadJudged s k r m w q
    → p ≡ q
read_judged_one a b = least_one (rw (newest_one a.newest b.newest) at a.judged) b.judged
