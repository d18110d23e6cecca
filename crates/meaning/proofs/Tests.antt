-- What each Bool test on a lock, an access or a list of locks says as plain facts, and back: `-out` from the test,
-- `-in` to it. Rests on Lists.
use Prim.Native.Nat.{ℕ, zero, suc, ◌≤◌, ◌<◌}
use native.Mathlib.Omega.{arith}
use mathlib.Core.Path.{◌≡◌, refl, ap}
use mathlib.Core.Logic.{◌⊎◌, inl, inr}
use mathlib.Core.Bool.{true, false, not}
use mathlib.Core.List.{List}
use lib.Dec.{leb, eqb}
use borrow.Author.Tests.{leb-true, le-leb, ltb-true, ltb-false, lt-ltb, le-ltb, eqb-true, eqb-false, eq-eqb, ne_eqb}
use borrow.Author.Tests.{not-true}
use Rattle.meaning.specs.Lists.{◌∈◌}
use Rattle.types.specs.Limits.{WRITE}
use Rattle.meaning.specs.Store.{Lock, Access, Rec, has_read}
use Rattle.meaning.specs.Points.{is_write, is_owned, covers, meets, covered, own, writes, conflicts, blocks}
use Rattle.meaning.specs.Points.{blockers}
use Rattle.meaning.proofs.Lists.{and_in, and_left, and_right, or_out, or_left, or_right, false_in, not_both}
use Rattle.meaning.proofs.Lists.{any_in, any_out, keep_in, keep_out}

-- the point p lies in the lock
pub record Under (p : ℕ) (l : Lock) : Type 0 where
  pub from : l.low ≤ p
  pub upto : p ≤ l.high

pub covers_out : (p : ℕ) (l : Lock) → covers p l ≡ true → Under p l
covers_out p l e =
    record {
      from = leb-true l.low p (and_left (leb l.low p) (leb p l.high) e);
      upto = leb-true p l.high (and_right (leb l.low p) (leb p l.high) e);
    }

pub covers_in : (p : ℕ) (l : Lock) → Under p l → covers p l ≡ true
covers_in p l u = and_in (le-leb l.low p u.from) (le-leb p l.high u.upto)

-- the lock and the span low..high meet, for proper locks: they share a point
pub record Meeting (low high : ℕ) (l : Lock) : Type 0 where
  pub starts : l.low ≤ high
  pub ends : low ≤ l.high

pub meets_out : (low high : ℕ) (l : Lock) → meets low high l ≡ true → Meeting low high l
meets_out low high l e =
    record {
      starts = leb-true l.low high (and_left (leb l.low high) (leb low l.high) e);
      ends = leb-true low l.high (and_right (leb l.low high) (leb low l.high) e);
    }

pub meets_in : (low high : ℕ) (l : Lock) → Meeting low high l → meets low high l ≡ true
meets_in low high l u = and_in (le-leb l.low high u.starts) (le-leb low l.high u.ends)

-- owner and mode of a lock
pub owned_out : (k : ℕ) (l : Lock) → is_owned k l ≡ true → l.owner ≡ k
owned_out k l e = eqb-true l.owner k e

pub owned_in : (k : ℕ) (l : Lock) → l.owner ≡ k → is_owned k l ≡ true
owned_in k l e = eq-eqb l.owner k e

pub unowned_out : (k : ℕ) (l : Lock) → is_owned k l ≡ false → l.owner ≡ k → ⊥
unowned_out k l e = eqb-false l.owner k e

pub unowned_in : (k : ℕ) (l : Lock) → (l.owner ≡ k → ⊥) → is_owned k l ≡ false
unowned_in k l f = ne_eqb l.owner k f

pub other_out : (k : ℕ) (l : Lock) → not (is_owned k l) ≡ true → l.owner ≡ k → ⊥
other_out k l e = unowned_out k l (not-true (is_owned k l) e)

pub other_in : (k : ℕ) (l : Lock) → (l.owner ≡ k → ⊥) → not (is_owned k l) ≡ true
other_in k l f = ap not (unowned_in k l f)

pub write_out : (l : Lock) → is_write l ≡ true → l.mode ≡ WRITE
write_out l e = eqb-true l.mode WRITE e

pub write_in : (l : Lock) → l.mode ≡ WRITE → is_write l ≡ true
write_in l e = eq-eqb l.mode WRITE e

pub unwrite_out : (l : Lock) → is_write l ≡ false → l.mode ≡ WRITE → ⊥
unwrite_out l e = eqb-false l.mode WRITE e

pub unwrite_in : (l : Lock) → (l.mode ≡ WRITE → ⊥) → is_write l ≡ false
unwrite_in l f = ne_eqb l.mode WRITE f

-- a lock conflicts with the mode; it blocks slot k
pub conflicts_out : (mode : ℕ) (l : Lock) → conflicts mode l ≡ true → (mode ≡ WRITE) ⊎ (l.mode ≡ WRITE)
unfolding conflicts
conflicts_out mode l e = go (or_out (eqb mode WRITE) (is_write l) e)
  where
    go : (eqb mode WRITE ≡ true) ⊎ (is_write l ≡ true) → (mode ≡ WRITE) ⊎ (l.mode ≡ WRITE)
    go (inl q) = inl (eqb-true mode WRITE q)
    go (inr q) = inr (write_out l q)

pub conflicts_in : (mode : ℕ) (l : Lock) → (mode ≡ WRITE) ⊎ (l.mode ≡ WRITE) → conflicts mode l ≡ true
unfolding conflicts
conflicts_in mode l (inl q) = or_left (is_write l) (eq-eqb mode WRITE q)
conflicts_in mode l (inr q) = or_right (eqb mode WRITE) (write_in l q)

pub record Blocking (mode k : ℕ) (l : Lock) : Type 0 where
  pub other : l.owner ≡ k → ⊥
  pub against : (mode ≡ WRITE) ⊎ (l.mode ≡ WRITE)

pub blocks_out : (mode k : ℕ) (l : Lock) → blocks mode k l ≡ true → Blocking mode k l
unfolding blocks
blocks_out mode k l e =
    record {
      other = other_out k l (and_left (not (is_owned k l)) (conflicts mode l) e);
      against = conflicts_out mode l (and_right (not (is_owned k l)) (conflicts mode l) e);
    }

pub blocks_in : (mode k : ℕ) (l : Lock) → Blocking mode k l → blocks mode k l ≡ true
unfolding blocks
blocks_in mode k l b = and_in (other_in k l b.other) (conflicts_in mode l b.against)

-- an access is of a record read: `from` is the point read + 1
pub read_out : (a : Access) → has_read a ≡ true → (tr : ℕ) × (a.from ≡ suc tr)
read_out a e = go a.from refl (ltb-true 0 a.from e)
  where
    go : (n : ℕ) → a.from ≡ n → 0 < n → (tr : ℕ) × (a.from ≡ suc tr)
    go zero q h = absurd (omega arith)
    go (suc tr) q h = (tr, q)

pub read_in : (a : Access) (tr : ℕ) → a.from ≡ suc tr → has_read a ≡ true
read_in a tr q = lt-ltb 0 a.from (omega arith)

pub unread_out : (a : Access) → has_read a ≡ false → a.from ≡ 0
unread_out a e = omega (arith, ltb-false 0 a.from e)

pub unread_in : (a : Access) → a.from ≡ 0 → has_read a ≡ false
unread_in a q = le-ltb 0 a.from (omega arith)

-- the lists of locks made by a test
pub own_out : (k : ℕ) (ls : List Lock) {l : Lock} → l ∈ own k ls → (l ∈ ls) × (l.owner ≡ k)
unfolding own
own_out k ls {l} m = let w = keep_out (is_owned k) ls m in (w.0, owned_out k l w.1)

pub own_in : (k : ℕ) (ls : List Lock) {l : Lock} → l ∈ ls → l.owner ≡ k → l ∈ own k ls
unfolding own
own_in k ls {l} m q = keep_in (is_owned k) m (owned_in k l q)

pub writes_out : (ls : List Lock) {l : Lock} → l ∈ writes ls → (l ∈ ls) × (l.mode ≡ WRITE)
unfolding writes
writes_out ls {l} m = let w = keep_out is_write ls m in (w.0, write_out l w.1)

pub writes_in : (ls : List Lock) {l : Lock} → l ∈ ls → l.mode ≡ WRITE → l ∈ writes ls
unfolding writes
writes_in ls {l} m q = keep_in is_write m (write_in l q)

pub blockers_out : (mode k : ℕ) (x : Rec) {l : Lock} → l ∈ blockers mode k x → (l ∈ x.locks) × Blocking mode k l
unfolding blockers
blockers_out mode k x {l} m = let w = keep_out (blocks mode k) x.locks m in (w.0, blocks_out mode k l w.1)

pub blockers_in : (mode k : ℕ) (x : Rec) {l : Lock} → l ∈ x.locks → Blocking mode k l → l ∈ blockers mode k x
unfolding blockers
blockers_in mode k x {l} m b = keep_in (blocks mode k) m (blocks_in mode k l b)

-- a point is under one of the locks
pub record Covered (ls : List Lock) (p : ℕ) : Type 0 where
  pub lock : Lock
  pub member : lock ∈ ls
  pub under : Under p lock

pub covered_out : (ls : List Lock) (p : ℕ) → covered ls p ≡ true → Covered ls p
unfolding covered
covered_out ls p e =
    let w = any_out (covers p) ls e in record { lock = w.0; member = w.1; under = covers_out p w.0 w.2 }

pub covered_in : (ls : List Lock) (p : ℕ) → Covered ls p → covered ls p ≡ true
unfolding covered
covered_in ls p c = any_in (covers p) c.member (covers_in p c.lock c.under)

pub uncovered_out : (ls : List Lock) (p : ℕ) → covered ls p ≡ false → Covered ls p → ⊥
uncovered_out ls p e c = not_both (covered_in ls p c) e

pub uncovered_in : (ls : List Lock) (p : ℕ) → (Covered ls p → ⊥) → covered ls p ≡ false
uncovered_in ls p f = false_in (covered ls p) (λ e. f (covered_out ls p e))
