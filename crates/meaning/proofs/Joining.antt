-- A row put in order and a settled read lock joined: point by point, and that the list stays in order. Rests on Points
-- and Pointwise.
use Prim.Native.Nat.{ℕ, suc, ◌≤◌, ◌<◌}
use native.Mathlib.Omega.{arith}
use mathlib.Core.Path.{◌≡◌, refl, sym, ap}
use mathlib.Core.Logic.{◌⊎◌, inl, inr, ◌↔◌}
use mathlib.Core.Bool.{Bool, true, false, not, ◌&&◌}
use mathlib.Core.List.{List, [], ◌∷◌, map}
use mathlib.Core.List.Memᴰ
use lib.Dec.{leb, eqb}
use lib.ListN.{length}
use borrow.Author.Tests.{leb-true, leb-false, le-leb, eqb-true}
use Rattle.meaning.specs.Lists.{◌∈◌, keep, pairwise, greatest}
use Rattle.types.specs.Limits.{READ, SETTLED}
use Rattle.meaning.specs.Store.{Lock}
use Rattle.meaning.specs.Points.{is_owned}
use Rattle.meaning.specs.Pointwise.{LockOn}
use Rattle.meaning.specs.Points.{put_lock, is_settled_read, touches, joined_row, join_read, no_later}
use Rattle.meaning.proofs.Lists.{length_put_before, put_before_new, put_before_old, put_before_out}
use Rattle.meaning.proofs.Lists.{put_before_pairwise}
use Rattle.meaning.proofs.Lists.{and_left, and_right, test, keep_in, keep_out}
use Rattle.meaning.proofs.Lists.{length_keep, least_default, least_le, least_out, greatest_ge}
use Rattle.meaning.proofs.Lists.{greatest_out, pairwise_keep}
use Rattle.meaning.proofs.Tests.{owned_out}

-- this lock is of the owner o and the mode m, on the point p
pub record IsOn (l : Lock) (o m p : ℕ) : Type 0 where
  pub owned : l.owner ≡ o
  pub moded : l.mode ≡ m
  pub from : l.low ≤ p
  pub upto : p ≤ l.high

pub lock_on : {ls : List Lock} {l : Lock} {o m p : ℕ} → l ∈ ls → IsOn l o m p → LockOn ls o m p
lock_on {l = l} i w =
    record { lock = l; member = i; owned = w.owned; moded = w.moded; from = w.from; upto = w.upto }

pub is_on : {ls : List Lock} {o m p : ℕ} → (w : LockOn ls o m p) → IsOn w.lock o m p
is_on w = record { owned = w.owned; moded = w.moded; from = w.from; upto = w.upto }

-- a settled lock on low..high is left where the test holds
pub record LeftOn (b : Bool) (mode low high o m p : ℕ) : Type 0 where
  pub left : b ≡ true
  pub owned : o ≡ SETTLED
  pub moded : m ≡ mode
  pub from : low ≤ p
  pub upto : p ≤ high

-- a row put in order
module _ (l : Lock) (ms : List Lock) where
  pub length_put : length (put_lock l ms) ≡ suc (length ms)
  length_put = length_put_before (no_later l) l ms

  pub put_new : l ∈ put_lock l ms
  put_new = put_before_new (no_later l) l ms

  pub put_old : {x : Lock} → x ∈ ms → x ∈ put_lock l ms
  put_old i = put_before_old (no_later l) l ms i

  pub put_out : {x : Lock} → x ∈ put_lock l ms → (x ≡ l) ⊎ (x ∈ ms)
  put_out i = put_before_out (no_later l) l ms i

  pub put_pairwise : (r : Lock → Lock → Bool) → ((x : Lock) → x ∈ ms → no_later l x ≡ true → r l x ≡ true)
      → ((x : Lock) → x ∈ ms → no_later l x ≡ false → r x l ≡ true)
      → pairwise no_later ms ≡ true → pairwise r ms ≡ true → pairwise r (put_lock l ms) ≡ true
  put_pairwise r =
      put_before_pairwise (no_later l) l no_later r
      (λ x y h q. le-leb l.low y.low (omega (arith, leb-true x.low y.low h, leb-true l.low x.low q)))
      ms

  pub put_rises : pairwise no_later ms ≡ true → pairwise no_later (put_lock l ms) ≡ true
  put_rises s =
      put_pairwise no_later (λ x i q. q)
      (λ x i q. le-leb x.low l.low (omega (arith, leb-false l.low x.low q))) s s

-- what touching means
pub record Touching (low high : ℕ) (l : Lock) : Type 0 where
  pub owned : l.owner ≡ SETTLED
  pub moded : l.mode ≡ READ
  pub from : l.low ≤ suc high
  pub upto : low ≤ suc l.high

pub touches_out : (low high : ℕ) (l : Lock) → touches low high l ≡ true → Touching low high l
touches_out low high l e =
    let a = and_left (is_settled_read l) (leb l.low (suc high) && leb low (suc l.high)) e in
    let b = and_right (is_settled_read l) (leb l.low (suc high) && leb low (suc l.high)) e in
    record {
      owned = owned_out SETTLED l (and_left (is_owned SETTLED l) (eqb l.mode READ) a);
      moded = eqb-true l.mode READ (and_right (is_owned SETTLED l) (eqb l.mode READ) a);
      from = leb-true l.low (suc high) (and_left (leb l.low (suc high)) (leb low (suc l.high)) b);
      upto = leb-true low (suc l.high) (and_right (leb l.low (suc high)) (leb low (suc l.high)) b);
    }

module _ (low high : ℕ) (ls : List Lock) where
  abbrev near : List Lock
  near = keep (touches low high) ls

  abbrev row : Lock
  row = joined_row low high ls

  -- the joined row has the points of low..high and of the rows that it takes in, and no others
  pub row_in : (t : Lock) → t ∈ ls → touches low high t ≡ true → (row.low ≤ t.low) × (t.high ≤ row.high)
  row_in t i e = (
    least_le low (Memᴰ.map (λ l. l.low) (keep_in (touches low high) i e)),
    greatest_ge high (Memᴰ.map (λ l. l.high) (keep_in (touches low high) i e)),
  )

  greatest_least : (d : ℕ) (xs : List ℕ) → d ≤ greatest d xs
  greatest_least d [] = omega arith
  greatest_least d (x ∷ xs) = omega (arith, greatest_least d xs)

  pub row_own : (row.low ≤ low) × (high ≤ row.high)
  row_own = (least_default low (map (λ l. l.low) near), greatest_least high (map (λ l. l.high) near))

  pub row_out : (p : ℕ) → row.low ≤ p → p ≤ row.high
      → ((low ≤ p) × (p ≤ high)) ⊎ ((t : Lock) × (t ∈ ls) × Touching low high t × (t.low ≤ p) × (p ≤ t.high))
  row_out p a b = sort (test (leb low p)) (test (leb p high))
    where
      below : p < low → (row.low ≡ low) ⊎ (row.low ∈ map (λ l. l.low) near)
          → (t : Lock) × (t ∈ ls) × Touching low high t × (t.low ≤ p) × (p ≤ t.high)
      below h (inl z) = absurd (omega (arith, z))
      below h (inr i) =
          let w = Memᴰ.of_map (λ l. l.low) near i in
          let k = keep_out (touches low high) ls w.1 in
          let t = touches_out low high w.0 k.1 in
          (w.0, k.0, t, omega (arith, w.2), omega (arith, t.upto))

      above : high < p → (row.high ≡ high) ⊎ (row.high ∈ map (λ l. l.high) near)
          → (t : Lock) × (t ∈ ls) × Touching low high t × (t.low ≤ p) × (p ≤ t.high)
      above h (inl z) = absurd (omega (arith, z))
      above h (inr i) =
          let w = Memᴰ.of_map (λ l. l.high) near i in
          let k = keep_out (touches low high) ls w.1 in
          let t = touches_out low high w.0 k.1 in
          (w.0, k.0, t, omega (arith, t.from), omega (arith, w.2))

      sort : (leb low p ≡ true) ⊎ (leb low p ≡ false) → (leb p high ≡ true) ⊎ (leb p high ≡ false)
          → ((low ≤ p) × (p ≤ high)) ⊎ ((t : Lock) × (t ∈ ls) × Touching low high t × (t.low ≤ p) × (p ≤ t.high))
      sort (inl x) (inl y) = inl (leb-true low p x, leb-true p high y)
      sort (inr x) y = inr (below (leb-false low p x) (least_out low (map (λ l. l.low) near)))
      sort (inl x) (inr y) = inr (above (leb-false p high y) (greatest_out high (map (λ l. l.high) near)))

  -- point by point: the law of `leave_settled`, word for word, with no condition
  pub join_is : (o m p : ℕ)
      → LockOn (join_read low high ls) o m p ↔ (LeftOn true READ low high o m p ⊎ LockOn ls o m p)
  join_is o m p = (out, back)
    where
      rest : List Lock
      rest = keep (λ l. not (touches low high l)) ls

      settled : {x : Lock} → x ≡ row → IsOn x o m p → LeftOn true READ low high o m p ⊎ LockOn ls o m p
      settled z w =
          go (row_out p (omega (arith, w.from, ap (λ y. y.low) z)) (omega (arith, w.upto, ap (λ y. y.high) z)))
        where
          owns : o ≡ SETTLED
          owns = omega (arith, w.owned, ap (λ y. y.owner) z)

          modes : m ≡ READ
          modes = omega (arith, w.moded, ap (λ y. y.mode) z)

          go : ((low ≤ p) × (p ≤ high)) ⊎ ((t : Lock) × (t ∈ ls) × Touching low high t × (t.low ≤ p) × (p ≤ t.high))
              → LeftOn true READ low high o m p ⊎ LockOn ls o m p
          go (inl s) = inl (record { left = refl; owned = owns; moded = modes; from = s.0; upto = s.1 })
          go (inr t) =
              inr (record {
                lock = t.0;
                member = t.1;
                owned = omega (arith, t.2.owned, owns);
                moded = omega (arith, t.2.moded, modes);
                from = t.3;
                upto = t.4;
              })

      out : LockOn (join_read low high ls) o m p → LeftOn true READ low high o m p ⊎ LockOn ls o m p
      out w = go (put_out row rest w.member)
        where
          go : (w.lock ≡ row) ⊎ (w.lock ∈ rest) → LeftOn true READ low high o m p ⊎ LockOn ls o m p
          go (inl z) = settled z (is_on w)
          go (inr i) = inr (lock_on (keep_out (λ l. not (touches low high l)) ls i).0 (is_on w))

      back : LeftOn true READ low high o m p ⊎ LockOn ls o m p → LockOn (join_read low high ls) o m p
      back (inl w) =
          record {
            lock = row;
            member = put_new row rest;
            owned = sym w.owned;
            moded = sym w.moded;
            from = omega (arith, row_own.0, w.from);
            upto = omega (arith, row_own.1, w.upto);
          }
      back (inr w) = go (test (touches low high w.lock))
        where
          go : (touches low high w.lock ≡ true) ⊎ (touches low high w.lock ≡ false)
              → LockOn (join_read low high ls) o m p
          go (inl e) =
              let t = touches_out low high w.lock e in
              let i = row_in w.lock w.member e in
              record {
                lock = row;
                member = put_new row rest;
                owned = omega (arith, t.owned, w.owned);
                moded = omega (arith, t.moded, w.moded);
                from = omega (arith, i.0, w.from);
                upto = omega (arith, i.1, w.upto);
              }
          go (inr e) = lock_on (put_old row rest (keep_in (λ l. not (touches low high l)) w.member (ap not e)))
              (is_on w)

  -- settling needs no row more than before
  pub length_join : length (join_read low high ls) ≤ suc (length ls)
  length_join =
      omega (
        arith,
        length_put row (keep (λ l. not (touches low high l)) ls),
        length_keep (λ l. not (touches low high l)) ls,
      )

  -- in rising order
  pub join_rises : pairwise no_later ls ≡ true → pairwise no_later (join_read low high ls) ≡ true
  join_rises s =
      put_rises row (keep (λ l. not (touches low high l)) ls)
      (pairwise_keep no_later (λ l. not (touches low high l)) ls s)

pub put_is : (l : Lock) (ls : List Lock) (o m p : ℕ) → LockOn (put_lock l ls) o m p ↔ (IsOn l o m p ⊎ LockOn ls o m p)
put_is l ls o m p = (λ w. out w (put_out l ls w.member), back)
  where
    out : (w : LockOn (put_lock l ls) o m p) → (w.lock ≡ l) ⊎ (w.lock ∈ ls) → IsOn l o m p ⊎ LockOn ls o m p
    out w (inl e) = inl (rw e at (is_on w))
    out w (inr i) = inr (lock_on i (is_on w))

    back : IsOn l o m p ⊎ LockOn ls o m p → LockOn (put_lock l ls) o m p
    back (inl w) = lock_on (put_new l ls) w
    back (inr w) = lock_on (put_old l ls w.member) (is_on w)
