-- first_covered is the least point of low..high under one of the locks, and first_free the least under none: what the
-- ends of the locks say of every point. Rests on Lists and Tests.
use Prim.Native.Nat.{ℕ, zero, suc, ◌+◌, ◌-◌, ◌≤◌, ◌<◌, max}
use native.Mathlib.Omega.{arith}
use native.Mathlib.Nat.{add-zero}
use mathlib.Core.Path.{◌≡◌, sym, ap, ◌∙◌}
use mathlib.Core.Logic.{◌⊎◌, inl, inr, ◌↔◌}
use mathlib.Core.Bool.{Bool, true, false, not, ◌&&◌}
use mathlib.Core.List.Memᴰ
use mathlib.Core.List.{List, ◌∷◌, map}
use lib.Dec.{leb, ltb}
use borrow.Author.Tests.{leb-true, leb-false, le-leb, ltb-true, ltb-false, not-true}
use Rattle.meaning.specs.Lists.{◌∈◌, keep}
use Rattle.meaning.specs.Store.{Lock}
use Rattle.meaning.specs.Points.{meets, covered, first_covered, first_free}
use Rattle.meaning.proofs.Lists.{and_in, and_left, and_right, test, keep_in, keep_out, least_default, least_le}
use Rattle.meaning.proofs.Lists.{least_out}
use Rattle.meaning.proofs.Tests.{Under, Meeting, meets_out, meets_in, Covered, covered_out, uncovered_out}

-- the last point of a covered run is the high end of a lock
edge : (ls : List Lock) (p : ℕ) → Covered ls p → (Covered ls (suc p) → ⊥)
    → (l : Lock) × (l ∈ ls) × (suc l.high ≡ suc p)
edge ls p c f = (c.lock, c.member, go (test (leb (suc p) c.lock.high)))
  where
    go : (leb (suc p) c.lock.high ≡ true) ⊎ (leb (suc p) c.lock.high ≡ false) → suc c.lock.high ≡ suc p
    go (inl q) =
        let u : Under (suc p) c.lock =
        record { from = omega (arith, c.under.from); upto = leb-true (suc p) c.lock.high q } in
        absurd (f (record { lock = c.lock; member = c.member; under = u }))
    go (inr q) = omega (arith, c.under.upto, leb-false (suc p) c.lock.high q)

module _ (ls : List Lock) (low high : ℕ) where
  abbrev starts : List ℕ
  starts = map (λ l. max low l.low) (keep (meets low high) ls)

  -- first_covered is where a lock that meets low..high starts in it
  record Start : Type 0 where
    pub lock : Lock
    pub member : lock ∈ ls
    pub meeting : Meeting low high lock
    pub starting : max low lock.low ≡ first_covered ls low high

  start_out : (first_covered ls low high ≡ suc high) ⊎ Start
  unfolding first_covered
  start_out = go (least_out (suc high) starts)
    where
      go : (first_covered ls low high ≡ suc high) ⊎ (first_covered ls low high ∈ starts)
          → (first_covered ls low high ≡ suc high) ⊎ Start
      go (inl e) = inl e
      go (inr m) =
          let w = Memᴰ.of_map (λ l. max low l.low) (keep (meets low high) ls) m in
          let k = keep_out (meets low high) ls w.1 in
          inr (record { lock = w.0; member = k.0; meeting = meets_out low high w.0 k.1; starting = w.2 })

  pub first_covered_top : first_covered ls low high ≤ suc high
  unfolding first_covered
  first_covered_top = least_default (suc high) starts

  pub first_covered_low : low ≤ suc high → low ≤ first_covered ls low high
  first_covered_low h = go start_out
    where
      go : (first_covered ls low high ≡ suc high) ⊎ Start → low ≤ first_covered ls low high
      go (inl e) = omega arith
      go (inr w) = omega (arith, w.starting)

  -- at or below high, it is under a lock
  pub first_covered_is : ((l : Lock) → l ∈ ls → l.low ≤ l.high) → first_covered ls low high ≤ high
      → Covered ls (first_covered ls low high)
  first_covered_is proper h = go start_out
    where
      go : (first_covered ls low high ≡ suc high) ⊎ Start → Covered ls (first_covered ls low high)
      go (inl e) = absurd (omega arith)
      go (inr w) =
          let a = proper w.lock w.member in
          let u : Under (first_covered ls low high) w.lock =
          record { from = omega (arith, w.starting); upto = omega (arith, w.starting, w.meeting.ends) } in
          record { lock = w.lock; member = w.member; under = u }

  -- no point of low.. below it is under a lock
  pub first_covered_least : (p : ℕ) → low ≤ p → p < first_covered ls low high → Covered ls p → ⊥
  unfolding first_covered
  first_covered_least p h g c =
      let t = first_covered_top in
      let m : Meeting low high c.lock =
      record { starts = omega (arith, c.under.from); ends = omega (arith, c.under.upto) } in
      let i : max low c.lock.low ∈ starts =
      Memᴰ.map (λ l. max low l.low) (keep_in (meets low high) c.member (meets_in low high c.lock m)) in
      omega (arith, c.under.from, least_le (suc high) i)

  -- where the first free point can be, and the test that it passes
  abbrev after : List ℕ
  after = low ∷ map (λ l. suc l.high) ls

  abbrev passes : ℕ → Bool
  passes p = leb low p && not (covered ls p)

  free_out : (first_free ls low high ≡ suc high) ⊎ (passes (first_free ls low high) ≡ true)
  unfolding first_free
  free_out = go (least_out (suc high) (keep passes after))
    where
      go : (first_free ls low high ≡ suc high) ⊎ (first_free ls low high ∈ keep passes after)
          → (first_free ls low high ≡ suc high) ⊎ (passes (first_free ls low high) ≡ true)
      go (inl e) = inl e
      go (inr m) = inr (keep_out passes after m).1

  free_le : (p : ℕ) → p ∈ after → low ≤ p → covered ls p ≡ false → first_free ls low high ≤ p
  unfolding first_free
  free_le p m h e = least_le (suc high) (keep_in passes m (and_in (le-leb low p h) (ap not e)))

  pub first_free_top : first_free ls low high ≤ suc high
  unfolding first_free
  first_free_top = least_default (suc high) (keep passes after)

  pub first_free_low : low ≤ suc high → low ≤ first_free ls low high
  first_free_low h = go free_out
    where
      go : (first_free ls low high ≡ suc high) ⊎ (passes (first_free ls low high) ≡ true) → low ≤ first_free ls low high
      go (inl e) = omega arith
      go (inr e) =
          leb-true low (first_free ls low high)
          (and_left (leb low (first_free ls low high)) (not (covered ls (first_free ls low high))) e)

  -- at or below high, it is under no lock
  pub first_free_is : first_free ls low high ≤ high → Covered ls (first_free ls low high) → ⊥
  first_free_is h = go free_out
    where
      go : (first_free ls low high ≡ suc high) ⊎ (passes (first_free ls low high) ≡ true)
          → Covered ls (first_free ls low high) → ⊥
      go (inl e) = absurd (omega arith)
      go (inr e) =
          uncovered_out ls (first_free ls low high)
          (not-true (covered ls (first_free ls low high))
          (and_right (leb low (first_free ls low high)) (not (covered ls (first_free ls low high))) e))

  -- every point of low.. below it is under a lock: low + n by induction on n
  free_run : (n : ℕ) → low + n < first_free ls low high → Covered ls (low + n)
  free_run zero g = go (test (covered ls (low + zero)))
    where
      go : (covered ls (low + zero) ≡ true) ⊎ (covered ls (low + zero) ≡ false) → Covered ls (low + zero)
      go (inl e) = covered_out ls (low + zero) e
      go (inr e) = absurd (omega (arith, free_le (low + zero) (Memᴰ.head (add-zero low)) (omega arith) e))
  free_run (suc n) g = go (free_run n (omega arith)) (test (covered ls (low + suc n)))
    where
      same : suc (low + n) ≡ low + suc n
      same = omega arith

      go : Covered ls (low + n) → (covered ls (low + suc n) ≡ true) ⊎ (covered ls (low + suc n) ≡ false)
          → Covered ls (low + suc n)
      go b (inl e) = covered_out ls (low + suc n) e
      go b (inr e) =
          let w = edge ls (low + n) b (rw same (uncovered_out ls (low + suc n) e)) in
          let m : (low + suc n) ∈ after =
          Memᴰ.tail (Memᴰ.cast (sym (w.2 ∙ same)) (Memᴰ.map (λ l. suc l.high) w.1)) in
          absurd (omega (arith, free_le (low + suc n) m (omega arith) e))

  pub first_free_run : (p : ℕ) → low ≤ p → p < first_free ls low high → Covered ls p
  first_free_run p h g =
      let e : low + (p - low) ≡ p = omega arith in
      rw e at (free_run (p - low) (omega arith))

  -- p is reached from low exactly if every point of low..p is under a lock
  pub reached : (p : ℕ) → low ≤ p → p ≤ high → (p < first_free ls low high) ↔ ((q : ℕ) → low ≤ q → q ≤ p → Covered ls q)
  reached p h g = (λ f q a b. first_free_run q a (omega arith), λ c. go c (test (ltb p (first_free ls low high))))
    where
      go : ((q : ℕ) → low ≤ q → q ≤ p → Covered ls q)
          → (ltb p (first_free ls low high) ≡ true) ⊎ (ltb p (first_free ls low high) ≡ false)
          → p < first_free ls low high
      go c (inl e) = ltb-true p (first_free ls low high) e
      go c (inr e) =
          let f = ltb-false p (first_free ls low high) e in
          absurd (first_free_is (omega arith) (c (first_free ls low high) (first_free_low (omega arith)) f))
