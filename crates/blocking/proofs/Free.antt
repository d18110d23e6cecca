-- The search for the least free point: the walk of rising locks takes the end of the points under them on, and stops
-- where a lock starts beyond it. Rests on Rising and on Spans of the crate `meaning`.
use Prim.Native.Nat.{ℕ, suc, ◌≤◌, ◌<◌, min}
use mathlib.Core.Path.{◌≡◌, refl, sym, ap, ◌∙◌}
use mathlib.Core.Logic.{◌⊎◌, inl, inr}
use mathlib.Core.Bool.{true, false, ◌&&◌}
use mathlib.Core.List.Memᴰ
use mathlib.Core.List.{List, [], ◌∷◌}
use native.Mathlib.Omega.{arith}
use lib.Dec.{leb, ltb}
use borrow.Author.Tests.{leb-true, leb-false, ltb-true, ltb-false}
use Rattle.meaning.specs.Lists.{◌∈◌, any, keep, pairwise}
use Rattle.meaning.specs.Points.{covers, covered, own, writes, is_write, is_owned, first_free, no_later}
use Rattle.types.specs.declared.Lock.{Lock}
use Rattle.meaning.proofs.Lists.{test, keep_out}
use Rattle.meaning.proofs.Tests.{Under, Covered}
use Rattle.meaning.proofs.Spans.{first_free_top, first_free_low, first_free_is, first_free_run}
use Rattle.blocking.specs.declared.Which.{Which}
use Rattle.blocking.specs.declared.Which.TheVariants.{Own}
use Rattle.blocking.specs.Search.{counts, counted, owns_write, further, reach}
use Rattle.blocking.proofs.Extremes.{keep_keep, any_keep}
use Rattle.blocking.proofs.Rising.{rest_rises, none_meets}

-- what a walk from end finds: every point up to q is under a lock, and q is not
record Reached (ls : List Lock) (end high q : ℕ) : Type 0 where
  pub from : end ≤ q
  pub top : q ≤ suc high
  pub under : (x : ℕ) → end ≤ x → x < q → Covered ls x
  pub free : q ≤ high → Covered ls q → ⊥

reached_still : {ls : List Lock} (end high : ℕ) → end ≤ suc high → (end ≤ high → Covered ls end → ⊥)
    → Reached ls end high end
reached_still end high h f =
    record { from = omega arith; top = h; under = λ x a b. absurd (omega arith); free = f }

-- one lock, which takes the end to m, then the others
reached_on : (l : Lock) {ls : List Lock} {end high m q : ℕ} → end ≤ m → ((x : ℕ) → end ≤ x → x < m → Under x l)
    → ((x : ℕ) → m ≤ x → x ≤ high → Under x l → ⊥) → Reached ls m high q → Reached (l ∷ ls) end high q
reached_on l {ls} {end} {high} {m} {q} h run past i =
    record {
      from = omega (arith, i.from);
      top = i.top;
      under = λ x a b. under x a b (test (ltb x m));
      free = λ a c. free a c.lock c.under (Memᴰ.cases_cons c.member);
    }
  where
    under : (x : ℕ) → end ≤ x → x < q → (ltb x m ≡ true) ⊎ (ltb x m ≡ false) → Covered (l ∷ ls) x
    under x a b (inl e) = record { lock = l; member = Memᴰ.head refl; under = run x a (ltb-true x m e) }
    under x a b (inr e) =
        let c = i.under x (ltb-false x m e) b in
        record { lock = c.lock; member = Memᴰ.tail c.member; under = c.under }

    free : q ≤ high → (k : Lock) → Under q k → (k ≡ l) ⊎ (k ∈ ls) → ⊥
    free a k u (inl e) = past q i.from a (rw e at u)
    free a k u (inr n) = i.free a (record { lock = k; member = n; under = u })

-- the least free point is the only one that a walk can find
module _ (ls : List Lock) (low high : ℕ) where
  abbrev first : ℕ
  first = first_free ls low high

  is_first : {q : ℕ} → low ≤ high → Reached ls low high q → q ≡ first
  is_first {q} order i = go (test (ltb q first)) (test (ltb first q))
    where
      go : (ltb q first ≡ true) ⊎ (ltb q first ≡ false) → (ltb first q ≡ true) ⊎ (ltb first q ≡ false) → q ≡ first
      go (inl a) t =
          let g = ltb-true q first a in
          absurd (i.free (omega (arith, first_free_top ls low high)) (first_free_run ls low high q i.from g))
      go (inr a) (inl b) =
          let g = ltb-true first q b in
          let inside = i.under first (first_free_low ls low high (omega arith)) g in
          absurd (first_free_is ls low high (omega (arith, i.top)) inside)
      go (inr a) (inr b) = omega (arith, ltb-false q first a, ltb-false first q b)

module _ (which : Which) (high : ℕ) where
  abbrev walk : ℕ → List Lock → ℕ
  walk end ls = reach which high end ls

  abbrev Finds : ℕ → List Lock → Type 0
  Finds end ls = Reached (counted which ls) end high (walk end ls)

  -- where a lock starts beyond the end, no lock covers the end
  end_free : (l : Lock) (ls : List Lock) (end : ℕ) → pairwise no_later (l ∷ ls) ≡ true → end < l.low
      → Covered (counted which (l ∷ ls)) end → ⊥
  unfolding counted
  end_free l ls end rises after c =
      none_meets l ls rises end end after c.lock (keep_out (counts which) (l ∷ ls) c.member).0
      (record { starts = c.under.from; ends = c.under.upto })

  reached : (ls : List Lock) (end : ℕ) → pairwise no_later ls ≡ true → end ≤ suc high → Finds end ls
  unfolding counted further reach
  reached [] end rises h = reached_still end high h (λ a c. Memᴰ.not-nil c.member)
  reached (l ∷ ls) end rises h =
      go (test (ltb high end)) (test (ltb end l.low)) (test (counts which l)) (test (leb end l.high))
      (λ m a. reached ls m (rest_rises l ls rises) a)
    where
      go : (ltb high end ≡ true) ⊎ (ltb high end ≡ false) → (ltb end l.low ≡ true) ⊎ (ltb end l.low ≡ false)
          → (counts which l ≡ true) ⊎ (counts which l ≡ false)
          → (leb end l.high ≡ true) ⊎ (leb end l.high ≡ false)
          → ((m : ℕ) → m ≤ suc high → Finds m ls) → Finds end (l ∷ ls)
      go (inl e) a c t rest =
          let none_left = ltb-true high end e in rw e (reached_still end high h (λ b d. omega arith))
      go (inr e) (inl a) c t rest =
          rw (e, a) (reached_still end high h (λ b d. end_free l ls end rises (ltb-true end l.low a) d))
      go (inr e) (inr a) (inr c) t rest = rw (e, a, c) (rest end h)
      go (inr e) (inr a) (inl c) (inr t) rest =
          let over = leb-false end l.high t in
          rw (e, a, c, t)
          (reached_on l (omega arith) (λ x b d. absurd (omega arith)) (λ x b d u. omega (arith, u.upto)) (rest end h))
      go (inr e) (inr a) (inl c) (inl t) rest =
          let in-it = leb-true end l.high t in
          let begun = ltb-false end l.low a in
          let left = ltb-false high end e in
          rw (e, a, c, t)
          (reached_on l (omega arith) (λ x b d. record { from = omega arith; upto = omega arith })
          (λ x b d u. omega (arith, u.upto)) (rest (suc (min high l.high)) (omega arith)))

  pub reach_free : (ls : List Lock) (low : ℕ) → pairwise no_later ls ≡ true → low ≤ high
      → walk low ls ≡ first_free (counted which ls) low high
  reach_free ls low rises order =
      is_first (counted which ls) low high order (reached ls low rises (omega arith))

-- own locks, and own write locks on a point
pub counted_own : (k : ℕ) (ls : List Lock) → counted (Own k) ls ≡ own k ls
unfolding counted counts own
counted_own k ls = refl

pub own_writes : (k : ℕ) (ls : List Lock) → writes (own k ls) ≡ keep (owns_write k) ls
unfolding writes own
own_writes k ls = keep_keep is_write (is_owned k) ls

pub write_any : (k : ℕ) (ls : List Lock) (p : ℕ)
    → any (λ l. owns_write k l && covers p l) ls ≡ covered (writes (own k ls)) p
unfolding covered
write_any k ls p = sym (ap (any (covers p)) (own_writes k ls) ∙ any_keep (covers p) (owns_write k) ls)
