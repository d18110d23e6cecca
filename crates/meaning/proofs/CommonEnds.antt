-- The earliest point is the least of the common set and the latest its greatest: each access allows every point between
-- a point of the set and one of its ends. Rests on Lists and CommonSet.
use Prim.Native.Nat.{ℕ, suc, ◌-◌, ◌≤◌, ◌<◌, max, min}
use native.Mathlib.Omega.{arith}
use native.Mathlib.Nat.{le_refl}
use mathlib.Core.Path.{◌≡◌, refl}
use mathlib.Core.Logic.{◌⊎◌, inl, inr}
use mathlib.Core.Bool.{true, false}
use mathlib.Core.List.Memᴰ
use mathlib.Core.List.{List, [], ◌∷◌, map}
use lib.Dec.{ltb}
use borrow.Author.Tests.{ltb-true, lt-ltb}
use Rattle.meaning.specs.Lists.{◌∈◌, all, keep, least, greatest}
use Rattle.types.specs.Limits.{LAST}
use Rattle.meaning.specs.Store.{Lock, Access, Rec, Edit, edit_at, has_read}
use Rattle.meaning.specs.Points.{writes, first_free, own_on, allows, lowest, in_common, low_ends, high_ends, earliest}
use Rattle.meaning.specs.Points.{latest}
use Rattle.meaning.specs.Ending.{no_common}
use Rattle.meaning.specs.Pointwise.{InCommonSet, EmptyCommonSet, LeastCommon, GreatestCommon}
use Rattle.meaning.specs.Laws.{EarliestIsLeast, LatestIsGreatest, NoCommonIsEmpty}
use Rattle.meaning.proofs.Lists.{and_in, and_left, and_right, test, not_both, keep_in, keep_out, min_out}
use Rattle.meaning.proofs.Lists.{max_out, least_le, least_out, greatest_ge, greatest_out}
use Rattle.meaning.proofs.Tests.{Covered}
use Rattle.meaning.proofs.CommonSet.{Parts, parts_out, parts_in, common_out, common_in, common_set_is}
use Rattle.meaning.specs.Store.{has_written}

-- p is allowed, and q is allowed too where it is under the same write lock and between `from` and the end of what is
-- covered
module _ (ls : List Lock) (a : Access) (p q : ℕ) (w : Parts ls a p) where
  unwritten : has_written a ≡ false → a.from ≤ q → (has_read a ≡ true → q < first_free ls a.from LAST) → Parts ls a q
  unwritten n f g = record { written = λ h. absurd (not_both h n); from = f; upto = g }

  under : (c : Covered (writes ls) p) → c.lock.low ≤ q → q ≤ c.lock.high → a.from ≤ q
      → (has_read a ≡ true → q < first_free ls a.from LAST)
      → Parts ls a q
  under c x y f g =
      record {
        written = λ h. record { lock = c.lock; member = c.member; under = record { from = x; upto = y } };
        from = f;
        upto = g;
      }

-- downwards: an access that allows p allows every point from one of its low ends up to p
record Below (ls : List Lock) (a : Access) (p : ℕ) : Type 0 where
  pub end : ℕ
  pub member : end ∈ a.from ∷ map (λ l. l.low) (writes ls)
  pub upto : end ≤ p
  pub each : (q : ℕ) → end ≤ q → q ≤ p → Parts ls a q

below : (ls : List Lock) (a : Access) (p : ℕ) → Parts ls a p → Below ls a p
below ls a p w = go (test (has_written a))
  where
    mem : (l : Lock) → l ∈ writes ls → (max a.from l.low ≡ a.from) ⊎ (max a.from l.low ≡ l.low)
        → max a.from l.low ∈ a.from ∷ map (λ l. l.low) (writes ls)
    mem l m (inl e) = Memᴰ.head e
    mem l m (inr e) = Memᴰ.tail (Memᴰ.cast e (Memᴰ.map (λ l. l.low) m))

    go : (has_written a ≡ true) ⊎ (has_written a ≡ false) → Below ls a p
    go (inr n) =
        record {
          end = a.from;
          member = Memᴰ.head refl;
          upto = w.from;
          each = λ q x y. unwritten ls a p q w n x (λ h. omega (arith, w.upto h));
        }
    go (inl t) =
        let c = w.written t in
        record {
          end = max a.from c.lock.low;
          member = mem c.lock c.member (max_out a.from c.lock.low);
          upto = omega (arith, w.from, c.under.from);
          each =
              λ q x y. under ls a p q w c (omega arith) (omega (arith, c.under.upto)) (omega arith)
              (λ h. omega (arith, w.upto h));
        }

module _ (rs : List Rec) (k p start : ℕ) where
  record AllBelow (acc : List Access) : Type 0 where
    pub end : ℕ
    pub member : end ∈ low_ends rs k start acc
    pub from : start ≤ end
    pub upto : end ≤ p
    pub each : (q : ℕ) → end ≤ q → q ≤ p → all (allows rs k q) acc ≡ true

  all_below : start ≤ p → (acc : List Access) → all (allows rs k p) acc ≡ true → AllBelow acc
  unfolding allows
  all_below h [] e =
      record { end = start; member = Memᴰ.head refl; from = le_refl start; upto = h; each = λ q x y. refl }
  all_below h (a ∷ acc) e =
      join
      (below (own_on rs k a) a p (parts_out (own_on rs k a) a p
      (and_left (allows rs k p a) (all (allows rs k p) acc) e)))
      (all_below h acc (and_right (allows rs k p a) (all (allows rs k p) acc) e))
    where
      mem : (b : Below (own_on rs k a) a p) (r : AllBelow acc)
          → (max b.end r.end ≡ b.end) ⊎ (max b.end r.end ≡ r.end)
          → max b.end r.end ∈ low_ends rs k start (a ∷ acc)
      mem b r (inl q) = Memᴰ.cast q (Memᴰ.append_left (low_ends rs k start acc) b.member)
      mem b r (inr q) =
          Memᴰ.cast q (Memᴰ.append_right (a.from ∷ map (λ l. l.low) (writes (own_on rs k a))) r.member)

      join : Below (own_on rs k a) a p → AllBelow acc → AllBelow (a ∷ acc)
      join b r =
          record {
            end = max b.end r.end;
            member = mem b r (max_out b.end r.end);
            from = omega (arith, r.from);
            upto = omega (arith, b.upto, r.upto);
            each =
                λ q x y. and_in (parts_in (own_on rs k a) a q (b.each q (omega arith) y)) (r.each q (omega arith) y);
          }

-- upwards: it allows every point from p up to one of its high ends, or every point from p
abbrev reach : List Lock → Access → ℕ
reach ls a = first_free ls a.from LAST - 1

abbrev highs : List Lock → Access → List ℕ
highs ls a = reach ls a ∷ map (λ l. l.high) (writes ls)

record Above (ls : List Lock) (a : Access) (p : ℕ) : Type 0 where
  pub end : ℕ
  pub member : end ∈ highs ls a
  pub from : p ≤ end
  pub each : (q : ℕ) → p ≤ q → q ≤ end → Parts ls a q

above : (ls : List Lock) (a : Access) (p : ℕ) → Parts ls a p → Above ls a p ⊎ ((q : ℕ) → p ≤ q → Parts ls a q)
above ls a p w = go (test (has_written a)) (test (has_read a))
  where
    mem : (l : Lock) → l ∈ writes ls
        → (min (reach ls a) l.high ≡ reach ls a) ⊎ (min (reach ls a) l.high ≡ l.high)
        → min (reach ls a) l.high ∈ highs ls a
    mem l m (inl e) = Memᴰ.head e
    mem l m (inr e) = Memᴰ.tail (Memᴰ.cast e (Memᴰ.map (λ l. l.high) m))

    go : (has_written a ≡ true) ⊎ (has_written a ≡ false) → (has_read a ≡ true) ⊎ (has_read a ≡ false)
        → Above ls a p ⊎ ((q : ℕ) → p ≤ q → Parts ls a q)
    go (inr n) (inr u) = inr (λ q x. unwritten ls a p q w n (omega (arith, w.from)) (λ h. absurd (not_both h u)))
    go (inr n) (inl r) =
        let f = w.upto r in
        inl (record {
          end = reach ls a;
          member = Memᴰ.head refl;
          from = omega arith;
          each = λ q x y. unwritten ls a p q w n (omega (arith, w.from)) (λ h. omega arith);
        })
    go (inl t) (inr u) =
        let c = w.written t in
        inl (record {
          end = c.lock.high;
          member = Memᴰ.tail (Memᴰ.map (λ l. l.high) c.member);
          from = c.under.upto;
          each =
              λ q x y. under ls a p q w c (omega (arith, c.under.from)) y (omega (arith, w.from))
              (λ h. absurd (not_both h u));
        })
    go (inl t) (inl r) =
        let c = w.written t in
        let f = w.upto r in
        inl (record {
          end = min (reach ls a) c.lock.high;
          member = mem c.lock c.member (min_out (reach ls a) c.lock.high);
          from = omega (arith, c.under.upto);
          each =
              λ q x y. under ls a p q w c (omega (arith, c.under.from)) (omega arith) (omega (arith, w.from))
              (λ h. omega arith);
        })

module _ (rs : List Rec) (k p : ℕ) where
  record AllAbove (acc : List Access) : Type 0 where
    pub end : ℕ
    pub member : end ∈ high_ends rs k acc
    pub from : p ≤ end
    pub upto : end ≤ LAST
    pub each : (q : ℕ) → p ≤ q → q ≤ end → all (allows rs k q) acc ≡ true

  all_above : p ≤ LAST → (acc : List Access) → all (allows rs k p) acc ≡ true → AllAbove acc
  unfolding allows
  all_above h [] e =
      record { end = LAST; member = Memᴰ.head refl; from = h; upto = le_refl LAST; each = λ q x y. refl }
  all_above h (a ∷ acc) e =
      join
      (above (own_on rs k a) a p (parts_out (own_on rs k a) a p
      (and_left (allows rs k p a) (all (allows rs k p) acc) e)))
      (all_above h acc (and_right (allows rs k p a) (all (allows rs k p) acc) e))
    where
      mem : (b : Above (own_on rs k a) a p) (r : AllAbove acc)
          → (min b.end r.end ≡ b.end) ⊎ (min b.end r.end ≡ r.end)
          → min b.end r.end ∈ high_ends rs k (a ∷ acc)
      mem b r (inl q) = Memᴰ.cast q (Memᴰ.append_left (high_ends rs k acc) b.member)
      mem b r (inr q) = Memᴰ.cast q (Memᴰ.append_right (highs (own_on rs k a) a) r.member)

      join : Above (own_on rs k a) a p ⊎ ((q : ℕ) → p ≤ q → Parts (own_on rs k a) a q) → AllAbove acc
          → AllAbove (a ∷ acc)
      join (inr b) r =
          record {
            end = r.end;
            member = Memᴰ.append_right (highs (own_on rs k a) a) r.member;
            from = r.from;
            upto = r.upto;
            each = λ q x y. and_in (parts_in (own_on rs k a) a q (b q x)) (r.each q x y);
          }
      join (inl b) r =
          record {
            end = min b.end r.end;
            member = mem b r (min_out b.end r.end);
            from = omega (arith, b.from, r.from);
            upto = omega (arith, r.upto);
            each =
                λ q x y. and_in (parts_in (own_on rs k a) a q (b.each q x (omega arith))) (r.each q x (omega arith));
          }

module _ (rs : List Rec) (k : ℕ) (e : Edit) where
  -- every point of the common set is at or above the earliest, and at or below the latest
  pub earliest_le : (p : ℕ) → InCommonSet rs k e p → earliest rs k e ≤ p
  unfolding earliest
  earliest_le p s =
      let c = common_out rs k e p ((common_set_is rs k e p).1 s) in
      let w = all_below rs k p (lowest e) c.least e.accesses c.each in
      let i =
      common_in rs k e w.end
      (record {
        least = w.from;
        last = omega (arith, w.upto, c.last);
        each = w.each w.end (le_refl w.end) w.upto;
      }) in
      omega (arith, w.upto, least_le (suc LAST) (keep_in (in_common rs k e) w.member i))

  pub latest_ge : (p : ℕ) → InCommonSet rs k e p → p ≤ latest rs k e
  unfolding latest
  latest_ge p s =
      let c = common_out rs k e p ((common_set_is rs k e p).1 s) in
      let w = all_above rs k p c.last e.accesses c.each in
      let i =
      common_in rs k e w.end
      (record {
        least = omega (arith, w.from, c.least);
        last = w.upto;
        each = w.each w.end w.from (le_refl w.end);
      }) in
      omega (arith, w.from, greatest_ge 0 (keep_in (in_common rs k e) w.member i))

pub earliest_is_least : EarliestIsLeast
unfolding earliest
earliest_is_least rs k e = go (least_out (suc LAST) (keep (in_common rs k e) (low_ends rs k (lowest e) e.accesses)))
  where
    go : (earliest rs k e ≡ suc LAST)
        ⊎ (earliest rs k e ∈ keep (in_common rs k e) (low_ends rs k (lowest e) e.accesses))
        → LeastCommon rs k e (earliest rs k e) ⊎ ((earliest rs k e ≡ suc LAST) × EmptyCommonSet rs k e)
    go (inl q) = inr (q, λ p s. omega (arith, earliest_le rs k e p s, s.last))
    go (inr m) =
        inl (record {
          common =
              (common_set_is rs k e (earliest rs k e)).0
              (keep_out (in_common rs k e) (low_ends rs k (lowest e) e.accesses) m).1;
          least = earliest_le rs k e;
        })

pub latest_is_greatest : LatestIsGreatest
unfolding latest
latest_is_greatest rs k e = go (greatest_out 0 (keep (in_common rs k e) (high_ends rs k e.accesses)))
  where
    go : (latest rs k e ≡ 0) ⊎ (latest rs k e ∈ keep (in_common rs k e) (high_ends rs k e.accesses))
        → GreatestCommon rs k e (latest rs k e) ⊎ ((latest rs k e ≡ 0) × EmptyCommonSet rs k e)
    go (inl q) = inr (q, λ p s. omega (arith, latest_ge rs k e p s, s.least))
    go (inr m) =
        inl (record {
          common =
              (common_set_is rs k e (latest rs k e)).0 (keep_out (in_common rs k e) (high_ends rs k e.accesses) m).1;
          greatest = latest_ge rs k e;
        })

pub no_common_is_empty : NoCommonIsEmpty
unfolding no_common
no_common_is_empty s k = (
  λ e. out (ltb-true LAST (earliest s.records k (edit_at s k)) e),
  λ f. back f (earliest_is_least s.records k (edit_at s k)),
)
  where
    out : LAST < earliest s.records k (edit_at s k) → EmptyCommonSet s.records k (edit_at s k)
    out h p c = omega (arith, earliest_le s.records k (edit_at s k) p c, c.last)

    back : EmptyCommonSet s.records k (edit_at s k)
        → LeastCommon s.records k (edit_at s k) (earliest s.records k (edit_at s k))
        ⊎ ((earliest s.records k (edit_at s k) ≡ suc LAST) × EmptyCommonSet s.records k (edit_at s k))
        → ltb LAST (earliest s.records k (edit_at s k)) ≡ true
    back f (inl w) = absurd (f (earliest s.records k (edit_at s k)) w.common)
    back f (inr w) = lt-ltb LAST (earliest s.records k (edit_at s k)) (omega (arith, w.0))
