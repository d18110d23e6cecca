-- The two ends of the common set: the least and the greatest point that all accesses allow, and how the greatest is the
-- least by its distance from LAST + 1. Rests on CommonSet and CommonEnds of the crate `meaning`.
use Prim.Native.Nat.{ℕ, suc, ◌-◌, ◌≤◌}
use mathlib.Core.Path.{◌≡◌, refl, sym, subst}
use mathlib.Core.Logic.{◌⊎◌, inl, inr}
use mathlib.Core.Bool.{Bool, true, false}
use mathlib.Core.List.{List}
use native.Mathlib.Omega.{arith}
use lib.Dec.{leb}
use borrow.Author.Tests.{leb-true, leb-false, le-leb}
use Rattle.types.specs.Limits.{LAST}
use Rattle.meaning.specs.Lists.{all}
use Rattle.meaning.specs.Points.{allows, earliest, latest}
use Rattle.meaning.specs.Store.{Rec, Edit}
use Rattle.meaning.specs.Pointwise.{LeastCommon, GreatestCommon, EmptyCommonSet}
use Rattle.meaning.proofs.Lists.{test}
use Rattle.meaning.proofs.CommonSet.{common_out, common_in, common_set_is}
use Rattle.meaning.proofs.CommonEnds.{earliest_is_least, latest_is_greatest}
use Rattle.std.specs.Prelude.{Option, None, Some}
use Rattle.blocking.specs.Search.{upto}
use Rattle.common.specs.Commit.{LeastFrom, GreatestTo, NextFrom, positive}

-- The least point that all accesses allow is the earliest
pub is_earliest : (rs : List Rec) (k : ℕ) (e : Edit) {p : ℕ} → LeastFrom (λ x. all (allows rs k x) e.accesses) 1 p
    → p ≡ earliest rs k e
is_earliest rs k e {p} i = go (earliest_is_least rs k e) (test (leb p LAST))
  where
    least_of : LeastCommon rs k e (earliest rs k e) → p ≡ earliest rs k e
    least_of w =
        let m = common_out rs k e (earliest rs k e) ((common_set_is rs k e (earliest rs k e)).1 w.common) in
        let f : p ≤ earliest rs k e = below m.least m.each (test (leb p (earliest rs k e))) in
        let n =
        common_in rs k e p
        (record { least = i.from; last = omega (arith, m.last); each = i.inside (omega (arith, m.last)) }) in
        omega (arith, w.least p ((common_set_is rs k e p).0 n))
      where
        below : 1 ≤ earliest rs k e → all (allows rs k (earliest rs k e)) e.accesses ≡ true
            → (leb p (earliest rs k e) ≡ true) ⊎ (leb p (earliest rs k e) ≡ false)
            → p ≤ earliest rs k e
        below l t (inl u) = leb-true p (earliest rs k e) u
        below l t (inr u) = absurd (i.least (earliest rs k e) l (leb-false p (earliest rs k e) u) t)

    go : LeastCommon rs k e (earliest rs k e) ⊎ ((earliest rs k e ≡ suc LAST) × EmptyCommonSet rs k e)
        → (leb p LAST ≡ true) ⊎ (leb p LAST ≡ false)
        → p ≡ earliest rs k e
    go (inl w) t = least_of w
    go (inr w) (inl t) =
        let l = leb-true p LAST t in
        absurd (w.1 p
        ((common_set_is rs k e p).0 (common_in rs k e p (record { least = i.from; last = l; each = i.inside l }))))
    go (inr w) (inr t) = omega (arith, i.top, leb-false p LAST t, w.0)

-- The greatest point that all accesses allow is the latest
pub is_latest : (rs : List Rec) (k : ℕ) (e : Edit) {p : ℕ} → GreatestTo (λ x. all (allows rs k x) e.accesses) LAST p
    → p ≡ latest rs k e
is_latest rs k e {p} i = go (latest_is_greatest rs k e) (test (leb 1 p))
  where
    greatest_of : GreatestCommon rs k e (latest rs k e) → p ≡ latest rs k e
    greatest_of w =
        let m = common_out rs k e (latest rs k e) ((common_set_is rs k e (latest rs k e)).1 w.common) in
        let f : latest rs k e ≤ p = above m.last m.each (test (leb (latest rs k e) p)) in
        let n =
        common_in rs k e p
        (record { least = omega (arith, m.least); last = i.upto; each = i.inside (omega (arith, m.least)) }) in
        omega (arith, w.greatest p ((common_set_is rs k e p).0 n))
      where
        above : latest rs k e ≤ LAST → all (allows rs k (latest rs k e)) e.accesses ≡ true
            → (leb (latest rs k e) p ≡ true) ⊎ (leb (latest rs k e) p ≡ false)
            → latest rs k e ≤ p
        above l t (inl u) = leb-true (latest rs k e) p u
        above l t (inr u) = absurd (i.greatest (latest rs k e) (leb-false (latest rs k e) p u) l t)

    go : GreatestCommon rs k e (latest rs k e) ⊎ ((latest rs k e ≡ 0) × EmptyCommonSet rs k e)
        → (leb 1 p ≡ true) ⊎ (leb 1 p ≡ false)
        → p ≡ latest rs k e
    go (inl w) t = greatest_of w
    go (inr w) (inl t) =
        let l = leb-true 1 p t in
        absurd (w.1 p
        ((common_set_is rs k e p).0 (common_in rs k e p (record { least = l; last = i.upto; each = i.inside l }))))
    go (inr w) (inr t) = omega (arith, leb-false 1 p t, w.0)

-- Distances from LAST + 1: the greatest point is at the least distance
twice : (x : ℕ) → x ≤ suc LAST → suc LAST - (suc LAST - x) ≡ x
twice x h = omega arith

module _ {set : ℕ → Bool} where
  pub greatest_point : {d : ℕ} → LeastFrom (λ x. set (suc LAST - x)) 1 d → GreatestTo set LAST (suc LAST - d)
  greatest_point {d} i =
      record {
        upto = omega (arith, i.from);
        inside = λ l. i.inside (omega arith);
        greatest = λ x f g e.
            i.least (suc LAST - x) (omega arith) (omega (arith, i.top))
            (subst (λ y. set y ≡ true) (sym (twice x (omega arith))) e);
      }

-- The answers of the code
module _ (rs : List Rec) (k : ℕ) (e : Edit) where
  pub earliest_is : (r : Option ℕ) → NextFrom (λ x. all (allows rs k x) e.accesses) 1 r
      → r ≡ upto LAST (earliest rs k e)
  earliest_is None i = rw (sym (is_earliest rs k e i)) refl
  earliest_is (Some q) i = rw (sym (is_earliest rs k e i.0), le-leb q LAST i.1) refl

  abbrev set : ℕ → Bool
  set x = all (allows rs k x) e.accesses

  from_above : {d : ℕ} → LeastFrom (λ x. set (suc LAST - x)) 1 d → suc LAST - d ≡ latest rs k e
  from_above i = is_latest rs k e (greatest_point {set = set} i)

  pub latest_none : LeastFrom (λ x. set (suc LAST - x)) 1 (suc LAST) → None ≡ positive (latest rs k e)
  latest_none i =
      let z : latest rs k e ≡ 0 = omega (arith, from_above i) in rw z refl

  pub latest_some : {d : ℕ} → LeastFrom (λ x. set (suc LAST - x)) 1 d × (d ≤ LAST)
      → Some (suc LAST - d) ≡ positive (latest rs k e)
  latest_some {d} i =
      let z = i.1 in rw (sym (from_above i.0), le-leb 1 (suc LAST - d) (omega arith)) refl
