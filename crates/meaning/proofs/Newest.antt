-- The first version found in a falling list is the newest below the bound, and the version on a point is the one that
-- stands there. Rests on Lists.
use Prim.Native.Nat.{ℕ, suc, ◌≤◌, ◌<◌}
use native.Mathlib.Omega.{arith}
use mathlib.Core.Path.{◌≡◌, refl, sym, ap, ◌∙◌}
use mathlib.Core.Logic.{◌⊎◌, inl, inr}
use mathlib.Core.Bool.{Bool, true, false}
use mathlib.Core.List.Memᴰ
use mathlib.Core.List.{List, [], ◌∷◌}
use lib.Dec.{leb, ltb, eqb}
use borrow.Author.Tests.{leb-true, le-leb, ltb-true, lt-ltb, eqb-true, eq-eqb, ltb-false}
use Rattle.meaning.specs.Lists.{◌∈◌, all, any, find, pairwise}
use Rattle.meaning.specs.Store.{Version, Rec, first, newest_at, newest_below, version_on}
use Rattle.meaning.specs.Sound.{versions_fall}
use Rattle.meaning.specs.Pointwise.{VersionOn, NewestIs, none, one}
use Rattle.meaning.specs.Laws.{NewestBelowIs, NewestAtIs}
use Rattle.meaning.proofs.Lists.{and_left, and_right, test, not_both, any_in, all_out, find_out, pairwise_out}

abbrev later : Version → Version → Bool
later v w = ltb w.point v.point

-- a test that holds of the versions below the bound
module _ (t : Version → Bool) (bound : ℕ) (out : (v : Version) → t v ≡ true → v.point < bound)
    (back : (v : Version) → v.point < bound → t v ≡ true) where
  pub newest_found : (vs : List Version) → pairwise later vs ≡ true → NewestIs vs bound (find t first vs)
  newest_found [] falls = none refl (λ w m. absurd (Memᴰ.not-nil m))
  newest_found (v ∷ vs) falls =
      go (test (t v)) (newest_found vs (and_right (all (later v) vs) (pairwise later vs) falls))
    where
      -- every later version is below v
      below : (w : Version) → w ∈ vs → w.point < v.point
      below w m =
          ltb-true w.point v.point
          (all_out (later v) vs (and_left (all (later v) vs) (pairwise later vs) falls) w m)

      greatest : (w : Version) → (w ≡ v) ⊎ (w ∈ vs) → w.point ≤ v.point
      greatest w (inl e) = omega (arith, ap (λ (u : Version). u.point) e)
      greatest w (inr m) = omega (arith, below w m)

      -- v itself is not below the bound
      past : t v ≡ false → (w : Version) → w ≡ v → w.point < bound → ⊥
      past q w e h = not_both (back v (rw e at h)) q

      rest : t v ≡ false → NewestIs vs bound (find t first vs) → NewestIs (v ∷ vs) bound (find t first vs)
      rest q (none e f) = none e (λ w m. at_least w (Memᴰ.cases_cons m))
        where
          at_least : (w : Version) → (w ≡ v) ⊎ (w ∈ vs) → bound ≤ w.point
          at_least w (inl n) = over (test (ltb w.point bound))
            where
              over : (ltb w.point bound ≡ true) ⊎ (ltb w.point bound ≡ false) → bound ≤ w.point
              over (inl h) = absurd (past q w n (ltb-true w.point bound h))
              over (inr h) = ltb-false w.point bound h
          at_least w (inr n) = f w n
      rest q (one i h g) = one (Memᴰ.tail i) h (λ w m b. at_most w b (Memᴰ.cases_cons m))
        where
          at_most : (w : Version) → w.point < bound → (w ≡ v) ⊎ (w ∈ vs) → w.point ≤ (find t first vs).point
          at_most w b (inl n) = absurd (past q w n b)
          at_most w b (inr n) = g w n b

      go : (t v ≡ true) ⊎ (t v ≡ false) → NewestIs vs bound (find t first vs)
          → NewestIs (v ∷ vs) bound (find t first (v ∷ vs))
      go (inl q) ih = rw q (one (Memᴰ.head refl) (out v q) (λ w m h. greatest w (Memᴰ.cases_cons m)))
      go (inr q) ih = rw q (rest q ih)

pub newest_below_is : NewestBelowIs
unfolding versions_fall newest_below
newest_below_is x m falls =
    newest_found (λ v. ltb v.point m) m (λ v e. ltb-true v.point m e) (λ v h. lt-ltb v.point m h) x.versions
    falls

pub newest_at_is : NewestAtIs
unfolding versions_fall newest_at
newest_at_is x p falls =
    newest_found (λ v. leb v.point p) (suc p) (λ v e. let h = leb-true v.point p e in omega arith)
    (λ v h. le-leb v.point p (omega arith))
    x.versions falls

-- versions of a falling list have points of their own
pub falls_once : (x : Rec) → versions_fall x ≡ true → {v w : Version} → v ∈ x.versions → w ∈ x.versions
    → v.point ≡ w.point → v ≡ w
unfolding versions_fall
falls_once x falls {v} {w} m n q = go (pairwise_out later x.versions falls m n)
  where
    go : (v ≡ w) ⊎ ((ltb w.point v.point ≡ true) ⊎ (ltb v.point w.point ≡ true)) → v ≡ w
    go (inl e) = e
    go (inr (inl e)) = absurd (omega (arith, ltb-true w.point v.point e))
    go (inr (inr e)) = absurd (omega (arith, ltb-true v.point w.point e))

-- where a version stands on p, version_on finds one that does, and in a falling list that one
pub version_on_stands : (x : Rec) (p : ℕ) → VersionOn x p
    → (version_on x.versions p ∈ x.versions) × ((version_on x.versions p).point ≡ p)
unfolding version_on
version_on_stands x p b = go (find_out on first x.versions)
  where
    on : Version → Bool
    on v = eqb v.point p

    go : ((find on first x.versions ≡ first) × (any on x.versions ≡ false))
        ⊎ ((find on first x.versions ∈ x.versions) × (on (find on first x.versions) ≡ true))
        → (find on first x.versions ∈ x.versions) × ((find on first x.versions).point ≡ p)
    go (inl w) = absurd (not_both (any_in on b.member (eq-eqb b.version.point p b.stands)) w.1)
    go (inr w) = (w.0, eqb-true (find on first x.versions).point p w.1)

pub version_on_is : (x : Rec) (p : ℕ) → versions_fall x ≡ true → {v : Version} → v ∈ x.versions → v.point ≡ p
    → version_on x.versions p ≡ v
version_on_is x p falls {v} m q =
    let w = version_on_stands x p (record { version = v; member = m; stands = q }) in
    falls_once x falls w.0 m (w.1 ∙ sym q)

-- what is the newest version has one point
pub newest_one : {vs : List Version} {bound : ℕ} {v w : Version} → NewestIs vs bound v → NewestIs vs bound w
    → v.point ≡ w.point
newest_one (none e f) (none q g) = ap (λ (v : Version). v.point) e ∙ sym (ap (λ (v : Version). v.point) q)
newest_one {w = w} (none e f) (one m l g) = absurd (omega (arith, f w m))
newest_one {v = v} (one m l g) (none e f) = absurd (omega (arith, f v m))
newest_one {v = v} {w} (one m l f) (one n k g) = omega (arith, f w n k, g v m l)

-- it lies below a bound above 0
pub newest_below_lem : {vs : List Version} {bound : ℕ} {v : Version} → NewestIs vs bound v → 0 < bound → v.point < bound
newest_below_lem (none e f) h = omega (arith, ap (λ (v : Version). v.point) e)
newest_below_lem (one m l f) h = l
