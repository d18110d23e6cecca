-- The clauses on a record's versions are what the loop over them tests: a strict fall to the floor. Rests on Lists of
-- the crate `meaning`.
use Prim.Native.Nat.{ℕ, suc, ◌≤◌, ◌<◌}
use mathlib.Core.Path.{◌≡◌, refl}
use mathlib.Core.Logic.{◌⊎◌, inl, inr}
use mathlib.Core.Bool.{true, ◌&&◌, ◌||◌, false≢true}
use mathlib.Core.List.Memᴰ
use mathlib.Core.List.{List, [], ◌∷◌}
use native.Mathlib.Omega.{arith}
use lib.Dec.{leb, ltb, eqb}
use borrow.Author.Tests.{leb-true, le-leb, ltb-true, lt-ltb, eqb-true, eq-eqb}
use Rattle.meaning.specs.Lists.{◌∈◌, all, pairwise}
use Rattle.types.specs.Limits.{LAST}
use Rattle.meaning.specs.Store.{Rec}
use Rattle.meaning.specs.Sound.{versions_fall, versions_lie, ends_at, versions_end, none_at_zero}
use Rattle.types.specs.declared.Version.{Version}
use Rattle.meaning.proofs.Lists.{and_in, and_left, and_right, or_out, or_left, or_right, all_in, all_out}
use Rattle.clauses.specs.Clauses.{falls_below, ends_on, falls_to, versions_sound}

-- versions that fall from below top to the floor
record Falls (floor top : ℕ) (vs : List Version) : Type 0 where
  below : (v : Version) → v ∈ vs → v.point < top
  low : (v : Version) → v ∈ vs → floor ≤ v.point
  nonzero : (v : Version) → v ∈ vs → 0 < v.point
  falls : pairwise (λ v u. ltb u.point v.point) vs ≡ true
  end : (floor ≡ 0) ⊎ ((ends_at floor vs ≡ true) ⊎ ((vs ≡ []) × (top ≡ floor)))

step_out : (floor top p : ℕ) → falls_below floor top p ≡ true → (p < top) × (floor ≤ p) × (0 < p)
unfolding falls_below
step_out floor top p e =
    let d = and_right (ltb p top) (leb floor p && ltb 0 p) e in (
      ltb-true p top (and_left (ltb p top) (leb floor p && ltb 0 p) e),
      leb-true floor p (and_left (leb floor p) (ltb 0 p) d),
      ltb-true 0 p (and_right (leb floor p) (ltb 0 p) d),
    )

step_in : (floor top p : ℕ) → p < top → floor ≤ p → 0 < p → falls_below floor top p ≡ true
unfolding falls_below
step_in floor top p a b d = and_in (lt-ltb p top a) (and_in (le-leb floor p b) (lt-ltb 0 p d))

falls_out : (floor top : ℕ) (vs : List Version) → falls_to floor top vs ≡ true → Falls floor top vs
unfolding falls_to
falls_out floor top [] h =
    record {
      below = λ v m. absurd (Memᴰ.not-nil m);
      low = λ v m. absurd (Memᴰ.not-nil m);
      nonzero = λ v m. absurd (Memᴰ.not-nil m);
      falls = refl;
      end = go (or_out (eqb floor 0) (eqb top floor) h);
    }
  where
    go : (eqb floor 0 ≡ true) ⊎ (eqb top floor ≡ true)
        → (floor ≡ 0) ⊎ ((ends_at floor [] ≡ true) ⊎ ((◌≡◌ {A = List Version} [] []) × (top ≡ floor)))
    go (inl e) = inl (eqb-true floor 0 e)
    go (inr e) = inr (inr (refl, eqb-true top floor e))
falls_out floor top (u ∷ us) h =
    go (step_out floor top u.point (and_left (falls_below floor top u.point) _ h))
    (falls_out floor u.point us (and_right (falls_below floor top u.point) _ h))
  where
    last : (vs : List Version) → (ends_at floor vs ≡ true) ⊎ ((vs ≡ []) × (u.point ≡ floor))
        → ends_at floor (u ∷ vs) ≡ true
    last [] (inl e) = absurd (false≢true e)
    last [] (inr e) = eq-eqb u.point floor e.1
    last (v ∷ vs) (inl e) = e
    last (v ∷ vs) (inr e) = absurd (nonempty e.0)
      where
        nonempty : v ∷ vs ≡ [] → ⊥
        nonempty z = let q : ◌≡◌ {A = ℕ} 0 1 = cc in omega arith

    go : (u.point < top) × (floor ≤ u.point) × (0 < u.point) → Falls floor u.point us → Falls floor top (u ∷ us)
    go s f =
        record {
          below = λ v m. below v (Memᴰ.cases_cons m);
          low = λ v m. low v (Memᴰ.cases_cons m);
          nonzero = λ v m. nonzero v (Memᴰ.cases_cons m);
          falls =
              and_in (all_in (λ v. ltb v.point u.point) us (λ v m. lt-ltb v.point u.point (f.below v m)))
              f.falls;
          end = end f.end;
        }
      where
        below : (v : Version) → (v ≡ u) ⊎ (v ∈ us) → v.point < top
        below v (inl q) = rw q s.0
        below v (inr m) = omega (arith, f.below v m, s.0)

        low : (v : Version) → (v ≡ u) ⊎ (v ∈ us) → floor ≤ v.point
        low v (inl q) = rw q s.1
        low v (inr m) = f.low v m

        nonzero : (v : Version) → (v ≡ u) ⊎ (v ∈ us) → 0 < v.point
        nonzero v (inl q) = rw q s.2
        nonzero v (inr m) = f.nonzero v m

        end : (floor ≡ 0) ⊎ ((ends_at floor us ≡ true) ⊎ ((us ≡ []) × (u.point ≡ floor)))
            → (floor ≡ 0) ⊎ ((ends_at floor (u ∷ us) ≡ true) ⊎ ((u ∷ us ≡ []) × (top ≡ floor)))
        end (inl e) = inl e
        end (inr e) = inr (inl (last us e))

-- the same from the clauses
falls_in : (floor top : ℕ) (vs : List Version) → ((v : Version) → v ∈ vs → v.point < top)
    → ((v : Version) → v ∈ vs → floor ≤ v.point) → ((v : Version) → v ∈ vs → 0 < v.point)
    → pairwise (λ v u. ltb u.point v.point) vs ≡ true
    → (floor ≡ 0) ⊎ ((ends_at floor vs ≡ true) ⊎ ((vs ≡ []) × (top ≡ floor))) → falls_to floor top vs ≡ true
unfolding falls_to
falls_in floor top [] below low nonzero falls end = go end
  where
    go : (floor ≡ 0) ⊎ ((ends_at floor [] ≡ true) ⊎ ((◌≡◌ {A = List Version} [] []) × (top ≡ floor)))
        → ends_on floor top ≡ true
    go (inl e) = or_left (eqb top floor) (eq-eqb floor 0 e)
    go (inr (inl e)) = absurd (false≢true e)
    go (inr (inr e)) = or_right (eqb floor 0) (eq-eqb top floor e.1)
falls_in floor top (u ∷ us) below low nonzero falls end =
    and_in (step_in floor top u.point (below u (Memᴰ.head refl)) (low u (Memᴰ.head refl))
    (nonzero u (Memᴰ.head refl)))
    (falls_in floor u.point us
    (λ v m. ltb-true v.point u.point
    (all_out (λ v. ltb v.point u.point) us (and_left (all (λ v. ltb v.point u.point) us) _ falls) v m))
    (λ v m. low v (Memᴰ.tail m))
    (λ v m. nonzero v (Memᴰ.tail m))
    (and_right (all (λ v. ltb v.point u.point) us) _ falls)
    (rest us end))
  where
    rest : (vs : List Version) → (floor ≡ 0) ⊎ ((ends_at floor (u ∷ vs) ≡ true) ⊎ ((u ∷ vs ≡ []) × (top ≡ floor)))
        → (floor ≡ 0) ⊎ ((ends_at floor vs ≡ true) ⊎ ((vs ≡ []) × (u.point ≡ floor)))
    rest vs (inl e) = inl e
    rest [] (inr (inl e)) = inr (inr (refl, eqb-true u.point floor e))
    rest (v ∷ vs) (inr (inl e)) = inr (inl e)
    rest vs (inr (inr e)) = absurd (nonempty vs e.0)
      where
        nonempty : (vs : List Version) → u ∷ vs ≡ [] → ⊥
        nonempty vs z = let q : ◌≡◌ {A = ℕ} 0 1 = cc in omega arith

-- the four clauses on a record's versions
pub record Versions (x : Rec) : Type 0 where
  pub fall : versions_fall x ≡ true
  pub lie : versions_lie x ≡ true
  pub end : versions_end x ≡ true
  pub nonzero : none_at_zero x ≡ true

pub versions_out : (x : Rec) → versions_sound x ≡ true → Versions x
unfolding versions_sound versions_fall versions_lie versions_end none_at_zero
versions_out x h =
    let f = falls_out x.floor (suc LAST) x.versions (and_right (leb x.floor LAST) _ h) in
    let top = leb-true x.floor LAST (and_left (leb x.floor LAST) _ h) in
    record {
      fall = f.falls;
      lie =
          all_in (λ v. leb x.floor v.point && leb v.point LAST) x.versions
          (λ v m. and_in (le-leb x.floor v.point (f.low v m))
          (le-leb v.point LAST (omega (arith, f.below v m))));
      end = end f.end top;
      nonzero = all_in (λ v. ltb 0 v.point) x.versions (λ v m. lt-ltb 0 v.point (f.nonzero v m));
    }
  where
    end : (x.floor ≡ 0) ⊎ ((ends_at x.floor x.versions ≡ true) ⊎ ((x.versions ≡ []) × (suc LAST ≡ x.floor)))
        → x.floor ≤ LAST → (eqb x.floor 0 || ends_at x.floor x.versions) ≡ true
    end (inl e) l = or_left (ends_at x.floor x.versions) (eq-eqb x.floor 0 e)
    end (inr (inl e)) l = or_right (eqb x.floor 0) e
    end (inr (inr e)) l = absurd (omega (arith, e.1))

-- the floor of such a record is a point
floor_last : (floor : ℕ) (vs : List Version) → ((v : Version) → v ∈ vs → v.point ≤ LAST) → ends_at floor vs ≡ true
    → floor ≤ LAST
floor_last floor [] high e = absurd (false≢true e)
floor_last floor (v ∷ []) high e = omega (arith, eqb-true v.point floor e, high v (Memᴰ.head refl))
floor_last floor (v ∷ u ∷ us) high e = floor_last floor (u ∷ us) (λ y m. high y (Memᴰ.tail m)) e

pub versions_in : (x : Rec) → Versions x → versions_sound x ≡ true
unfolding versions_sound versions_fall versions_lie versions_end none_at_zero
versions_in x s =
    and_in (le-leb x.floor LAST (floor (or_out (eqb x.floor 0) (ends_at x.floor x.versions) s.end)))
    (falls_in x.floor (suc LAST) x.versions (λ v m. omega (arith, high v m)) low
    (λ v m. ltb-true 0 v.point (all_out (λ v. ltb 0 v.point) x.versions s.nonzero v m))
    s.fall
    (end (or_out (eqb x.floor 0) (ends_at x.floor x.versions) s.end)))
  where
    lies : (v : Version) → v ∈ x.versions → (leb x.floor v.point && leb v.point LAST) ≡ true
    lies v m = all_out (λ v. leb x.floor v.point && leb v.point LAST) x.versions s.lie v m

    low : (v : Version) → v ∈ x.versions → x.floor ≤ v.point
    low v m = leb-true x.floor v.point (and_left (leb x.floor v.point) (leb v.point LAST) (lies v m))

    high : (v : Version) → v ∈ x.versions → v.point ≤ LAST
    high v m = leb-true v.point LAST (and_right (leb x.floor v.point) (leb v.point LAST) (lies v m))

    floor : (eqb x.floor 0 ≡ true) ⊎ (ends_at x.floor x.versions ≡ true) → x.floor ≤ LAST
    floor (inl e) = omega (arith, eqb-true x.floor 0 e)
    floor (inr e) = floor_last x.floor x.versions high e

    end : (eqb x.floor 0 ≡ true) ⊎ (ends_at x.floor x.versions ≡ true)
        → (x.floor ≡ 0) ⊎ ((ends_at x.floor x.versions ≡ true) ⊎ ((x.versions ≡ []) × (suc LAST ≡ x.floor)))
    end (inl e) = inl (eqb-true x.floor 0 e)
    end (inr e) = inr (inl e)
