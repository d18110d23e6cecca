-- How often a row stands in a list, and the last row of a list. Rests on nothing.
use Prim.Native.Nat.{ℕ, suc, ◌+◌, ◌≤◌}
use mathlib.Core.Path.{◌≡◌, refl, ap}
use mathlib.Core.List.{List, [], ◌∷◌, ◌++◌}
use native.Mathlib.Omega.{arith}
use native.Mathlib.Decide.{ℕ_discrete}
use borrow.Author.Tests.{eq-eqb, ne_eqb}
use Rattle.chains.specs.Lists.{occ, first, last_or}

pub occ_nil : (r : ℕ) → occ r [] ≡ 0
unfolding occ
occ_nil r = refl

pub occ_same : (r : ℕ) (xs : List ℕ) → occ r (r ∷ xs) ≡ suc (occ r xs)
unfolding occ
occ_same r xs = rw (eq-eqb r r refl, occ)

pub occ_other : (r x : ℕ) (xs : List ℕ) → (r ≡ x → ⊥) → occ r (x ∷ xs) ≡ occ r xs
unfolding occ
occ_other r x xs h = rw (ne_eqb r x h, occ)

pub occ_here : (r : ℕ) (rs : List ℕ) → 1 ≤ occ r (r ∷ rs)
occ_here r rs = omega (arith, occ_same r rs)

pub occ_there : (x r : ℕ) (rs : List ℕ) → occ x rs ≤ occ x (r ∷ rs)
occ_there x r rs =
    elim (ℕ_discrete x r) [ yes p ↦ rw p (omega (arith, occ_same r rs)) | no p ↦ omega (arith, occ_other x r rs p) ]

pub occ_append : (x : ℕ) (xs ys : List ℕ) → occ x (xs ++ ys) ≡ occ x xs + occ x ys
occ_append x [] ys = omega (arith, occ_nil x)
occ_append x (y ∷ xs) ys = elim (ℕ_discrete x y) [
  | yes p ↦ rw p (omega (arith, occ_same y xs, occ_same y (xs ++ ys), occ_append y xs ys))
  | no p ↦ omega (arith, occ_other x y xs p, occ_other x y (xs ++ ys) p, occ_append x xs ys)
]

-- a row passed from one list to another
pub occ_swap : (x r : ℕ) (ys zs : List ℕ) → occ x ys + occ x (r ∷ zs) ≡ occ x (r ∷ ys) + occ x zs
occ_swap x r ys zs =
    elim (ℕ_discrete x r) [
      | yes p ↦ rw p (omega (arith, occ_same r ys, occ_same r zs))
      | no p ↦ omega (arith, occ_other x r ys p, occ_other x r zs p)
    ]

-- the last row is in the list
pub last_in : (k : ℕ) (ks : List ℕ) → 1 ≤ occ (last_or k ks) (k ∷ ks)
unfolding last_or
last_in k [] = occ_here k []
last_in k (x ∷ ks) = omega (arith, last_in x ks, occ_there (last_or x ks) k (x ∷ ks))

pub last_occ : (ks : List ℕ) (x : ℕ) → 1 ≤ x → x ≡ last_or 0 ks → 1 ≤ occ x ks
unfolding last_or
last_occ [] x l e = absurd (omega arith)
last_occ (k ∷ ks) x l e = rw e (last_in k ks)

pub last_snoc : (d : ℕ) (ks : List ℕ) (r : ℕ) → last_or d (ks ++ (r ∷ [])) ≡ r
unfolding last_or
last_snoc d [] r = refl
last_snoc d (k ∷ ks) r = last_snoc k ks r

pub snoc : (ks : List ℕ) (r : ℕ) (ys : List ℕ) → ks ++ r ∷ ys ≡ (ks ++ (r ∷ [])) ++ ys
snoc [] r ys = refl
snoc (k ∷ ks) r ys = ap (λ l. k ∷ l) (snoc ks r ys)

-- a list whose first row is not 0 starts with it
pub cons_of : (rs : List ℕ) (x : ℕ) → x ≡ first rs → 1 ≤ x → (ys : List ℕ) × (rs ≡ x ∷ ys)
unfolding first
cons_of [] x e l = absurd (omega arith)
cons_of (r ∷ rs) x e l = (rs, rw e)
