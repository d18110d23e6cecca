-- What the answer of a search for the first row that passes a test says: the row found passes and splits the list, and
-- 0 means that no row passes. Rests on Occurs.
use Prim.Native.Nat.{ℕ, ◌≤◌}
use mathlib.Core.Path.{◌≡◌, refl, ap, ◌∙◌, sym}
use mathlib.Core.Bool.{Bool, true, false}
use mathlib.Core.List.{List, [], ◌∷◌, ◌++◌}
use native.Mathlib.Omega.{arith}
use native.Mathlib.Decide.{ℕ_discrete}
use Rattle.chains.specs.Lists.{occ, first_of}
use Rattle.chains.proofs.Occurs.{occ_nil, occ_other, occ_here, occ_there}

-- r passes, and no row before it does
pub record Found (p : ℕ → Bool) (rs : List ℕ) (r : ℕ) : Type 0 where
  pub before : List ℕ
  pub beyond : List ℕ
  pub parts : rs ≡ before ++ r ∷ beyond
  pub passes : p r ≡ true
  pub none : (i : ℕ) → 1 ≤ occ i before → p i ≡ false

module _ (p : ℕ → Bool) where
  first_hit : (x : ℕ) (xs : List ℕ) → p x ≡ true → first_of p (x ∷ xs) ≡ x
  unfolding first_of
  first_hit x xs e = rw (e, first_of)

  first_miss : (x : ℕ) (xs : List ℕ) → p x ≡ false → first_of p (x ∷ xs) ≡ first_of p xs
  unfolding first_of
  first_miss x xs e = rw (e, first_of)

  here_or_there : (x : ℕ) (xs : List ℕ) → p x ≡ false → ((i : ℕ) → 1 ≤ occ i xs → p i ≡ false) → (i : ℕ)
      → 1 ≤ occ i (x ∷ xs) → p i ≡ false
  here_or_there x xs e h i o =
      elim (ℕ_discrete i x) [ yes q ↦ ap p q ∙ e | no q ↦ h i (omega (arith, occ_other i x xs q)) ]

  pub first_found : (rs : List ℕ) (r : ℕ) → r ≡ first_of p rs → 1 ≤ r → Found p rs r
  unfolding first_of
  first_found [] r e l = absurd (omega arith)
  first_found (x ∷ xs) r e l = go (p x) refl (first_found xs r)
    where
      go : (b : Bool) → p x ≡ b → (r ≡ first_of p xs → 1 ≤ r → Found p xs r) → Found p (x ∷ xs) r
      go true k ih =
          let q : r ≡ x = e ∙ first_hit x xs k in
          record {
            before = [];
            beyond = xs;
            parts = ap (λ y. y ∷ xs) (sym q);
            passes = ap p q ∙ k;
            none = λ i o. absurd (omega (arith, occ_nil i));
          }
      go false k ih =
          let f = ih (e ∙ first_miss x xs k) l in
          record {
            before = x ∷ f.before;
            beyond = f.beyond;
            parts = ap (λ y. x ∷ y) f.parts;
            passes = f.passes;
            none = here_or_there x f.before k f.none;
          }

  -- rows are not 0
  pub first_none : (rs : List ℕ) → ((i : ℕ) → 1 ≤ occ i rs → 1 ≤ i) → first_of p rs ≡ 0 → (i : ℕ) → 1 ≤ occ i rs
      → p i ≡ false
  first_none [] h e = λ i o. absurd (omega (arith, occ_nil i))
  first_none (x ∷ xs) h e = go (p x) refl (first_none xs (λ i o. h i (omega (arith, occ_there i x xs))))
    where
      go : (b : Bool) → p x ≡ b → (first_of p xs ≡ 0 → (i : ℕ) → 1 ≤ occ i xs → p i ≡ false) → (i : ℕ)
          → 1 ≤ occ i (x ∷ xs) → p i ≡ false
      go true k ih i o = absurd (omega (arith, h x (occ_here x xs), sym (first_hit x xs k) ∙ e))
      go false k ih i o = here_or_there x xs k (ih (sym (first_miss x xs k) ∙ e)) i o
