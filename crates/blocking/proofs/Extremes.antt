-- Folds that keep the greatest or the least of some numbers of the entries that pass two tests, and the turns of a walk
-- that may stop. Rests on Lists of `meaning`.
use Prim.Native.Nat.{ℕ, min, max}
use mathlib.Core.Path.{◌≡◌, refl, sym, ap, ◌∙◌}
use mathlib.Core.Bool.{Bool, true, false, cond, ◌&&◌, ◌||◌}
use mathlib.Core.List.{List, [], ◌∷◌, map}
use Rattle.std.specs.List.{fold}
use Rattle.meaning.proofs.Lists.{least_shift, greatest_shift}
use Rattle.meaning.specs.Lists.{any, keep, least, greatest}

greatest_turn : (t : Bool) (b x : ℕ) (xs : List ℕ) → greatest b (cond t (x ∷ xs) xs) ≡ greatest (cond t (max b x) b) xs
greatest_turn true b x xs = sym (greatest_shift b x xs)
greatest_turn false b x xs = refl

least_turn : (t : Bool) (b x : ℕ) (xs : List ℕ) → least b (cond t (x ∷ xs) xs) ≡ least (cond t (min b x) b) xs
least_turn true b x xs = sym (least_shift b x xs)
least_turn false b x xs = refl

-- the numbers v of the entries that pass p and q
module _ {A : Type 0} (p q : A → Bool) (v : A → ℕ) where
  abbrev pub valued : List A → List ℕ
  valued xs = map v (keep p (keep q xs))

  valued_turn : (x : A) (xs : List A) → valued (x ∷ xs) ≡ cond (q x && p x) (v x ∷ valued xs) (valued xs)
  valued_turn x xs = go (q x)
    where
      one : (b : Bool)
          → map v (cond b (x ∷ keep p (keep q xs)) (keep p (keep q xs))) ≡ cond b (v x ∷ valued xs) (valued xs)
      one true = refl
      one false = refl

      go : (a : Bool)
          → map v (keep p (cond a (x ∷ keep q xs) (keep q xs))) ≡ cond (a && p x) (v x ∷ valued xs) (valued xs)
      go true = one (p x)
      go false = refl

  -- a fold that keeps the best so far
  pub fold_greatest : (b : ℕ) (xs : List A)
      → fold (λ b x. cond (q x && p x) (max b (v x)) b) b xs ≡ greatest b (valued xs)
  fold_greatest b [] = refl
  fold_greatest b (x ∷ xs) =
      fold_greatest (cond (q x && p x) (max b (v x)) b) xs
      ∙ sym (ap (greatest b) (valued_turn x xs) ∙ greatest_turn (q x && p x) b (v x) (valued xs))

  pub fold_least : (b : ℕ) (xs : List A) → fold (λ b x. cond (q x && p x) (min b (v x)) b) b xs ≡ least b (valued xs)
  fold_least b [] = refl
  fold_least b (x ∷ xs) =
      fold_least (cond (q x && p x) (min b (v x)) b) xs
      ∙ sym (ap (least b) (valued_turn x xs) ∙ least_turn (q x && p x) b (v x) (valued xs))

-- one turn of a walk that stops where t says so: b is the best so far, z what it finds from the next entry on
pub turn_stops : {A : Type 0} {t : Bool} {answer : A} (b z : A) → cond t b z ≡ answer → t ≡ true → b ≡ answer
turn_stops b z i e = sym (ap (λ u. cond u b z) e) ∙ i

pub turn_goes : {A : Type 0} {t : Bool} {answer : A} (b z : A) → cond t b z ≡ answer → t ≡ false → z ≡ answer
turn_goes b z i e = sym (ap (λ u. cond u b z) e) ∙ i

-- a kept list of a kept list, and a test of a kept list
module _ {A : Type 0} (p q : A → Bool) where
  pub keep_keep : (xs : List A) → keep p (keep q xs) ≡ keep (λ x. q x && p x) xs
  keep_keep [] = refl
  keep_keep (x ∷ xs) = go (q x) (keep_keep xs)
    where
      one : (b : Bool) → keep p (keep q xs) ≡ keep (λ x. q x && p x) xs
          → cond b (x ∷ keep p (keep q xs)) (keep p (keep q xs))
          ≡ cond b (x ∷ keep (λ x. q x && p x) xs) (keep (λ x. q x && p x) xs)
      one true ih = ap (λ y. x ∷ y) ih
      one false ih = ih

      go : (a : Bool) → keep p (keep q xs) ≡ keep (λ x. q x && p x) xs
          → keep p (cond a (x ∷ keep q xs) (keep q xs))
          ≡ cond (a && p x) (x ∷ keep (λ x. q x && p x) xs) (keep (λ x. q x && p x) xs)
      go true ih = one (p x) ih
      go false ih = ih

  pub any_keep : (xs : List A) → any p (keep q xs) ≡ any (λ x. q x && p x) xs
  any_keep [] = refl
  any_keep (x ∷ xs) = go (q x) (any_keep xs)
    where
      go : (a : Bool) → any p (keep q xs) ≡ any (λ x. q x && p x) xs
          → any p (cond a (x ∷ keep q xs) (keep q xs)) ≡ ((a && p x) || any (λ x. q x && p x) xs)
      go true ih = ap (λ y. p x || y) ih
      go false ih = ih
