-- What a chain of iterator methods over rows says, in the words of the meaning: `any`, `all` and `find` over an
-- iterator whose list `rest` of what is left is known. In each, d is the call's clause `ran`, e that list, and k what
-- the closure computes. Rests on nothing.
use mathlib.Core.Path.{◌≡◌, refl, sym, ap, ◌∙◌}
use mathlib.Core.Bool.{Bool, true, false, ◌&&◌, ◌||◌, cond, true≢false}
use mathlib.Core.List.{List, [], ◌∷◌}
use denote.Ref.{Bor}
use denote.Param.Members.{Mut}
use Rattle.std.specs.Prelude.{Option, None, Some, MatchOption, ⊤, is_some, map}
use Rattle.std.specs.List.{list_any, list_all, filter, FoldsTo}
use Rattle.std.specs.List.{find as find_first}
use Rattle.std.specs.Option.{unwrap_or, option_map}
use Rattle.std.specs.Iterator.{YieldsFirst, YieldsThen}
use Rattle.std.specs.Fn.{Called, CalledAt}
use Rattle.std.proofs.lemmas.Iterator.Consumers.{YieldsList-from_first}
use Rattle.std.proofs.lemmas.Iterator.Search.{all_from_yields_List, any_from_yields_List, find_from_yields_List}
use Rattle.meaning.specs.Lists.{any, all, keep, find}

-- the list functions of `meaning` are those that the methods of std mirror
module _ {A : Type 0} (p : A → Bool) where
  pub any_list : (xs : List A) → list_any p xs ≡ any p xs
  any_list [] = refl
  any_list (x ∷ xs) = ap (λ b. p x || b) (any_list xs)

  pub all_list : (xs : List A) → list_all p xs ≡ all p xs
  all_list [] = refl
  all_list (x ∷ xs) = ap (λ b. p x && b) (all_list xs)

  pub keep_list : (xs : List A) → filter p xs ≡ keep p xs
  keep_list [] = refl
  keep_list (x ∷ xs) = ap (λ ys. cond (p x) (x ∷ ys) ys) (keep_list xs)

  pub find_list : (d : A) (xs : List A) → unwrap_or (find_first p xs) d ≡ find p d xs
  find_list d [] = refl
  find_list d (x ∷ xs) = go (p x) (find_list d xs)
    where
      go : (b : Bool) → unwrap_or (find_first p xs) d ≡ find p d xs
          → unwrap_or (cond b (Some x) (find_first p xs)) d ≡ cond b x (find p d xs)
      go true e = refl
      go false e = e

-- some entry passes where a search for its row finds one
pub found_some : {A B : Type 0} (p : A → Bool) (g : B → A) (xs : List B)
    → is_some (find_first (λ i. p (g i)) xs) ≡ any p (map g xs)
found_some p g [] = refl
found_some p g (x ∷ xs) = go (p (g x)) (found_some p g xs)
  where
    go : (b : Bool) → is_some (find_first (λ i. p (g i)) xs) ≡ any p (map g xs)
        → is_some (cond b (Some x) (find_first (λ i. p (g i)) xs)) ≡ (b || any p (map g xs))
    go true e = refl
    go false e = e

-- so where none passes it finds none
pub found_none : {A B : Type 0} (p : A → Bool) (g : B → A) (xs : List B) → any p (map g xs) ≡ false
    → find_first (λ i. p (g i)) xs ≡ None
found_none p g xs e = go (find_first (λ i. p (g i)) xs) (found_some p g xs ∙ e)
  where
    go : {B : Type 0} (o : Option B) → is_some o ≡ false → o ≡ None
    go None z = refl
    go (Some x) z = absurd (true≢false z)

option_map_same : {A : Type 0} (r : Option A) → option_map (λ x. x) r ≡ r
option_map_same None = refl
option_map_same (Some x) = refl

module _ {S A F : Type 0} {rest : S → List A} {s : S} {xs : List A} {f : F} (test : A → Bool) (u : S) where
  pub any_rows : {g : Mut F (A × Unit {0}) Bool} {r : Bool}
      → (ys : List A) × (o : Option A) × (j : F) × YieldsThen (YieldsFirst rest) s ys o u
      × FoldsTo (λ p x q. Called g p (x, tt) false q) f ys j
      × MatchOption o (r ≡ false) (λ x. (r ≡ true) × ((h : F) × Called g j (x, tt) true h))
      → rest s ≡ xs → ((x : A) (b : Bool) (q : F) → Called g f (x, tt) b q → (q ≡ f) × (b ≡ test x)) → r ≡ any test xs
  any_rows {r = r} d e k =
      any_from_yields_List test u f r d (YieldsList-from_first (λ x. x) rest xs e) k ∙ any_list test xs

  pub all_rows : {g : Mut F (A × Unit {0}) Bool} {r : Bool}
      → (ys : List A) × (o : Option A) × (j : F) × YieldsThen (YieldsFirst rest) s ys o u
      × FoldsTo (λ p x q. Called g p (x, tt) true q) f ys j
      × MatchOption o (r ≡ true) (λ x. (r ≡ false) × ((h : F) × Called g j (x, tt) false h))
      → rest s ≡ xs → ((x : A) (b : Bool) (q : F) → Called g f (x, tt) b q → (q ≡ f) × (b ≡ test x)) → r ≡ all test xs
  all_rows {r = r} d e k =
      all_from_yields_List test u f r d (YieldsList-from_first (λ x. x) rest xs e) k ∙ all_list test xs

  pub first_row : {g : Mut F (Bor A × Unit {0}) Bool} {r : Option A}
      → (ys : List A) × (j : F) × YieldsThen (YieldsFirst rest) s ys r u
      × FoldsTo (λ p x q. CalledAt g p x false q) f ys j × MatchOption r ⊤ (λ x. (h : F) × CalledAt g j x true h)
      → rest s ≡ xs → ((x : A) (b : Bool) (q : F) → CalledAt g f x b q → (q ≡ f) × (b ≡ test x))
      → r ≡ find_first test xs
  first_row {r = r} d e k =
      sym (option_map_same r) ∙ find_from_yields_List test u f r d (YieldsList-from_first (λ x. x) rest xs e) k

  pub find_row : {g : Mut F (Bor A × Unit {0}) Bool} (r : Option A) (z : A)
      → (ys : List A) × (j : F) × YieldsThen (YieldsFirst rest) s ys r u
      × FoldsTo (λ p x q. CalledAt g p x false q) f ys j × MatchOption r ⊤ (λ x. (h : F) × CalledAt g j x true h)
      → rest s ≡ xs → ((x : A) (b : Bool) (q : F) → CalledAt g f x b q → (q ≡ f) × (b ≡ test x))
      → unwrap_or r z ≡ find test z xs
  find_row r z d e k = ap (λ o. unwrap_or o z) (first_row d e k) ∙ find_list test z xs
