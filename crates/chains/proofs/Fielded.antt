-- What the methods of an iterator over rows with a word of each say of the rows. Rests on nothing.
use Prim.Native.Nat.{ℕ, suc, ◌+◌}
use mathlib.Core.Path.{◌≡◌, refl}
use mathlib.Core.Bool.{Bool, true, false, ◌&&◌, cond}
use mathlib.Core.List.{List, [], ◌∷◌}
use native.Mathlib.Omega.{arith}
use lib.ListN.{take}
use Rattle.std.specs.Prelude.{Option, Some, None}
use Rattle.std.specs.List.{list_all, prefix_len, find}
use Rattle.std.specs.List.{fold as fold_list}
use Rattle.std.specs.Option.{option_map}
use Rattle.chains.specs.declared.Table.{Table}
use Rattle.chains.specs.Lists.{all_of, last_or, take_while}
use Rattle.chains.specs.Table.{field}
use Rattle.chains.specs.Walker.{with_word}

pub option_map_same : {A : Type 0} (r : Option A) → option_map (λ x. x) r ≡ r
option_map_same None = refl
option_map_same (Some x) = refl

module _ (t : Table) (w : List ℕ) (o : ℕ) where
  word : ℕ → ℕ
  word i = field t w i o

  module _ (p : ℕ → Bool) where
    pub all_words : (rs : List ℕ)
        → list_all (λ (e : ℕ × ℕ). p e.1) (with_word t w o rs) ≡ all_of (λ i. p (field t w i o)) rs
    unfolding with_word all_of
    all_words [] = refl
    all_words (x ∷ xs) = go (p (field t w x o)) (all_words xs)
      where
        go : (b : Bool) → list_all (λ (e : ℕ × ℕ). p e.1) (with_word t w o xs) ≡ all_of (λ i. p (field t w i o)) xs
            → (b && list_all (λ (e : ℕ × ℕ). p e.1) (with_word t w o xs))
            ≡ elim b [ true ↦ all_of (λ i. p (field t w i o)) xs | false ↦ false ]
        go true e = e
        go false e = refl

    pub find_words : (rs : List ℕ)
        → option_map (λ (e : ℕ × ℕ). e.0) (find (λ (e : ℕ × ℕ). p e.1) (with_word t w o rs))
        ≡ find (λ i. p (field t w i o)) rs
    unfolding with_word
    find_words [] = refl
    find_words (x ∷ xs) = go (p (field t w x o)) (find_words xs)
      where
        go : (b : Bool)
            → option_map (λ (e : ℕ × ℕ). e.0) (find (λ (e : ℕ × ℕ). p e.1) (with_word t w o xs))
            ≡ find (λ i. p (field t w i o)) xs
            → option_map (λ (e : ℕ × ℕ). e.0)
            (cond b (Some (x, field t w x o)) (find (λ (e : ℕ × ℕ). p e.1) (with_word t w o xs)))
            ≡ cond b (Some x) (find (λ i. p (field t w i o)) xs)
        go true e = refl
        go false e = e

    pub place_words : (d : ℕ) (rs : List ℕ)
        → fold_list (λ (_ : ℕ) (e : ℕ × ℕ). e.0) d
        (take (prefix_len (λ (e : ℕ × ℕ). p e.1) (with_word t w o rs)) (with_word t w o rs))
        ≡ last_or d (take_while (λ i. p (field t w i o)) rs)
    unfolding with_word last_or take_while
    place_words d [] = refl
    place_words d (x ∷ xs) = go (p (field t w x o)) (place_words x xs)
      where
        go : (b : Bool)
            → fold_list (λ (_ : ℕ) (e : ℕ × ℕ). e.0) x
            (take (prefix_len (λ (e : ℕ × ℕ). p e.1) (with_word t w o xs)) (with_word t w o xs))
            ≡ last_or x (take_while (λ i. p (field t w i o)) xs)
            → fold_list (λ (_ : ℕ) (e : ℕ × ℕ). e.0) d
            (take (cond b (1 + prefix_len (λ (e : ℕ × ℕ). p e.1) (with_word t w o xs)) 0)
            ((x, field t w x o) ∷ with_word t w o xs))
            ≡ last_or d (elim b [ true ↦ x ∷ take_while (λ i. p (field t w i o)) xs | false ↦ [] ])
        go true e =
            let n = prefix_len (λ (e : ℕ × ℕ). p e.1) (with_word t w o xs) in
            let one : 1 + n ≡ suc n = omega arith in
            rw one e
        go false e = refl
