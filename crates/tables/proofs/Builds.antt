-- Lists built from a function of the index, and tests and sums over them. Rests on specs.Decode and the tests and sums
-- of `chains`.
use Prim.Native.Nat.{ℕ, zero, suc, ◌+◌, ◌<◌}
use mathlib.Core.Path.{◌≡◌, refl, sym, ap, ◌∙◌}
use mathlib.Core.Bool.{Bool, true, false, ◌&&◌}
use mathlib.Core.List.{List, [], ◌∷◌, map}
use native.Mathlib.Omega.{arith}
use lib.ListN.{length, get_or, set}
use Rattle.chains.specs.Lists.{sum_to, all_to, all_of}
use Rattle.chains.proofs.Rooms.{sum_first}
use Rattle.meaning.specs.Lists.{all, total, all_from}
use Rattle.tables.specs.Decode.{build}

module _ {A : Type 0} where
  pub build_length : (n : ℕ) (f : ℕ → A) → length (build n f) ≡ n
  unfolding build
  build_length zero f = refl
  build_length (suc n) f = ap suc (build_length n (λ i. f (suc i)))

  pub build_at : (n : ℕ) (f : ℕ → A) (i : ℕ) (d : A) → i < n → get_or (build n f) i d ≡ f i
  unfolding build
  build_at zero f i d l = absurd (omega arith)
  build_at (suc n) f zero d l = refl
  build_at (suc n) f (suc i) d l = build_at n (λ j. f (suc j)) i d (omega arith)

  pub build_ext : (n : ℕ) (f g : ℕ → A) → ((i : ℕ) → i < n → f i ≡ g i) → build n f ≡ build n g
  unfolding build
  build_ext zero f g h = refl
  build_ext (suc n) f g h =
      rw (h 0 (omega arith), build_ext n (λ i. f (suc i)) (λ i. g (suc i)) (λ i l. h (suc i) (omega arith)))

  -- a change at one index
  pub build_set : (n : ℕ) (f g : ℕ → A) (r : ℕ) → r < n → ((i : ℕ) → i < n → (i ≡ r → ⊥) → g i ≡ f i)
      → build n g ≡ set (build n f) r (g r)
  unfolding build
  build_set zero f g r l h = absurd (omega arith)
  build_set (suc n) f g zero l h =
      ap (λ y. g 0 ∷ y)
      (build_ext n (λ i. g (suc i)) (λ i. f (suc i)) (λ i q. h (suc i) (omega arith) (λ e. omega arith)))
  build_set (suc n) f g (suc r) l h =
      rw (
        h 0 (omega arith) (λ e. omega arith),
        build_set n (λ i. f (suc i)) (λ i. g (suc i)) r (omega arith)
            (λ i q k. h (suc i) (omega arith) (λ e. k (omega arith))),
      )

sum_zero : (k : ℕ → ℕ) → sum_to 0 k ≡ 0
unfolding sum_to
sum_zero k = refl

pub total_build : {A : Type 0} (n : ℕ) (f : ℕ → A) (g : A → ℕ) → total g (build n f) ≡ sum_to n (λ i. g (f i))
unfolding build
total_build zero f g = sym (sum_zero (λ i. g (f i)))
total_build (suc n) f g = omega (arith, total_build n (λ i. f (suc i)) g, sum_first (λ i. g (f i)) n)

-- tests
and_assoc : (a b c : Bool) → ((a && b) && c) ≡ (a && (b && c))
and_assoc true b c = refl
and_assoc false b c = refl

pub all_head : (m : ℕ) (f : ℕ → Bool) → all_to (suc m) f ≡ (f 0 && all_to m (λ i. f (suc i)))
unfolding all_to
all_head zero f = go (f 0)
  where
    go : (b : Bool) → (true && b) ≡ (b && true)
    go true = refl
    go false = refl
all_head (suc m) f = rw (all_head m f) (and_assoc (f 0) (all_to m (λ i. f (suc i))) (f (suc m)))

all_zero : (f : ℕ → Bool) → all_to 0 f ≡ true
unfolding all_to
all_zero f = refl

shifted : {A : Type 0} (m k : ℕ) (p : ℕ → A → Bool) (f : ℕ → A)
    → all_to m (λ i. p (suc k + i) (f i)) ≡ all_to m (λ i. p (k + suc i) (f i))
unfolding all_to
shifted zero k p f = refl
shifted (suc m) k p f = rw (shifted m k p f) (let e : suc k + m ≡ k + suc m = omega arith in rw e)

-- a test of every element with its index is a test of every index
pub all_from_build : {A : Type 0} (n k : ℕ) (f : ℕ → A) (p : ℕ → A → Bool)
    → all_from k p (build n f) ≡ all_to n (λ i. p (k + i) (f i))
unfolding build
all_from_build zero k f p = sym (all_zero (λ i. p (k + i) (f i)))
all_from_build (suc n) k f p =
    let e : k + 0 ≡ k = omega arith in
    ap (λ y. p k (f 0) && y) (all_from_build n (suc k) (λ i. f (suc i)) p ∙ shifted n k p (λ i. f (suc i)))
    ∙ sym (all_head n (λ i. p (k + i) (f i)) ∙ ap (λ j. p j (f 0) && all_to n (λ i. p (k + suc i) (f (suc i)))) e)

pub all_build : {A : Type 0} (n : ℕ) (f : ℕ → A) (p : A → Bool) → all p (build n f) ≡ all_to n (λ i. p (f i))
unfolding build
all_build zero f p = sym (all_zero (λ i. p (f i)))
all_build (suc n) f p = ap (λ y. p (f 0) && y) (all_build n (λ i. f (suc i)) p) ∙ sym (all_head n (λ i. p (f i)))

-- a test of every row's entry is a test of every row
pub all_map : {A : Type 0} (p : A → Bool) (f : ℕ → A) (rs : List ℕ) → all p (map f rs) ≡ all_of (λ i. p (f i)) rs
unfolding all_of
all_map p f [] = refl
all_map p f (r ∷ rs) = go (p (f r)) refl (all_map p f rs)
  where
    go : (b : Bool) → p (f r) ≡ b → all p (map f rs) ≡ all_of (λ i. p (f i)) rs
        → all p (map f (r ∷ rs)) ≡ all_of (λ i. p (f i)) (r ∷ rs)
    go true e ih = rw (e, all_of) ih
    go false e ih = rw (e, all_of) refl
