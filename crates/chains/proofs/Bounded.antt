-- Sums and tests over the numbers below a bound. Rests on nothing.
use Prim.Native.Nat.{ℕ, zero, suc, ◌+◌, ◌≤◌, ◌<◌}
use mathlib.Core.Path.{◌≡◌, refl, sym, ap, ◌∙◌}
use mathlib.Core.Bool.{Bool, true, false, ◌&&◌, false≢true}
use native.Mathlib.Omega.{arith}
use native.Mathlib.Decide.{ℕ_discrete}
use lib.Dec.{eqb}
use borrow.Author.Tests.{eq-eqb, ne_eqb}
use Rattle.chains.specs.Lists.{sum_to, all_to}

-- Tests

pub both_true : (a b : Bool) → (a && b) ≡ true → (a ≡ true) × (b ≡ true)
both_true true b e = (refl, e)
both_true false b e = absurd (false≢true e)

pub bool_false : (b : Bool) → (b ≡ true → ⊥) → b ≡ false
bool_false true h = absurd (h refl)
bool_false false h = refl

module _ (f : ℕ → Bool) where
  pub all_suc : (m : ℕ) → all_to m f ≡ true → f m ≡ true → all_to (suc m) f ≡ true
  unfolding all_to
  all_suc m p q = rw (p, q)

  pub all_at : (m i : ℕ) → all_to m f ≡ true → i < m → f i ≡ true
  unfolding all_to
  all_at zero i e h = absurd (omega arith)
  all_at (suc m) i e h =
      let b = both_true (all_to m f) (f m) e in
      elim (ℕ_discrete i m) [ yes p ↦ ap f p ∙ b.1 | no p ↦ all_at m i b.0 (omega arith) ]

  pub all_all : (m : ℕ) → ((i : ℕ) → i < m → f i ≡ true) → all_to m f ≡ true
  unfolding all_to
  all_all zero h = refl
  all_all (suc m) h = all_suc m (all_all m (λ i l. h i (omega arith))) (h m (omega arith))

pub all_ext : (f g : ℕ → Bool) (m : ℕ) → ((i : ℕ) → i < m → f i ≡ g i) → all_to m f ≡ all_to m g
unfolding all_to
all_ext f g zero h = refl
all_ext f g (suc m) h = rw (all_ext f g m (λ i l. h i (omega arith)), h m (omega arith))

-- Sums

pub sum_ext : (f g : ℕ → ℕ) (m : ℕ) → ((i : ℕ) → i < m → f i ≡ g i) → sum_to m f ≡ sum_to m g
unfolding sum_to
sum_ext f g zero h = refl
sum_ext f g (suc m) h = omega (arith, sum_ext f g m (λ i l. h i (omega arith)), h m (omega arith))

pub sum_le : (f : ℕ → ℕ) (m : ℕ) → ((i : ℕ) → i < m → f i ≤ 1) → sum_to m f ≤ m
unfolding sum_to
sum_le f zero h = omega arith
sum_le f (suc m) h = omega (arith, sum_le f m (λ i l. h i (omega arith)), h m (omega arith))

pub sum_ge : (f : ℕ → ℕ) (m a : ℕ) → a < m → f a ≤ sum_to m f
unfolding sum_to
sum_ge f zero a h = absurd (omega arith)
sum_ge f (suc m) a h =
    elim (ℕ_discrete a m) [ yes p ↦ omega (arith, ap f p) | no p ↦ omega (arith, sum_ge f m a (omega arith)) ]

pub sum_ge2 : (f : ℕ → ℕ) (m a b : ℕ) → a < m → b < m → (a ≡ b → ⊥) → f a + f b ≤ sum_to m f
unfolding sum_to
sum_ge2 f zero a b h k d = absurd (omega arith)
sum_ge2 f (suc m) a b h k d = go (ℕ_discrete a m) (ℕ_discrete b m) (sum_ge2 f m a b)
  where
    go : Dec (a ≡ m) → Dec (b ≡ m) → (a < m → b < m → (a ≡ b → ⊥) → f a + f b ≤ sum_to m f)
        → f a + f b ≤ sum_to (suc m) f
    go (yes p) (yes q) ih = absurd (d (p ∙ sym q))
    go (yes p) (no q) ih = omega (arith, ap f p, sum_ge f m b (omega arith))
    go (no p) (yes q) ih = omega (arith, ap f q, sum_ge f m a (omega arith))
    go (no p) (no q) ih = omega (arith, ih (omega arith) (omega arith) d)

-- a front and the next summand
pub sum_front : (f : ℕ → ℕ) (m k : ℕ) → k < m → sum_to k f + f k ≤ sum_to m f
unfolding sum_to
sum_front f zero k l = absurd (omega arith)
sum_front f (suc m) k l =
    elim (ℕ_discrete k m)
    [ yes p ↦ omega (arith, ap f p, ap (λ j. sum_to j f) p) | no p ↦ omega (arith, sum_front f m k (omega arith)) ]

-- a change of one summand
pub sum_one : (f g : ℕ → ℕ) (m a : ℕ) → a < m → ((j : ℕ) → (j ≡ a → ⊥) → f j ≡ g j)
    → sum_to m f + g a ≡ sum_to m g + f a
unfolding sum_to
sum_one f g zero a h e = absurd (omega arith)
sum_one f g (suc m) a h e = go (ℕ_discrete a m) (sum_one f g m a)
  where
    go : Dec (a ≡ m) → (a < m → ((j : ℕ) → (j ≡ a → ⊥) → f j ≡ g j) → sum_to m f + g a ≡ sum_to m g + f a)
        → sum_to (suc m) f + g a ≡ sum_to (suc m) g + f a
    go (yes p) ih = omega (arith, ap f p, ap g p, sum_ext f g m (λ j l. e j (omega arith)))
    go (no p) ih = omega (arith, ih (omega arith) e, e m (omega arith))

-- a change of two summands that keeps their sum
mix : (ℕ → ℕ) → (ℕ → ℕ) → ℕ → ℕ → ℕ
mix f g a j = elim (eqb j a) [ true ↦ g j | false ↦ f j ]

mix_at : (f g : ℕ → ℕ) (a : ℕ) → mix f g a a ≡ g a
unfolding mix
mix_at f g a = rw (eq-eqb a a refl, mix)

mix_off : (f g : ℕ → ℕ) (a j : ℕ) → (j ≡ a → ⊥) → mix f g a j ≡ f j
unfolding mix
mix_off f g a j h = rw (ne_eqb j a h, mix)

pub sum_two : (f g : ℕ → ℕ) (m a b : ℕ) → a < m → b < m → (a ≡ b → ⊥)
    → ((j : ℕ) → (j ≡ a → ⊥) → (j ≡ b → ⊥) → f j ≡ g j) → f a + f b ≡ g a + g b → sum_to m f ≡ sum_to m g
sum_two f g m a b h k d e s =
    let u = sum_one f (mix f g a) m a h (λ j p. sym (mix_off f g a j p)) in
    let v = sum_one (mix f g a) g m b k (λ j p. go j p (ℕ_discrete j a)) in
    omega (arith, u, v, mix_at f g a, mix_off f g a b (λ q. d (sym q)))
  where
    go : (j : ℕ) → (j ≡ b → ⊥) → Dec (j ≡ a) → mix f g a j ≡ g j
    go j p (yes q) = ap (mix f g a) q ∙ mix_at f g a ∙ ap g (sym q)
    go j p (no q) = mix_off f g a j q ∙ e j q p

-- ones
pub sum_ones : (f : ℕ → ℕ) (n : ℕ) → ((i : ℕ) → i < n → f i ≡ 1) → sum_to n f ≡ n
unfolding sum_to
sum_ones f zero h = refl
sum_ones f (suc n) h = omega (arith, sum_ones f n (λ i l. h i (omega arith)), h n (omega arith))

-- summands of at most 1 whose sum is their number are all 1
pub sum_full : (f : ℕ → ℕ) (n : ℕ) → ((i : ℕ) → i < n → f i ≤ 1) → sum_to n f ≡ n → (i : ℕ) → i < n → f i ≡ 1
unfolding sum_to
sum_full f zero h e i l = absurd (omega arith)
sum_full f (suc n) h e i l =
    let b = sum_le f n (λ i l. h i (omega arith)) in
    let o = h n (omega arith) in
    elim (ℕ_discrete i n)
    [ yes p ↦ omega (arith, ap f p) | no p ↦ sum_full f n (λ i l. h i (omega arith)) (omega arith) i (omega arith) ]

-- a sum of sums, in either order
sum_add : (f g : ℕ → ℕ) (n : ℕ) → sum_to n (λ i. f i + g i) ≡ sum_to n f + sum_to n g
unfolding sum_to
sum_add f g zero = refl
sum_add f g (suc n) = omega (arith, sum_add f g n)

sum_none : (n : ℕ) → sum_to n (λ i. 0) ≡ 0
unfolding sum_to
sum_none zero = refl
sum_none (suc n) = omega (arith, sum_none n)

pub sum_swap : (f : ℕ → ℕ → ℕ) (m n : ℕ) → sum_to m (λ k. sum_to n (λ i. f i k)) ≡ sum_to n (λ i. sum_to m (λ k. f i k))
unfolding sum_to
sum_swap f zero n = sym (sum_none n)
sum_swap f (suc m) n = omega (arith, sum_swap f m n, sum_add (λ i. sum_to m (λ k. f i k)) (λ i. f i m) n)
