-- Laws of the tests on Bool and of the list functions of specs/Lists: what a computed test says of every element, and
-- back. Rests on nothing.
use Prim.Native.Nat.{ℕ, zero, suc, ◌+◌, ◌≤◌, ◌<◌, min, max}
use native.Mathlib.Omega.{arith}
use native.Mathlib.Nat.{le_refl, add-zero}
use mathlib.Core.Path.{◌≡◌, refl, sym, ap, ◌∙◌}
use mathlib.Core.Logic.{◌⊎◌, inl, inr}
use mathlib.Core.Bool.{Bool, true, false, not, cond, ◌&&◌, ◌||◌, false≢true}
use mathlib.Core.List.Memᴰ
use mathlib.Core.List.{List, [], ◌∷◌}
use lib.Dec.{leb}
use lib.ListN.{length, get_or, set}
use borrow.Author.Tests.{leb-true, leb-false}
use Rattle.meaning.specs.Lists.{◌∈◌, every, all, any, keep, find, put_before, pairwise, total, map_from, all_from}
use Rattle.meaning.specs.Lists.{least, greatest}

-- tests
pub and_in : {a b : Bool} → a ≡ true → b ≡ true → (a && b) ≡ true
and_in p q = rw (p, q)

-- two tests that imply each other are equal
pub both : (a b : Bool) → (a ≡ true → b ≡ true) → (b ≡ true → a ≡ true) → a ≡ b
both true b f g = sym (f refl)
both false true f g = g refl
both false false f g = refl

pub and_left : (a b : Bool) → (a && b) ≡ true → a ≡ true
and_left true b e = refl
and_left false b e = e

pub and_right : (a b : Bool) → (a && b) ≡ true → b ≡ true
and_right true b e = e
and_right false b e = absurd (false≢true e)

pub or_out : (a b : Bool) → (a || b) ≡ true → (a ≡ true) ⊎ (b ≡ true)
or_out true b e = inl refl
or_out false b e = inr e

pub or_left : {a : Bool} (b : Bool) → a ≡ true → (a || b) ≡ true
or_left b p = rw p

pub or_right : (a : Bool) {b : Bool} → b ≡ true → (a || b) ≡ true
or_right true q = refl
or_right false q = q

-- `not a || b` is "a implies b"
pub implies_out : (a b : Bool) → (not a || b) ≡ true → a ≡ true → b ≡ true
implies_out true b e h = e
implies_out false b e h = absurd (false≢true h)

pub implies_in : (a b : Bool) → (a ≡ true → b ≡ true) → (not a || b) ≡ true
implies_in true b f = f refl
implies_in false b f = refl

pub test : (b : Bool) → (b ≡ true) ⊎ (b ≡ false)
test true = inl refl
test false = inr refl

pub not_both : {b : Bool} → b ≡ true → b ≡ false → ⊥
not_both p q = false≢true (sym q ∙ p)

pub false_in : (b : Bool) → (b ≡ true → ⊥) → b ≡ false
false_in true f = absurd (f refl)
false_in false f = refl

-- test i of a list of tests that all hold
pub every_at : (bs : List Bool) → every bs ≡ true → (i : ℕ) → get_or bs i true ≡ true
every_at [] h i = refl
every_at (b ∷ bs) h zero = and_left b (every bs) h
every_at (b ∷ bs) h (suc i) = every_at bs (and_right b (every bs) h) i

module _ {A : Type 0} (p : A → Bool) where
  pub any_in : {x : A} {xs : List A} → x ∈ xs → p x ≡ true → any p xs ≡ true
  any_in (Memᴰ.head {x = y} {xs = ys} e) q = or_left {a = p y} (any p ys) (rw (← e) q)
  any_in (Memᴰ.tail {x = y} m) q = or_right (p y) (any_in m q)

  pub any_out : (xs : List A) → any p xs ≡ true → (x : A) × (x ∈ xs) × (p x ≡ true)
  any_out [] e = absurd (false≢true e)
  any_out (x ∷ xs) e = go (or_out (p x) (any p xs) e) (any_out xs)
    where
      go : (p x ≡ true) ⊎ (any p xs ≡ true)
          → (any p xs ≡ true → (y : A) × (y ∈ xs) × (p y ≡ true))
          → (y : A) × (y ∈ x ∷ xs) × (p y ≡ true)
      go (inl q) ih = (x, Memᴰ.head refl, q)
      go (inr q) ih = let w = ih q in (w.0, Memᴰ.tail w.1, w.2)

  pub any_none : (xs : List A) → any p xs ≡ false → {x : A} → x ∈ xs → p x ≡ true → ⊥
  any_none xs e m q = not_both (any_in m q) e

  pub none_any : (xs : List A) → ((x : A) → x ∈ xs → p x ≡ true → ⊥) → any p xs ≡ false
  none_any xs f = false_in (any p xs) (λ e. let w = any_out xs e in f w.0 w.1 w.2)

  all_at : (x : A) (xs : List A) → x ∈ xs → all p xs ≡ true → p x ≡ true
  all_at x xs (Memᴰ.head {x = y} {xs = ys} e) q = rw e (and_left (p y) (all p ys) q)
  all_at x xs (Memᴰ.tail {x = y} {xs = ys} m) q = all_at x ys m (and_right (p y) (all p ys) q)

  pub all_out : (xs : List A) → all p xs ≡ true → (x : A) → x ∈ xs → p x ≡ true
  all_out xs q x m = all_at x xs m q

  pub all_in : (xs : List A) → ((x : A) → x ∈ xs → p x ≡ true) → all p xs ≡ true
  all_in [] f = refl
  all_in (x ∷ xs) f = and_in (f x (Memᴰ.head refl)) (all_in xs (λ y m. f y (Memᴰ.tail m)))

  pub keep_in : {x : A} {xs : List A} → x ∈ xs → p x ≡ true → x ∈ keep p xs
  keep_in {x} (Memᴰ.head {x = y} {xs = ys} e) q = let r : p y ≡ true = rw (← e) q in rw r (Memᴰ.head e)
  keep_in {x} (Memᴰ.tail {x = y} {xs = ys} m) q = go (p y) (keep_in m q)
    where
      go : (b : Bool) → x ∈ keep p ys → x ∈ cond b (y ∷ keep p ys) (keep p ys)
      go true n = Memᴰ.tail n
      go false n = n

  pub keep_out : {x : A} (xs : List A) → x ∈ keep p xs → (x ∈ xs) × (p x ≡ true)
  keep_out [] m = absurd (Memᴰ.not-nil m)
  keep_out {x} (y ∷ ys) m = go (p y) refl m (keep_out ys)
    where
      first : p y ≡ true → (x ≡ y) ⊎ (x ∈ keep p ys)
          → (x ∈ keep p ys → (x ∈ ys) × (p x ≡ true))
          → (x ∈ y ∷ ys) × (p x ≡ true)
      first e (inl q) ih = (Memᴰ.head q, rw q e)
      first e (inr n) ih = (Memᴰ.tail (ih n).0, (ih n).1)

      go : (b : Bool) → p y ≡ b → x ∈ cond b (y ∷ keep p ys) (keep p ys)
          → (x ∈ keep p ys → (x ∈ ys) × (p x ≡ true))
          → (x ∈ y ∷ ys) × (p x ≡ true)
      go true e n ih = first e (Memᴰ.cases_cons n) ih
      go false e n ih = (Memᴰ.tail (ih n).0, (ih n).1)

  pub length_keep : (xs : List A) → length (keep p xs) ≤ length xs
  length_keep [] = le_refl 0
  length_keep (x ∷ xs) = go (p x) (length_keep xs)
    where
      go : (b : Bool) → length (keep p xs) ≤ length xs → length (cond b (x ∷ keep p xs) (keep p xs)) ≤ suc (length xs)
      go true h = omega arith
      go false h = omega arith

  -- what is kept and what is not make the whole
  pub keep_split : (xs : List A) → length (keep p xs) + length (keep (λ x. not (p x)) xs) ≡ length xs
  keep_split [] = refl
  keep_split (x ∷ xs) = go (p x) (keep_split xs)
    where
      go : (b : Bool) → length (keep p xs) + length (keep (λ x. not (p x)) xs) ≡ length xs
          → length (cond b (x ∷ keep p xs) (keep p xs))
          + length (cond (not b) (x ∷ keep (λ x. not (p x)) xs) (keep (λ x. not (p x)) xs))
          ≡ suc (length xs)
      go true h = omega arith
      go false h = omega arith

  -- find gives the default where none passes, or the first that passes
  pub find_out : (d : A) (xs : List A)
      → ((find p d xs ≡ d) × (any p xs ≡ false)) ⊎ ((find p d xs ∈ xs) × (p (find p d xs) ≡ true))
  find_out d [] = inl (refl, refl)
  find_out d (x ∷ xs) = go (test (p x)) (find_out d xs)
    where
      go : (p x ≡ true) ⊎ (p x ≡ false)
          → ((find p d xs ≡ d) × (any p xs ≡ false)) ⊎ ((find p d xs ∈ xs) × (p (find p d xs) ≡ true))
          → ((find p d (x ∷ xs) ≡ d) × (any p (x ∷ xs) ≡ false))
          ⊎ ((find p d (x ∷ xs) ∈ x ∷ xs) × (p (find p d (x ∷ xs)) ≡ true))
      go (inl q) ih = rw q (inr (Memᴰ.head refl, q))
      go (inr q) (inl w) = rw q (inl w)
      go (inr q) (inr w) = rw q (inr (Memᴰ.tail w.0, w.1))

module _ {A : Type 0} where
  pub mem_nonempty : {x : A} {xs : List A} → x ∈ xs → 1 ≤ length xs
  mem_nonempty (Memᴰ.head e) = omega arith
  mem_nonempty (Memᴰ.tail m) = omega arith

  -- an element is an entry of the list, and an entry an element
  pub get_d_mem : (xs : List A) (i : ℕ) (d : A) → i < length xs → get_or xs i d ∈ xs
  get_d_mem [] i d h = absurd (omega arith)
  get_d_mem (x ∷ xs) zero d h = Memᴰ.head refl
  get_d_mem (x ∷ xs) (suc i) d h = Memᴰ.tail (get_d_mem xs i d (omega arith))

  pub get_d_past : (xs : List A) (i : ℕ) (d : A) → length xs ≤ i → get_or xs i d ≡ d
  get_d_past [] i d h = refl
  get_d_past (x ∷ xs) zero d h = absurd (omega arith)
  get_d_past (x ∷ xs) (suc i) d h = get_d_past xs i d (omega arith)

  -- pairwise
  pairwise_at : (r : A → A → Bool) {x y : A} (xs : List A) → x ∈ xs → y ∈ xs → pairwise r xs ≡ true
      → (x ≡ y) ⊎ ((r x y ≡ true) ⊎ (r y x ≡ true))
  pairwise_at r xs (Memᴰ.head e) (Memᴰ.head f) h = inl (e ∙ sym f)
  pairwise_at r {y = b} xs (Memᴰ.head {x = z} {xs = ys} e) (Memᴰ.tail m) h =
      inr (inl (rw e (all_out (r z) ys (and_left (all (r z) ys) (pairwise r ys) h) b m)))
  pairwise_at r {x = a} xs (Memᴰ.tail {x = z} {xs = ys} m) (Memᴰ.head e) h =
      inr (inr (rw e (all_out (r z) ys (and_left (all (r z) ys) (pairwise r ys) h) a m)))
  pairwise_at r xs (Memᴰ.tail {x = z} {xs = ys} m) (Memᴰ.tail n) h =
      pairwise_at r ys m n (and_right (all (r z) ys) (pairwise r ys) h)

  pub pairwise_out : (r : A → A → Bool) (xs : List A) → pairwise r xs ≡ true → {x y : A} → x ∈ xs → y ∈ xs
      → (x ≡ y) ⊎ ((r x y ≡ true) ⊎ (r y x ≡ true))
  pairwise_out r xs h m n = pairwise_at r xs m n h

  pub pairwise_in : (r : A → A → Bool) (xs : List A) → ((x y : A) → x ∈ xs → y ∈ xs → r x y ≡ true)
      → pairwise r xs ≡ true
  pairwise_in r [] f = refl
  pairwise_in r (x ∷ xs) f =
      and_in (all_in (r x) xs (λ y m. f x y (Memᴰ.head refl) (Memᴰ.tail m)))
      (pairwise_in r xs (λ y z m n. f y z (Memᴰ.tail m) (Memᴰ.tail n)))

  pub pairwise_keep : (r : A → A → Bool) (p : A → Bool) (xs : List A) → pairwise r xs ≡ true
      → pairwise r (keep p xs) ≡ true
  pairwise_keep r p [] h = refl
  pairwise_keep r p (x ∷ xs) h = go (p x) (pairwise_keep r p xs (and_right (all (r x) xs) (pairwise r xs) h))
    where
      go : (b : Bool) → pairwise r (keep p xs) ≡ true → pairwise r (cond b (x ∷ keep p xs) (keep p xs)) ≡ true
      go true ih =
          and_in
          (all_in (r x) (keep p xs)
          (λ y m. all_out (r x) xs (and_left (all (r x) xs) (pairwise r xs) h) y (keep_out p xs m).0))
          ih
      go false ih = ih

  -- all and map with an index
  pub all_from_out : (p : ℕ → A → Bool) (i : ℕ) (xs : List A) (d : A) → all_from i p xs ≡ true → (j : ℕ) → j < length xs
      → p (i + j) (get_or xs j d) ≡ true
  all_from_out p i [] d e j h = absurd (omega arith)
  all_from_out p i (x ∷ xs) d e zero h = rw (add-zero i) (and_left (p i x) (all_from (suc i) p xs) e)
  all_from_out p i (x ∷ xs) d e (suc j) h =
      let s : i + suc j ≡ suc i + j = omega arith in
      rw s (all_from_out p (suc i) xs d (and_right (p i x) (all_from (suc i) p xs) e) j (omega arith))

  pub all_from_in : (p : ℕ → A → Bool) (i : ℕ) (xs : List A) (d : A)
      → ((j : ℕ) → j < length xs → p (i + j) (get_or xs j d) ≡ true) → all_from i p xs ≡ true
  all_from_in p i [] d f = refl
  all_from_in p i (x ∷ xs) d f =
      and_in (rw (add-zero i) at (f 0 (omega arith)))
      (all_from_in p (suc i) xs d
      (λ j h. let s : i + suc j ≡ suc i + j = omega arith in rw s at (f (suc j) (omega arith))))

  pub get_d_map_from : {B : Type 0} (f : ℕ → A → B) (i : ℕ) (xs : List A) (j : ℕ) (d : A) (e : B) → j < length xs
      → get_or (map_from i f xs) j e ≡ f (i + j) (get_or xs j d)
  get_d_map_from f i [] j d e h = absurd (omega arith)
  get_d_map_from f i (x ∷ xs) zero d e h = rw (add-zero i)
  get_d_map_from f i (x ∷ xs) (suc j) d e h =
      let s : i + suc j ≡ suc i + j = omega arith in
      rw s (get_d_map_from f (suc i) xs j d e (omega arith))

  pub length_map_from : {B : Type 0} (f : ℕ → A → B) (i : ℕ) (xs : List A) → length (map_from i f xs) ≡ length xs
  length_map_from f i [] = refl
  length_map_from f i (x ∷ xs) = ap suc (length_map_from f (suc i) xs)

  -- sums: one entry changed, and every entry changed by its index
  pub total_set : (m : A → ℕ) (xs : List A) (j : ℕ) (y d : A) → j < length xs
      → total m (set xs j y) + m (get_or xs j d) ≡ total m xs + m y
  total_set m [] j y d h = absurd (omega arith)
  total_set m (x ∷ xs) zero y d h = omega arith
  total_set m (x ∷ xs) (suc j) y d h = omega (arith, total_set m xs j y d (omega arith))

  pub total_map_from : (m : A → ℕ) (f : ℕ → A → A) (i : ℕ) (xs : List A) (d : A)
      → ((j : ℕ) → j < length xs → m (f (i + j) (get_or xs j d)) ≤ m (get_or xs j d))
      → total m (map_from i f xs) ≤ total m xs
  total_map_from m f i [] d h = le_refl 0
  total_map_from m f i (x ∷ xs) d h =
      let a : m (f i x) ≤ m x = rw (add-zero i) at (h 0 (omega arith)) in
      let b =
      total_map_from m f (suc i) xs d
      (λ j q. let s : i + suc j ≡ suc i + j = omega arith in rw s at (h (suc j) (omega arith))) in
      omega arith

-- least and greatest
pub min_out : (a b : ℕ) → (min a b ≡ a) ⊎ (min a b ≡ b)
min_out a b = go (test (leb a b))
  where
    go : (leb a b ≡ true) ⊎ (leb a b ≡ false) → (min a b ≡ a) ⊎ (min a b ≡ b)
    go (inl e) = inl (omega (arith, leb-true a b e))
    go (inr e) = inr (omega (arith, leb-false a b e))

pub max_out : (a b : ℕ) → (max a b ≡ a) ⊎ (max a b ≡ b)
max_out a b = go (test (leb a b))
  where
    go : (leb a b ≡ true) ⊎ (leb a b ≡ false) → (max a b ≡ a) ⊎ (max a b ≡ b)
    go (inl e) = inr (omega (arith, leb-true a b e))
    go (inr e) = inl (omega (arith, leb-false a b e))

pub least_default : (d : ℕ) (xs : List ℕ) → least d xs ≤ d
least_default d [] = le_refl d
least_default d (x ∷ xs) = omega (arith, least_default d xs)

pub least_le : (d : ℕ) {x : ℕ} {xs : List ℕ} → x ∈ xs → least d xs ≤ x
least_le d (Memᴰ.head e) = omega arith
least_le d (Memᴰ.tail m) = omega (arith, least_le d m)

pub least_out : (d : ℕ) (xs : List ℕ) → (least d xs ≡ d) ⊎ (least d xs ∈ xs)
least_out d [] = inl refl
least_out d (x ∷ xs) = go (min_out x (least d xs)) (least_out d xs)
  where
    go : (min x (least d xs) ≡ x) ⊎ (min x (least d xs) ≡ least d xs)
        → (least d xs ≡ d) ⊎ (least d xs ∈ xs)
        → (min x (least d xs) ≡ d) ⊎ (min x (least d xs) ∈ x ∷ xs)
    go (inl e) ih = inr (Memᴰ.head e)
    go (inr e) (inl q) = inl (e ∙ q)
    go (inr e) (inr m) = inr (Memᴰ.tail (Memᴰ.cast e m))

pub greatest_ge : (d : ℕ) {x : ℕ} {xs : List ℕ} → x ∈ xs → x ≤ greatest d xs
greatest_ge d (Memᴰ.head e) = omega arith
greatest_ge d (Memᴰ.tail m) = omega (arith, greatest_ge d m)

pub greatest_out : (d : ℕ) (xs : List ℕ) → (greatest d xs ≡ d) ⊎ (greatest d xs ∈ xs)
greatest_out d [] = inl refl
greatest_out d (x ∷ xs) = go (max_out x (greatest d xs)) (greatest_out d xs)
  where
    go : (max x (greatest d xs) ≡ x) ⊎ (max x (greatest d xs) ≡ greatest d xs)
        → (greatest d xs ≡ d) ⊎ (greatest d xs ∈ xs)
        → (max x (greatest d xs) ≡ d) ⊎ (max x (greatest d xs) ∈ x ∷ xs)
    go (inl e) ih = inr (Memᴰ.head e)
    go (inr e) (inl q) = inl (e ∙ q)
    go (inr e) (inr m) = inr (Memᴰ.tail (Memᴰ.cast e m))

-- an element put before the first that passes
module _ {A : Type 0} (p : A → Bool) (v : A) where
  pub length_put_before : (ys : List A) → length (put_before p v ys) ≡ suc (length ys)
  length_put_before [] = refl
  length_put_before (y ∷ ys) = go (p y) (length_put_before ys)
    where
      go : (b : Bool) → length (put_before p v ys) ≡ suc (length ys)
          → length (cond b (v ∷ y ∷ ys) (y ∷ put_before p v ys)) ≡ suc (suc (length ys))
      go true ih = refl
      go false ih = ap suc ih

  pub put_before_new : (ys : List A) → v ∈ put_before p v ys
  put_before_new [] = Memᴰ.head refl
  put_before_new (y ∷ ys) = go (p y) (put_before_new ys)
    where
      go : (b : Bool) → v ∈ put_before p v ys → v ∈ cond b (v ∷ y ∷ ys) (y ∷ put_before p v ys)
      go true ih = Memᴰ.head refl
      go false ih = Memᴰ.tail ih

  pub put_before_old : {x : A} (ys : List A) → x ∈ ys → x ∈ put_before p v ys
  put_before_old [] m = absurd (Memᴰ.not-nil m)
  put_before_old {x} (y ∷ ys) m = go (p y) (Memᴰ.cases_cons m) (put_before_old ys)
    where
      go : (b : Bool) → (x ≡ y) ⊎ (x ∈ ys) → (x ∈ ys → x ∈ put_before p v ys)
          → x ∈ cond b (v ∷ y ∷ ys) (y ∷ put_before p v ys)
      go true c ih = Memᴰ.tail m
      go false (inl q) ih = Memᴰ.head q
      go false (inr i) ih = Memᴰ.tail (ih i)

  pub put_before_out : {x : A} (ys : List A) → x ∈ put_before p v ys → (x ≡ v) ⊎ (x ∈ ys)
  put_before_out [] m = Memᴰ.cases_cons m
  put_before_out {x} (y ∷ ys) m = go (p y) m (put_before_out ys)
    where
      up : (x ≡ v) ⊎ (x ∈ ys) → (x ≡ v) ⊎ (x ∈ y ∷ ys)
      up (inl q) = inl q
      up (inr j) = inr (Memᴰ.tail j)

      later : (x ≡ y) ⊎ (x ∈ put_before p v ys) → (x ∈ put_before p v ys → (x ≡ v) ⊎ (x ∈ ys)) → (x ≡ v) ⊎ (x ∈ y ∷ ys)
      later (inl q) ih = inr (Memᴰ.head q)
      later (inr i) ih = up (ih i)

      go : (b : Bool) → x ∈ cond b (v ∷ y ∷ ys) (y ∷ put_before p v ys) → (x ∈ put_before p v ys → (x ≡ v) ⊎ (x ∈ ys))
          → (x ≡ v) ⊎ (x ∈ y ∷ ys)
      go true n ih = Memᴰ.cases_cons n
      go false n ih = later (Memᴰ.cases_cons n) ih

  -- a relation that the new element has to those that pass, and those that do not have to it, where an element after
  -- one that passes does too
  pub put_before_pairwise : (s r : A → A → Bool) → ((x y : A) → s x y ≡ true → p x ≡ true → p y ≡ true) → (ys : List A)
      → ((x : A) → x ∈ ys → p x ≡ true → r v x ≡ true) → ((x : A) → x ∈ ys → p x ≡ false → r x v ≡ true)
      → pairwise s ys ≡ true → pairwise r ys ≡ true → pairwise r (put_before p v ys) ≡ true
  put_before_pairwise s r mono [] f g o e = refl
  put_before_pairwise s r mono (y ∷ ys) f g o e =
      go (test (p y))
      (put_before_pairwise s r mono ys (λ x i. f x (Memᴰ.tail i)) (λ x i. g x (Memᴰ.tail i))
      (and_right (all (s y) ys) (pairwise s ys) o) (and_right (all (r y) ys) (pairwise r ys) e))
    where
      passes : p y ≡ true → (x : A) → x ∈ ys → p x ≡ true
      passes q x i = mono y x (all_out (s y) ys (and_left (all (s y) ys) (pairwise s ys) o) x i) q

      older : p y ≡ false → (x : A) → (x ≡ v) ⊎ (x ∈ ys) → r y x ≡ true
      older q x (inl z) = rw z (g y (Memᴰ.head refl) q)
      older q x (inr i) = all_out (r y) ys (and_left (all (r y) ys) (pairwise r ys) e) x i

      go : (p y ≡ true) ⊎ (p y ≡ false) → pairwise r (put_before p v ys) ≡ true
          → pairwise r (put_before p v (y ∷ ys)) ≡ true
      go (inl q) ih =
          rw q
          (and_in
          (and_in (f y (Memᴰ.head refl) q) (all_in (r v) ys (λ x i. f x (Memᴰ.tail i) (passes q x i))))
          e)
      go (inr q) ih =
          rw q (and_in (all_in (r y) (put_before p v ys) (λ x i. older q x (put_before_out ys i))) ih)

-- the least and the greatest of a list with one number more at hand
pub least_shift : (b x : ℕ) (xs : List ℕ) → least (min b x) xs ≡ min x (least b xs)
least_shift b x [] = omega arith
least_shift b x (y ∷ xs) = omega (arith, least_shift b x xs)

pub greatest_shift : (b x : ℕ) (xs : List ℕ) → greatest (max b x) xs ≡ max x (greatest b xs)
greatest_shift b x [] = omega arith
greatest_shift b x (y ∷ xs) = omega (arith, greatest_shift b x xs)
