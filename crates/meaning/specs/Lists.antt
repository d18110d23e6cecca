-- List functions with a Bool test, and the least and the greatest number of a list. Rests on nothing.
use Rattle.std.specs.Prelude.{ℕ, suc, ◌+◌, min, max, Bool, true, false, cond, ◌&&◌, ◌||◌}
use mathlib.Core.List.{List, [], ◌∷◌, Memᴰ}

-- x is an element of the list; for Pointwise, SoundFacts, Causes and Laws
infix 4 ◌∈◌
abbrev pub ◌∈◌ : {A : Type 0} → A → List A → Type 0
x ∈ xs = Memᴰ x xs

-- every test of a list of tests holds; for the clauses of Sound and the counts of Records.good_counts
abbrev pub every : List Bool → Bool
every [] = true
every (b ∷ bs) = b && every bs

module _ {A : Type 0} where
  -- every element passes; for the common set of Points and the clauses of Sound
  abbrev pub all : (A → Bool) → List A → Bool
  all p [] = true
  all p (x ∷ xs) = p x && all p xs

  -- some element passes; for Store.names, Points.covered and frozen, Records.purge_verdict and the clauses of Sound
  abbrev pub any : (A → Bool) → List A → Bool
  any p [] = false
  any p (x ∷ xs) = p x || any p xs

  -- the elements that pass, in their order; for Store.writtenOf, the lock lists of Points and Records.purged_rec
  abbrev pub keep : (A → Bool) → List A → List A
  keep p [] = []
  keep p (x ∷ xs) = cond (p x) (x ∷ keep p xs) (keep p xs)

  -- the first element that passes, or d; for Store.access_of and the newest version
  abbrev pub find : (A → Bool) → A → List A → A
  find p d [] = d
  find p d (x ∷ xs) = cond (p x) x (find p d xs)

  -- x put before the first element that passes, or last; for the order of locks of Points and of versions of Ending
  abbrev pub put_before : (A → Bool) → A → List A → List A
  put_before p x [] = x ∷ []
  put_before p x (y ∷ ys) = cond (p y) (x ∷ y ∷ ys) (y ∷ put_before p x ys)

  -- every element stands in the relation to each later one; for Sound.versions_fall, writes_apart and names_once
  abbrev pub pairwise : (A → A → Bool) → List A → Bool
  pairwise r [] = true
  pairwise r (x ∷ xs) = all (r x) xs && pairwise r xs

  -- the sum of f over the list; for the rows in use of Store
  abbrev pub total : (A → ℕ) → List A → ℕ
  total f [] = 0
  total f (x ∷ xs) = f x + total f xs

  -- f of each element and its index, counted from i; for what Ending does to every record
  abbrev pub map_from : {B : Type 0} → ℕ → (ℕ → A → B) → List A → List B
  map_from i f [] = []
  map_from i f (x ∷ xs) = f i x ∷ map_from (suc i) f xs

  -- every element passes together with its index, counted from i; for Sound.sound_store
  abbrev pub all_from : ℕ → (ℕ → A → Bool) → List A → Bool
  all_from i p [] = true
  all_from i p (x ∷ xs) = p i x && all_from (suc i) p xs

-- the least of d and the list; for Points.first_covered, first_free, holder and earliest
abbrev pub least : ℕ → List ℕ → ℕ
least d [] = d
least d (x ∷ xs) = min x (least d xs)

-- the greatest of d and the list; for Points.latest
abbrev pub greatest : ℕ → List ℕ → ℕ
greatest d [] = d
greatest d (x ∷ xs) = max x (greatest d xs)
