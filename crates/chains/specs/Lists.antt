-- Lists of rows, and sums and tests over the numbers below a bound. Rests on nothing.
use Rattle.std.specs.Prelude.{ℕ, zero, suc, ◌+◌, Bool, true, false, ◌&&◌, List, [], ◌∷◌, ◌++◌, eqb}

-- how often r stands in a list
unfoldable pub occ : ℕ → List ℕ → ℕ
occ r [] = 0
occ r (x ∷ xs) = elim (eqb r x) [ true ↦ suc (occ r xs) | false ↦ occ r xs ]

-- f 0 + .. + f (m - 1)
unfoldable pub sum_to : ℕ → (ℕ → ℕ) → ℕ
sum_to zero f = 0
sum_to (suc m) f = sum_to m f + f m

-- f holds of every number below m
unfoldable pub all_to : ℕ → (ℕ → Bool) → Bool
all_to zero f = true
all_to (suc m) f = all_to m f && f m

-- the first of a list, or 0
unfoldable pub first : List ℕ → ℕ
first [] = 0
first (x ∷ xs) = x

-- the last of a list, or d
unfoldable pub last_or : ℕ → List ℕ → ℕ
last_or d [] = d
last_or d (x ∷ xs) = last_or x xs

-- p holds of every element
unfoldable pub all_of {ℓ} : {A : Type ℓ} → (A → Bool) → List A → Bool
all_of p [] = true
all_of p (x ∷ xs) = elim (p x) [ true ↦ all_of p xs | false ↦ false ]

-- the first row of which p holds, or 0
unfoldable pub first_of : (ℕ → Bool) → List ℕ → ℕ
first_of p [] = 0
first_of p (x ∷ xs) = elim (p x) [ true ↦ x | false ↦ first_of p xs ]

-- the longest front of which p holds throughout, and what is left
unfoldable pub take_while {ℓ} : {A : Type ℓ} → (A → Bool) → List A → List A
take_while p [] = []
take_while p (x ∷ xs) = elim (p x) [ true ↦ x ∷ take_while p xs | false ↦ [] ]

unfoldable pub drop_while {ℓ} : {A : Type ℓ} → (A → Bool) → List A → List A
drop_while p [] = []
drop_while p (x ∷ xs) = elim (p x) [ true ↦ drop_while p xs | false ↦ x ∷ xs ]

-- the list with x more, after that front
abbrev pub insert_after {ℓ} : {A : Type ℓ} → (A → Bool) → A → List A → List A
insert_after p x xs = take_while p xs ++ x ∷ drop_while p xs

-- the elements of which p fails, in order
unfoldable pub drop_if {ℓ} : {A : Type ℓ} → (A → Bool) → List A → List A
drop_if p [] = []
drop_if p (x ∷ xs) = elim (p x) [ true ↦ drop_if p xs | false ↦ x ∷ drop_if p xs ]

-- the rows of which p holds, put before acc one after the other
unfoldable pub push_if : (ℕ → Bool) → List ℕ → List ℕ → List ℕ
push_if p [] acc = acc
push_if p (x ∷ xs) acc = elim (p x) [ true ↦ push_if p xs (x ∷ acc) | false ↦ push_if p xs acc ]
