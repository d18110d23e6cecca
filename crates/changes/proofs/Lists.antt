-- Lists of entries as the meaning changes them, against rows as the chains do: a test of all rows after one was added
-- or some were dropped, dropping against keeping, and insertion of a version or a lock. Rests on Entries of `chains`.
use Prim.Native.Nat.{ℕ, suc, ◌≤◌}
use mathlib.Core.Path.{◌≡◌, refl, sym, ap, ◌∙◌}
use mathlib.Core.Bool.{Bool, true, false, not, cond, false≢true}
use mathlib.Core.List.{List, [], ◌∷◌, ◌++◌, map}
use mathlib.Core.Logic.{◌⊎◌, inl, inr}
use native.Mathlib.Omega.{arith}
use native.Mathlib.Decide.{ℕ_discrete}
use lib.Dec.{ltb, leb}
use borrow.Author.Tests.{ltb-true, ltb-false, lt-ltb, le-ltb, leb-true, leb-false}
use Rattle.chains.specs.Lists.{occ, all_of, drop_if, take_while, drop_while, insert_after}
use Rattle.chains.proofs.Occurs.{occ_nil, occ_other, occ_here, occ_there, occ_swap}
use Rattle.chains.proofs.Entries.{entries_all, map_append}
use Rattle.meaning.specs.Lists.{all, any, keep, pairwise}
use Rattle.meaning.proofs.Lists.{and_left, and_right, or_left, or_right}
use Rattle.meaning.specs.Points.{put_lock}
use Rattle.meaning.specs.Ending.{insert}
use Rattle.types.specs.declared.Lock.{Lock}
use Rattle.types.specs.declared.Version.{Version}

-- tests of all rows
all_between : (xs ys : List Bool) → all_of (λ x. x) (xs ++ true ∷ ys) ≡ all_of (λ x. x) (xs ++ ys)
unfolding all_of
all_between [] ys = refl
all_between (true ∷ xs) ys = all_between xs ys
all_between (false ∷ xs) ys = refl

pub all_inserted : (f g : ℕ → Bool) (ks ys rs' : List ℕ) (b : Bool) → map f rs' ≡ map g ks ++ b ∷ map g ys → b ≡ true
    → all_of g (ks ++ ys) ≡ true → all_of f rs' ≡ true
all_inserted f g ks ys rs' b e z h =
    entries_all f (λ x. x) rs' ∙ ap (all_of (λ x. x)) (e ∙ ap (λ y. map g ks ++ y ∷ map g ys) z)
    ∙ all_between (map g ks) (map g ys) ∙ ap (all_of (λ x. x)) (sym (map_append g ks ys))
    ∙ sym (entries_all g (λ x. x) (ks ++ ys)) ∙ h

pub all_pushed : (f g : ℕ → Bool) (rs rs' : List ℕ) (b : Bool) → map f rs' ≡ b ∷ map g rs
    → b ≡ true → all_of g rs ≡ true
    → all_of f rs' ≡ true
all_pushed f g rs rs' b e z h = all_inserted f g [] rs rs' b e z h

pub all_dropped : (f p : ℕ → Bool) (rs : List ℕ) → all_of f rs ≡ true → all_of f (drop_if p rs) ≡ true
unfolding all_of drop_if
all_dropped f p [] h = refl
all_dropped f p (r ∷ rs) h = go (f r) (p r) refl refl (all_dropped f p rs)
  where
    go : (a b : Bool) → f r ≡ a → p r ≡ b → (all_of f rs ≡ true → all_of f (drop_if p rs) ≡ true)
        → all_of f (drop_if p (r ∷ rs)) ≡ true
    go true true e d ih = rw (d, drop_if) (ih (rw (e, all_of) at h))
    go true false e d ih = rw (d, drop_if) (rw (e, all_of) (ih (rw (e, all_of) at h)))
    go false b e d ih = absurd (false≢true (rw (e, all_of) at h))

-- what is not dropped is kept
module _ {A : Type 0} (p : A → Bool) where
  pub drop_keep : (q : A → Bool) → ((x : A) → q x ≡ not (p x)) → (xs : List A) → drop_if p xs ≡ keep q xs
  unfolding drop_if
  drop_keep q h [] = refl
  drop_keep q h (x ∷ xs) = go (p x) refl (drop_keep q h xs)
    where
      go : (b : Bool) → p x ≡ b → drop_if p xs ≡ keep q xs → drop_if p (x ∷ xs) ≡ keep q (x ∷ xs)
      go true e ih = rw (e, drop_if) (rw (h x ∙ ap not e) ih)
      go false e ih = rw (e, drop_if) (rw (h x ∙ ap not e) (ap (λ y. x ∷ y) ih))

-- one more, before the first of which c holds, stands after the front of those of which c fails
module _ {A : Type 0} (p c : A → Bool) (pc : (x : A) → p x ≡ not (c x)) (v : A) (put : List A → List A)
    (none : put [] ≡ v ∷ []) (some : (x : A) (xs : List A) → put (x ∷ xs) ≡ cond (c x) (v ∷ x ∷ xs) (x ∷ put xs)) where
  put_after : (xs : List A) → insert_after p v xs ≡ put xs
  unfolding take_while drop_while
  put_after [] = sym none
  put_after (x ∷ xs) = go (c x) refl (put_after xs)
    where
      go : (b : Bool) → c x ≡ b → insert_after p v xs ≡ put xs → insert_after p v (x ∷ xs) ≡ put (x ∷ xs)
      go true e ih = rw (some x xs, e) (rw (pc x ∙ ap not e, take_while, drop_while) refl)
      go false e ih = rw (some x xs, e) (rw (pc x ∙ ap not e, take_while, drop_while) (ap (λ y. x ∷ y) ih))

-- a version stands after the front of versions above q, one less than its point
pub insert_after_lem : (q : ℕ) (v : Version) → v.point ≡ suc q → (vs : List Version)
    → insert_after (λ x. ltb q x.point) v vs ≡ insert v vs
insert_after_lem q v h =
    put_after (λ x. ltb q x.point) (λ x. ltb x.point v.point) (λ x. other x (ltb x.point v.point) refl) v
    (insert v) refl (λ x xs. refl)
  where
    other : (x : Version) (b : Bool) → ltb x.point v.point ≡ b → ltb q x.point ≡ not b
    other x true e = le-ltb q x.point (omega (arith, h, ltb-true x.point v.point e))
    other x false e = lt-ltb q x.point (omega (arith, h, ltb-false x.point v.point e))

-- a lock stands after the front of locks with low points below q, its own
pub lock_after : (q : ℕ) (l : Lock) → l.low ≡ q → (ls : List Lock)
    → insert_after (λ x. ltb x.low q) l ls ≡ put_lock l ls
lock_after q l h =
    put_after (λ x. ltb x.low q) (λ x. leb l.low x.low) (λ x. other x (leb l.low x.low) refl) l
    (put_lock l) refl (λ x xs. refl)
  where
    other : (x : Lock) (b : Bool) → leb l.low x.low ≡ b → ltb x.low q ≡ not b
    other x true e = le-ltb x.low q (omega (arith, h, leb-true l.low x.low e))
    other x false e = lt-ltb x.low q (omega (arith, h, leb-false l.low x.low e))

-- dropping adds no row
pub occ_drop : (x : ℕ) (p : ℕ → Bool) (rs : List ℕ) → occ x (drop_if p rs) ≤ occ x rs
unfolding drop_if
occ_drop x p [] = omega arith
occ_drop x p (r ∷ rs) = go (p r) refl (occ_drop x p rs)
  where
    go : (b : Bool) → p r ≡ b → occ x (drop_if p rs) ≤ occ x rs → occ x (drop_if p (r ∷ rs)) ≤ occ x (r ∷ rs)
    go true e ih = rw (e, drop_if) (omega (arith, occ_there x r rs))
    go false e ih =
        rw (e, drop_if) (omega (arith, occ_swap x r (drop_if p rs) rs, occ_there x r (drop_if p rs), occ_there x r rs))

-- a test of all rows and the test of one
pub all_row : (f : ℕ → Bool) (rs : List ℕ) → all_of f rs ≡ true → (x : ℕ) → 1 ≤ occ x rs → f x ≡ true
unfolding all_of
all_row f [] h x o = absurd (omega (arith, occ_nil x))
all_row f (r ∷ rs) h x o = go (f r) refl (ℕ_discrete x r) (all_row f rs)
  where
    go : (b : Bool) → f r ≡ b → Dec (x ≡ r) → (all_of f rs ≡ true → (x : ℕ) → 1 ≤ occ x rs → f x ≡ true) → f x ≡ true
    go true e (yes z) ih = ap f z ∙ e
    go true e (no z) ih = ih (rw (e, all_of) at h) x (omega (arith, occ_other x r rs z))
    go false e d ih = absurd (false≢true (rw (e, all_of) at h))

pub row_all : (f : ℕ → Bool) (rs : List ℕ) → ((x : ℕ) → 1 ≤ occ x rs → f x ≡ true) → all_of f rs ≡ true
unfolding all_of
row_all f [] h = refl
row_all f (r ∷ rs) h = rw (h r (occ_here r rs), all_of) (row_all f rs (λ x o. h x (omega (arith, occ_there x r rs))))

module _ {A : Type 0} (f : ℕ → A) where
  all_entry : (p : A → Bool) (rs : List ℕ) → all p (map f rs) ≡ true → (x : ℕ) → 1 ≤ occ x rs → p (f x) ≡ true
  all_entry p [] h x o = absurd (omega (arith, occ_nil x))
  all_entry p (r ∷ rs) h x o = elim (ℕ_discrete x r) [
    | yes z ↦ ap (λ y. p (f y)) z ∙ and_left (p (f r)) (all p (map f rs)) h
    | no z ↦ all_entry p rs (and_right (p (f r)) (all p (map f rs)) h) x (omega (arith, occ_other x r rs z))
  ]

  pub any_entry : (p : A → Bool) (rs : List ℕ) (x : ℕ) → 1 ≤ occ x rs → p (f x) ≡ true → any p (map f rs) ≡ true
  any_entry p [] x o e = absurd (omega (arith, occ_nil x))
  any_entry p (r ∷ rs) x o e = elim (ℕ_discrete x r) [
    | yes z ↦ or_left {a = p (f r)} (any p (map f rs)) (ap (λ y. p (f y)) (sym z) ∙ e)
    | no z ↦ or_right (p (f r)) (any_entry p rs x (omega (arith, occ_other x r rs z)) e)
  ]

  -- two rows of a list whose entries stand pairwise in a relation
  pub pair_rows : (q : A → A → Bool) (rs : List ℕ) → pairwise q (map f rs) ≡ true → (i x : ℕ) → 1 ≤ occ i rs
      → 1 ≤ occ x rs → (x ≡ i → ⊥) → (q (f i) (f x) ≡ true) ⊎ (q (f x) (f i) ≡ true)
  pair_rows q [] h i x oi ox n = absurd (omega (arith, occ_nil x))
  pair_rows q (r ∷ rs) h i x oi ox n = go (ℕ_discrete i r) (ℕ_discrete x r) (pair_rows q rs)
    where
      first : all (q (f r)) (map f rs) ≡ true
      first = and_left (all (q (f r)) (map f rs)) (pairwise q (map f rs)) h

      go : Dec (i ≡ r) → Dec (x ≡ r)
          → (pairwise q (map f rs) ≡ true → (i x : ℕ) → 1 ≤ occ i rs → 1 ≤ occ x rs → (x ≡ i → ⊥)
          → (q (f i) (f x) ≡ true) ⊎ (q (f x) (f i) ≡ true))
          → (q (f i) (f x) ≡ true) ⊎ (q (f x) (f i) ≡ true)
      go (yes a) (yes b) ih = absurd (n (b ∙ sym a))
      go (yes a) (no b) ih =
          inl (ap (λ y. q (f y) (f x)) a ∙ all_entry (q (f r)) rs first x (omega (arith, occ_other x r rs b)))
      go (no a) (yes b) ih =
          inr (ap (λ y. q (f y) (f i)) b ∙ all_entry (q (f r)) rs first i (omega (arith, occ_other i r rs a)))
      go (no a) (no b) ih =
          ih (and_right (all (q (f r)) (map f rs)) (pairwise q (map f rs)) h) i x (omega (arith, occ_other i r rs a))
          (omega (arith, occ_other x r rs b)) n

pub map_map : {A B : Type 0} (f : ℕ → A) (g : A → B) (rs : List ℕ) → map g (map f rs) ≡ map (λ i. g (f i)) rs
map_map f g [] = refl
map_map f g (r ∷ rs) = ap (λ y. g (f r) ∷ y) (map_map f g rs)
