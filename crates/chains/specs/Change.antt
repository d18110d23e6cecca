-- What the mutators do. One record, Changed, is what each of them promises: two chains are as named, every other chain
-- and every word but head and link words is as before, and every row is still on exactly one chain. Rests on Partition.
use Rattle.std.specs.Prelude.{ℕ, ◌≤◌, ◌≡◌, Bool, true, length, get_or, set, Option, MatchOption}
use mathlib.Core.List.{List, ◌∷◌, ◌++◌, tail, reverse_aux}
use Rattle.chains.specs.declared.Table.{Table}
use Rattle.chains.specs.declared.Heads.{Heads}
use Rattle.chains.specs.Lists.{last_or, insert_after, drop_if, push_if}
use Rattle.chains.specs.Walk.{IsRow}
use Rattle.chains.specs.Table.{link_cell, head_cell, head_of, rows_of, Laid, after_cell, stands_before}
use Rattle.chains.specs.Partition.{partition}

-- what every mutator asks for: the table is laid out, every row is on exactly one chain, and a and b are two of its
-- chains
pub record Ready (t : Table) (h : Heads) (w : List ℕ) (a b : ℕ) : Type 0 where
  pub laid : Laid t h w
  pub parted : partition t h w ≡ true
  pub a_in : a ≤ h.owners
  pub b_in : b ≤ h.owners
  pub differ : a ≡ b → ⊥

-- the three words that every change stores: x follows place p of chain a, y follows row r, z is chain b's head
unfoldable pub relinked : Table → Heads → List ℕ → ℕ → ℕ → ℕ → ℕ → ℕ → ℕ → ℕ → List ℕ
relinked t h w a b p r x y z = set (set (set w (after_cell t h a p) x) (link_cell t r) y) (head_cell h b) z

-- only head words and link words differ
pub record Elsewhere (t : Table) (h : Heads) (w w' : List ℕ) : Type 0 where
  pub size : length w' ≡ length w
  pub kept : (c : ℕ) → ((k : ℕ) → k ≤ h.owners → c ≡ head_cell h k → ⊥)
      → ((i : ℕ) → IsRow t.count i → c ≡ link_cell t i → ⊥) → get_or w' c 0 ≡ get_or w c 0

-- chain a has become A and chain b B
pub record Changed (t : Table) (h : Heads) (w w' : List ℕ) (a b : ℕ) (A B : List ℕ) : Type 0 where
  pub parted : partition t h w' ≡ true
  pub at_a : rows_of t h w' a ≡ A
  pub at_b : rows_of t h w' b ≡ B
  pub others : (j : ℕ) → j ≤ h.owners → (j ≡ a → ⊥) → (j ≡ b → ⊥) → rows_of t h w' j ≡ rows_of t h w j
  pub elsewhere : Elsewhere t h w w'

-- all chains are as before
pub record Same (t : Table) (h : Heads) (w w' : List ℕ) : Type 0 where
  pub rows_kept : (k : ℕ) → k ≤ h.owners → rows_of t h w' k ≡ rows_of t h w k
  pub parted_kept : partition t h w' ≡ partition t h w

-- r, the first row of chain a, has become the first of chain b
pub record Moved (t : Table) (h : Heads) (w w' : List ℕ) (a b r : ℕ) : Type 0 where
  pub row : IsRow t.count r
  pub taken : rows_of t h w a ≡ r ∷ tail (rows_of t h w a)
  pub changed : Changed t h w w' a b (tail (rows_of t h w a)) (r ∷ rows_of t h w b)

-- the answer of a mutator that takes chain a's first row: the row, of which Done holds, or none where there is none
pub record Empty (h : Heads) (w w' : List ℕ) (a : ℕ) : Type 0 where
  pub head : head_of h w a ≡ 0
  pub same : w' ≡ w

pub record First (h : Heads) (w : List ℕ) (a : ℕ) (Done : ℕ → Type 0) (r : ℕ) : Type 0 where
  pub head : r ≡ head_of h w a
  pub done : Done r

abbrev pub Taken : Heads → List ℕ → List ℕ → ℕ → Option ℕ → (ℕ → Type 0) → Type 0
Taken h w w' a r Done = MatchOption r (Empty h w w' a) (First h w a Done)

-- place p parts chain a into ks, which ends in row p (p is 0: ks is empty), and ys
pub record Split (t : Table) (h : Heads) (w : List ℕ) (a p : ℕ) (ks ys : List ℕ) : Type 0 where
  pub parts : rows_of t h w a ≡ ks ++ ys
  pub last : p ≡ last_or 0 ks

-- p is a place on chain a; row r follows it
pub record Place (t : Table) (h : Heads) (w : List ℕ) (a p : ℕ) : Type 0 where
  pub upto : List ℕ
  pub beyond : List ℕ
  pub split : Split t h w a p upto beyond

pub record Follows (t : Table) (h : Heads) (w : List ℕ) (a p r : ℕ) : Type 0 where
  pub upto : List ℕ
  pub beyond : List ℕ
  pub split : Split t h w a p upto (r ∷ beyond)

-- r, the first row of chain b, now stands after place p of chain a
unfoldable pub Inserted : Table → Heads → List ℕ → List ℕ → ℕ → ℕ → ℕ → ℕ → Type 0
Inserted t h w w' a b p r =
    (ks ys : List ℕ) → Split t h w a p ks ys → Changed t h w w' a b (ks ++ r ∷ ys) (tail (rows_of t h w b))

-- r, the first row of chain b, now stands on chain a after the front of rows whose word o comes before q
pub record InsertedSorted (t : Table) (h : Heads) (w w' : List ℕ) (a b o q : ℕ) (precedes : ℕ → ℕ → Bool)
    (r : ℕ) : Type 0 where
  pub row : IsRow t.count r
  pub taken : rows_of t h w b ≡ r ∷ tail (rows_of t h w b)
  pub changed :
      Changed t h w w' a b (insert_after (stands_before precedes t w o q) r (rows_of t h w a)) (tail (rows_of t h w b))

-- row r, after place p of chain a, has become the first of chain b
unfoldable pub Unlinked : Table → Heads → List ℕ → List ℕ → ℕ → ℕ → ℕ → ℕ → Type 0
Unlinked t h w w' a b p r =
    (ks ys : List ℕ) → Split t h w a p ks (r ∷ ys) → Changed t h w w' a b (ks ++ ys) (r ∷ rows_of t h w b)

-- chain a has lost the rows of which test holds, and chain b has gained them
abbrev pub UnlinkedBy : (ℕ → Bool) → Table → Heads → List ℕ → List ℕ → ℕ → ℕ → Type 0
UnlinkedBy test t h w w' a b =
    Changed t h w w' a b (drop_if test (rows_of t h w a)) (push_if test (rows_of t h w a) (rows_of t h w b))

-- all rows after place p of chain a, r of them, have gone to chain b, one by one
unfoldable pub Emptied : Table → Heads → List ℕ → List ℕ → ℕ → ℕ → ℕ → ℕ → Type 0
Emptied t h w w' a b p r =
    (ks ys : List ℕ) → Split t h w a p ks ys
    → (r ≡ length ys) × Changed t h w w' a b ks (reverse_aux ys (rows_of t h w b))
