-- Every row of a table is on exactly one chain, once; what the check finds out of one chain, and what a walk along it
-- keeps that may stop anywhere. Rests on Table.
use Rattle.std.specs.Prelude.{ℕ, suc, ◌+◌, ◌≤◌, ◌<◌, ◌≡◌, ◌⊎◌, Bool, true, false, cond, ◌&&◌, List, length, get_or, eqb}
use Rattle.std.specs.Prelude.{Option, MatchOption}
use Rattle.chains.specs.declared.Table.{Table}
use Rattle.chains.specs.declared.Heads.{Heads}
use Rattle.chains.specs.declared.Cursor.{Cursor}
use Rattle.chains.specs.Lists.{occ, sum_to, all_to}
use Rattle.chains.specs.Walk.{IsRow, ends}
use Rattle.chains.specs.Table.{Lies, HeadsLie, link, front, head_of, rows_of, ended_of}

-- how often row r stands on the chains
unfoldable pub on_chains : Table → Heads → List ℕ → ℕ → ℕ
on_chains t h w r = sum_to (suc h.owners) (λ k. occ r (rows_of t h w k))

-- every chain ends, and every row is on exactly one chain, once
unfoldable pub partition : Table → Heads → List ℕ → Bool
partition t h w = all_to (suc h.owners) (ended_of t h w) && all_to t.count (λ i. eqb (on_chains t h w (suc i)) 1)

-- the same, chain by chain and row by row
pub record Parted (t : Table) (h : Heads) (w : List ℕ) : Type 0 where
  pub ended_all : (k : ℕ) → k ≤ h.owners → ended_of t h w k ≡ true
  pub once : (r : ℕ) → IsRow t.count r → on_chains t h w r ≡ 1

-- the number of rows on the owners' chains
unfoldable pub used : Table → Heads → List ℕ → ℕ
used t h w = sum_to h.owners (λ k. length (rows_of t h w (suc k)))

-- how many marks there are: one for each row number from 0 on, so that a row is its own index; a table that is checked
-- has fewer rows
abbrev pub MARKS : ℕ
MARKS = 4096

-- marks: for each row, whether it has been met; and that as a number
abbrev pub Marks : List Bool → Type 0
Marks m = length m ≡ MARKS

abbrev pub mark : List Bool → ℕ → ℕ
mark m i = cond (get_or m i false) 1 0

pub record Clear (m : List Bool) : Type 0 where
  pub size : Marks m
  pub clear : (i : ℕ) → get_or m i false ≡ false

-- the chain from head has been marked: it ends within room rows, no row of it was marked before or stands on it twice,
-- left rows of the room remain
pub record Marked (t : Table) (w : List ℕ) (m m' : List Bool) (head room left : ℕ) : Type 0 where
  pub ended_in : ends (link t w) t.count room head ≡ true
  pub marks : Marks m'
  pub added : (i : ℕ) → mark m' i ≡ mark m i + occ i (front t w room head)
  pub room_left : left + length (front t w room head) ≡ room

-- it cannot be marked: it does not end within the room, or a row is met for the second time
unfoldable pub Unmarked : Table → List ℕ → List Bool → ℕ → ℕ → Type 0
Unmarked t w m head room =
    (ends (link t w) t.count room head ≡ false) ⊎ ((i : ℕ) × (2 ≤ mark m i + occ i (front t w room head)))

-- the check's answer for one chain: the room left, or none if it cannot be marked
abbrev pub MarkedChain : Table → List ℕ → List Bool → List Bool → ℕ → ℕ → Option ℕ → Type 0
MarkedChain t w m m' head room r =
    MatchOption r (Unmarked t w m head room) (λ left. Marked t w m m' head room left)

-- a table that can be checked: it and its heads lie in the words, and there is a mark for each of its rows
pub record CanCheck (t : Table) (h : Heads) (w : List ℕ) : Type 0 where
  pub lies : Lies t w
  pub heads_lie : HeadsLie h w
  pub few : t.count < MARKS

-- A walk that marks has come from s₀ to s, some rows further or none: the rows ahead of s and the new marks are
-- together what was ahead of s₀. Nothing is said of where it stopped or why, so that what is found out of the rest of
-- the chain is so of the whole (proofs/Parts, `rest_marked`)
pub record Advanced (t : Table) (w : List ℕ) (m₀ : List Bool) (s₀ : Cursor) (m : List Bool)
    (s : Cursor) : Type 0 where
  pub fuel : s.left ≤ s₀.left
  pub marks : Marks m
  pub met : (i : ℕ)
      → mark m i + occ i (front t w s.left s.row) ≡ mark m₀ i + occ i (front t w s₀.left s₀.row)
  pub end : ends (link t w) t.count s.left s.row ≡ ends (link t w) t.count s₀.left s₀.row
  pub long : length (front t w s.left s.row) + s₀.left ≡ length (front t w s₀.left s₀.row) + s.left

-- where the walk of the free chain starts: at its head, with room for every row
abbrev pub free_start : Table → Heads → List ℕ → Cursor
free_start t h w = record { row = head_of h w 0; left = t.count }

-- it started there with no row marked, and is now at s
pub record Begun (t : Table) (h : Heads) (w : List ℕ) (m : List Bool) (s : Cursor) : Type 0 where
  pub before : List Bool
  pub clear : Clear before
  pub advanced : Advanced t w before (free_start t h w) m s
