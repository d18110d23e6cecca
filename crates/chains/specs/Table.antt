-- A table of rows in a list of words, its chains, and the words at which they start.
-- The chains of a table are numbered: 0 is the free chain, k + 1 the chain of owner k. Rests on Walk.
use Rattle.std.specs.Prelude.{ℕ, zero, suc, ◌+◌, ◌*◌, ◌-◌, ◌≤◌, ◌<◌, Bool, true, false, List, length, get_or}
use Rattle.std.specs.Prelude.{ltb, eqb, Option, None, Some}
use Rattle.chains.specs.declared.Table.{Table}
use Rattle.chains.specs.declared.Heads.{Heads}
use Rattle.chains.specs.Walk.{rows, ends}

-- the place of word o of row i, and the word there
unfoldable pub place : Table → ℕ → ℕ → ℕ
place t i o = t.base + (i - 1) * t.stride + o

unfoldable pub field : Table → List ℕ → ℕ → ℕ → ℕ
field t w i o = get_or w (place t i o) 0

-- row i's link word: its place, and the row that it names
abbrev pub link_cell : Table → ℕ → ℕ
link_cell t i = place t i t.off

abbrev pub link : Table → List ℕ → ℕ → ℕ
link t w i = field t w i t.off

-- the table lies in the words
pub record Lies (t : Table) (w : List ℕ) : Type 0 where
  pub inside : t.base + t.count * t.stride ≤ length w
  pub within : t.off < t.stride

-- the rows on the chain from h, and whether it ends
unfoldable pub chain : Table → List ℕ → ℕ → List ℕ
chain t w h = rows (link t w) t.count t.count h

unfoldable pub ended : Table → List ℕ → ℕ → Bool
ended t w h = ends (link t w) t.count t.count h

-- the first rows on the chain from h, at most f of them
unfoldable pub front : Table → List ℕ → ℕ → ℕ → List ℕ
front t w f h = rows (link t w) t.count f h

-- its length, if it ends
unfoldable pub len_of : Table → List ℕ → ℕ → Option ℕ
len_of t w h = elim (ended t w h) [ true ↦ Some (length (chain t w h)) | false ↦ None ]

-- the place of chain k's head word, and the row that it names
unfoldable pub head_cell : Heads → ℕ → ℕ
head_cell h zero = h.free
head_cell h (suc k) = h.first + k * h.step

unfoldable pub head_of : Heads → List ℕ → ℕ → ℕ
head_of h w k = get_or w (head_cell h k) 0

-- the head words lie in the words
pub record HeadsLie (h : Heads) (w : List ℕ) : Type 0 where
  pub free_in : h.free < length w
  pub heads_in : h.first + h.owners * h.step ≤ length w
  pub step_pos : 0 < h.step

-- chain k's rows, and whether it ends
unfoldable pub rows_of : Table → Heads → List ℕ → ℕ → List ℕ
rows_of t h w k = chain t w (head_of h w k)

unfoldable pub ended_of : Table → Heads → List ℕ → ℕ → Bool
ended_of t h w k = ended t w (head_of h w k)

-- both lie in the words, the free head first, then the owners' heads, then the table
pub record Laid (t : Table) (h : Heads) (w : List ℕ) : Type 0 where
  pub inside : t.base + t.count * t.stride ≤ length w
  pub within : t.off < t.stride
  pub free_first_lem : h.free < h.first
  pub heads_before : h.first + h.owners * h.step ≤ t.base
  pub step_pos : 0 < h.step

-- A place on chain a is a row of it, or 0 for its start. The word that names the row after place p
unfoldable pub after_cell : Table → Heads → ℕ → ℕ → ℕ
after_cell t h a zero = head_cell h a
after_cell t h a (suc p) = link_cell t (suc p)

-- word o of row x is v
unfoldable pub holds : Table → List ℕ → ℕ → ℕ → ℕ → Bool
holds t w o v x = eqb (field t w x o) v

-- x comes before q on a chain: below it where words rise, above it where they fall
unfoldable pub rising : ℕ → ℕ → Bool
rising x q = ltb x q

unfoldable pub falling : ℕ → ℕ → Bool
falling x q = ltb q x

-- word o of row i comes before q
unfoldable pub stands_before : (ℕ → ℕ → Bool) → Table → List ℕ → ℕ → ℕ → ℕ → Bool
stands_before precedes t w o q i = precedes (field t w i o) q
