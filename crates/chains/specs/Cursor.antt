-- What a walk along a chain has still to meet, and one step of it. Rests on Table.
use Rattle.std.specs.Prelude.{ℕ, ◌+◌, ◌≡◌, true, false, List, [], ◌∷◌, Option, MatchOption}
use Rattle.chains.specs.declared.Table.{Table}
use Rattle.chains.specs.declared.Cursor.{Cursor}
use Rattle.chains.specs.Walk.{IsRow, more}
use Rattle.chains.specs.Table.{link, front}

-- the rows that a walk at s has still to meet
abbrev pub ahead : Table → List ℕ → Cursor → List ℕ
ahead t w s = front t w s.left s.row

-- a walk from a chain's first row, which may meet every row of the table
abbrev pub start : Table → ℕ → Cursor
start t h = record { row = h; left = t.count }

-- a step that met row i: it was the next, and the walk now stands after it
pub record Met (t : Table) (w : List ℕ) (s : Cursor) (i : ℕ) (s' : Cursor) : Type 0 where
  pub goes_on : more t.count s.left s.row ≡ true
  pub at : i ≡ s.row
  pub row : IsRow t.count i
  pub next : s'.row ≡ link t w i
  pub counted : s'.left + 1 ≡ s.left
  pub rest : ahead t w s ≡ i ∷ ahead t w s'

-- a step where nothing was left to meet: the walk stays
pub record Halted (t : Table) (w : List ℕ) (s s' : Cursor) : Type 0 where
  pub ends : more t.count s.left s.row ≡ false
  pub stays : s' ≡ s
  pub rest : ahead t w s ≡ []

abbrev pub Stepped : Table → List ℕ → Cursor → Option ℕ → Cursor → Type 0
Stepped t w s r s' = MatchOption r (Halted t w s s') (λ i. Met t w s i s')
