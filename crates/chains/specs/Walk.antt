-- Walks over any next function: nx gives the row after a row, rows are 1 to n, 0 ends a chain.
-- Every walk has fuel, the number of rows it may still meet, so it ends on any links, circular ones too. Rests on
-- nothing.
use Rattle.std.specs.Prelude.{ℕ, zero, suc, ◌≤◌, Bool, true, false, ◌&&◌, List, [], ◌∷◌, leb, eqb}

-- h names a row
unfoldable pub among : ℕ → ℕ → Bool
among n h = leb 1 h && leb h n

pub record IsRow (n h : ℕ) : Type 0 where
  pub low : 1 ≤ h
  pub high : h ≤ n

-- a walk with fuel f goes on at h
unfoldable pub more : ℕ → ℕ → ℕ → Bool
more n f h = leb 1 f && among n h

-- the rows met from h on, at most f of them; a word that names no row ends the walk
unfoldable pub rows : (ℕ → ℕ) → ℕ → ℕ → ℕ → List ℕ
rows nx n zero h = []
rows nx n (suc f) h = elim (among n h) [ true ↦ h ∷ rows nx n f (nx h) | false ↦ [] ]

-- the chain from h ends in 0 after at most f rows
unfoldable pub ends : (ℕ → ℕ) → ℕ → ℕ → ℕ → Bool
ends nx n zero h = eqb h 0
ends nx n (suc f) h = elim (among n h) [ true ↦ ends nx n f (nx h) | false ↦ eqb h 0 ]
