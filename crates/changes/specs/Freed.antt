-- What the change that frees rows by a test promises. Rests on Change of `chains`.
use Rattle.std.specs.Prelude.{ℕ, ◌+◌, ◌≡◌, Bool, List, length}
use Rattle.chains.specs.declared.Table.{Table}
use Rattle.chains.specs.declared.Heads.{Heads}
use Rattle.chains.specs.Table.{rows_of}
use Rattle.chains.specs.Walk.{IsRow}
use Rattle.chains.specs.Change.{Elsewhere, UnlinkedBy}
use Rattle.types.specs.declared.Counts.{Counts}
use Rattle.tables.specs.Layout.{Fits}

-- what a test may answer is what p says
abbrev pub Decides : {A : Type 0} → (A → Bool → Type 0) → (A → Bool) → Type 0
Decides {A} may p = (x : A) (b : Bool) → may x b → b ≡ p x

-- where only head and link words come to differ, the counts stay and the rows of a table read the same
abbrev pub RowsKept : {A : Type 0} → Table → Heads → (List ℕ → ℕ → A) → Counts → List ℕ → Type 0
RowsKept t h at c w = (w' : List ℕ) → Elsewhere t h w w'
    → Fits c w' × ((i : ℕ) → IsRow t.count i → at w' i ≡ at w i)

-- the rows of chain a that pass have gone to the free chain, n of them
pub record FreedBy (test : ℕ → Bool) (t : Table) (h : Heads) (w w' : List ℕ) (a n : ℕ) : Type 0 where
  pub unlinked : UnlinkedBy test t h w w' a 0
  pub lost : n + length (rows_of t h w' a) ≡ length (rows_of t h w a)
