-- One turn of Settle's loop over the records that slot k may have touched. Rests on Steps and on Index of `index`.
use Rattle.std.specs.Prelude.{ℕ, ◌<◌, ◌≡◌, true, List}
use Rattle.types.specs.declared.Counts.{Counts}
use Rattle.meaning.specs.Lists.{any}
use Rattle.meaning.specs.Store.{Store, rec_at}
use Rattle.meaning.specs.Points.{is_owned}
use Rattle.tables.specs.Decode.{decode_at}
use Rattle.tables.specs.Words.{Well}
use Rattle.index.specs.Index.{Indexed}
use Rattle.endings.specs.Steps.{freed_all}

-- slot k has a lock on record r
abbrev pub HasLock : ℕ → Store → ℕ → Type 0
HasLock k s r = any (is_owned k) (rec_at s r).locks ≡ true

-- slot k has no lock left on record r, if there is one, and elsewhere none more than before; what Settle's loop is to
-- make of the store stays
pub record Freed (k : ℕ) (c : Counts) (ix w w' : List ℕ) (r : ℕ) : Type 0 where
  pub well : Well c w'
  pub same : freed_all k (decode_at c w') ≡ freed_all k (decode_at c w)
  pub gone : r < c.records → HasLock k (decode_at c w') r → ⊥
  pub less : (j : ℕ) → HasLock k (decode_at c w') j → HasLock k (decode_at c w) j
  pub indexed : Indexed (decode_at c w') ix
