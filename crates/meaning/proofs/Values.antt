-- What the code's tests on locks come to, one law for each way that a test returns. Rests on the definitions alone.
use Prim.Native.Nat.{ℕ, ◌≤◌, ◌<◌}
use native.Mathlib.Omega.{arith}
use native.Mathlib.Decide.{dec_le}
use mathlib.Core.Path.{◌≡◌, ◌∙◌}
use mathlib.Core.Bool.{true, false, not, ◌||◌}
use lib.Dec.{leb, ltb, eqb}
use borrow.Author.Tests.{eq-eqb, ne_eqb, le-leb, lt-leb, lt-ltb, le-ltb}
use Rattle.types.specs.Limits.{WRITE}
use Rattle.meaning.specs.Store.{Lock}
use Rattle.meaning.specs.Points.{covers, conflicts, blocks, meets}
use Rattle.meaning.specs.Sound.{agree, starts_read}

module _ (p : ℕ) (l : Lock) where
  pub covers_low : p < l.low → false ≡ covers p l
  covers_low h = rw (lt-leb l.low p h)

  pub covers_high : l.low ≤ p → leb p l.high ≡ covers p l
  covers_high h = rw (le-leb l.low p h)

module _ (mode k : ℕ) (l : Lock) where
  pub conflicts_write : mode ≡ WRITE → true ≡ conflicts mode l
  unfolding conflicts
  conflicts_write e = rw (eq-eqb mode WRITE e)

  pub conflicts_read : (mode ≡ WRITE → ⊥) → eqb l.mode WRITE ≡ conflicts mode l
  unfolding conflicts
  conflicts_read e = rw (ne_eqb mode WRITE e)

  pub blocks_own : l.owner ≡ k → false ≡ blocks mode k l
  unfolding blocks
  blocks_own e = rw (eq-eqb l.owner k e)

  pub blocks_other : (l.owner ≡ k → ⊥) → conflicts mode l ≡ blocks mode k l
  unfolding blocks
  blocks_other e = rw (ne_eqb l.owner k e)

  pub reads_other : (l.owner ≡ k → ⊥) → (from : ℕ) → false ≡ starts_read k from l
  unfolding starts_read
  reads_other e from = rw (ne_eqb l.owner k e)

  pub reads_write : l.owner ≡ k → l.mode ≡ WRITE → (from : ℕ) → false ≡ starts_read k from l
  unfolding starts_read
  reads_write o m from = rw (eq-eqb l.owner k o, eq-eqb l.mode WRITE m)

  pub reads_own : l.owner ≡ k → (l.mode ≡ WRITE → ⊥) → (from : ℕ) → eqb l.low from ≡ starts_read k from l
  unfolding starts_read
  reads_own o m from = rw (eq-eqb l.owner k o, ne_eqb l.mode WRITE m)

module _ (l m : Lock) where
  pub agree_own : m.owner ≡ l.owner → true ≡ agree l m
  unfolding agree
  agree_own e = rw (eq-eqb m.owner l.owner e)

  -- two locks of different owners agree as their modes and spans say
  agree_apart : (m.owner ≡ l.owner → ⊥)
      → (not (conflicts l.mode m) || not (meets l.low l.high m)) ≡ agree l m
  unfolding agree conflicts
  agree_apart e = rw (ne_eqb m.owner l.owner e)

  pub agree_reads : (m.owner ≡ l.owner → ⊥) → conflicts l.mode m ≡ false → true ≡ agree l m
  agree_reads e h = (rw h) ∙ agree_apart e

  pub agree_above : (m.owner ≡ l.owner → ⊥) → conflicts l.mode m ≡ true → l.high < m.low → true ≡ agree l m
  agree_above e h q = (rw (h, lt-leb m.low l.high q)) ∙ agree_apart e

  pub agree_below : (m.owner ≡ l.owner → ⊥) → conflicts l.mode m ≡ true → m.low ≤ l.high
      → ltb m.high l.low ≡ agree l m
  agree_below e h q = (rw (h, le-leb m.low l.high q) (go (dec_le l.low m.high))) ∙ agree_apart e
    where
      go : Dec (l.low ≤ m.high) → ltb m.high l.low ≡ not (leb l.low m.high)
      go (yes q) = rw (le-leb l.low m.high q, le-ltb m.high l.low q)
      go (no q) = rw (lt-leb l.low m.high (omega arith), lt-ltb m.high l.low (omega arith))
