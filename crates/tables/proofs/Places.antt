-- Where the words lie: each table is laid, the parts lie one after the other, and a chain's head word is a word of the
-- header or of its owner's row. Only here are the products of counts and widths seen. Rests on specs.Layout.
use Prim.Native.Nat.{ℕ, suc, ◌≤◌, ◌<◌}
use mathlib.Core.Path.{◌≡◌, ◌∙◌}
use mathlib.Core.List.{List}
use native.Mathlib.Omega.{arith}
use lib.ListN.{length, get_or, set, length-set}
use lib.Seq.{get_or-set_other}
use Rattle.chains.specs.Walk.{IsRow}
use Rattle.chains.specs.Table.{Laid, Lies, place, head_cell}
use Rattle.types.specs.declared.Counts.{Counts}
use Rattle.tables.specs.Rows as Rows
use Rattle.tables.specs.Layout.{slot_base, version_base, lock_base, access_base, size_of, record_table, slot_table}
use Rattle.tables.specs.Layout.{version_table, lock_table, access_table, version_heads, lock_heads, access_heads}
use Rattle.tables.specs.Layout.{Fits, counts_of, HEADER, H_RECORDS, H_EDITS, H_VERSIONS, H_LOCKS}
use Rattle.tables.specs.Layout.{H_ACCESSES, R_VERSION, R_LOCK, S_ACCESS}

module _ {c : Counts} {w : List ℕ} (f : Fits c w) where
  pub versions_laid : Laid (version_table c) (version_heads c) w
  versions_laid = Rows.versions_laid c w f

  pub locks_laid : Laid (lock_table c) (lock_heads c) w
  locks_laid = Rows.locks_laid c w f

  pub accesses_laid : Laid (access_table c) (access_heads c) w
  accesses_laid = Rows.accesses_laid c w f

  pub records_lie : Lies (record_table c) w
  records_lie = Rows.records_lie c w f

  pub slots_lie : Lies (slot_table c) w
  slots_lie = Rows.slots_lie c w f

-- A word of a part is at or after its base and before the next part's
module _ (c : Counts) (i o : ℕ) where
  pub record_word : IsRow c.records i → o < (record_table c).stride
      → (HEADER ≤ place (record_table c) i o) × (place (record_table c) i o < slot_base c)
  unfolding place record_table slot_base
  record_word e l = (omega arith, omega (arith, e.low, e.high))

  pub slot_word : IsRow c.edits i → o < (slot_table c).stride
      → (slot_base c ≤ place (slot_table c) i o) × (place (slot_table c) i o < version_base c)
  unfolding place slot_table slot_base version_base
  slot_word e l = (omega arith, omega (arith, e.low, e.high))

  pub version_word : IsRow (version_table c).count i → o < (version_table c).stride
      → (version_base c ≤ place (version_table c) i o) × (place (version_table c) i o < lock_base c)
  unfolding place version_table version_base lock_base
  version_word e l = (omega arith, omega (arith, e.low, e.high))

  pub lock_word : IsRow (lock_table c).count i → o < (lock_table c).stride
      → (lock_base c ≤ place (lock_table c) i o) × (place (lock_table c) i o < access_base c)
  unfolding place lock_table lock_base access_base
  lock_word e l = (omega arith, omega (arith, e.low, e.high))

  pub access_word : IsRow (access_table c).count i → o < (access_table c).stride
      → (access_base c ≤ place (access_table c) i o) × (place (access_table c) i o < size_of c)
  unfolding place access_table access_base size_of
  access_word e l = (omega arith, omega (arith, e.low, e.high))

-- the bases rise
pub bases : (c : Counts)
    → (HEADER ≤ slot_base c) × (slot_base c ≤ version_base c) × (version_base c ≤ lock_base c)
    × (lock_base c ≤ access_base c)
    × (access_base c ≤ size_of c)
unfolding slot_base version_base lock_base access_base size_of
bases c = (omega arith, omega arith, omega arith, omega arith, omega arith)

-- head words
module _ (c : Counts) (k : ℕ) where
  pub version_head : head_cell (version_heads c) (suc k) ≡ place (record_table c) (suc k) R_VERSION
  unfolding head_cell version_heads place record_table
  version_head = omega arith

  pub lock_head : head_cell (lock_heads c) (suc k) ≡ place (record_table c) (suc k) R_LOCK
  unfolding head_cell lock_heads place record_table
  lock_head = omega arith

  pub access_head : head_cell (access_heads c) (suc k) ≡ place (slot_table c) (suc k) S_ACCESS
  unfolding head_cell access_heads place slot_table slot_base
  access_head = omega arith

-- Words that have the counts of others
pub counts_same : (w w' : List ℕ) → ((p : ℕ) → p ≤ H_ACCESSES → get_or w' p 0 ≡ get_or w p 0)
    → counts_of w' ≡ counts_of w
unfolding counts_of
counts_same w w' e =
    rw (
      e H_RECORDS (omega arith),
      e H_EDITS (omega arith),
      e H_VERSIONS (omega arith),
      e H_LOCKS (omega arith),
      e H_ACCESSES (omega arith),
    )

pub fits_same : {c : Counts} {w w' : List ℕ} → Fits c w → length w' ≡ length w
    → ((p : ℕ) → p ≤ H_ACCESSES → get_or w' p 0 ≡ get_or w p 0) → Fits c w'
fits_same {c} {w} {w'} f l e =
    record { counts = counts_same w w' e ∙ f.counts; ranged = f.ranged; size = l ∙ f.size }

-- so a store beyond the header keeps them
pub fits_set : {c : Counts} {w : List ℕ} (p v : ℕ) → HEADER ≤ p → Fits c w → Fits c (set w p v)
fits_set {c} {w} p v h f = fits_same f (length-set w p v) (λ q l. get_or-set_other w p q v 0 (λ e. omega arith))

module _ {c : Counts} {w w' : List ℕ} (i o v : ℕ) (f : Fits c w) where
  pub record_fits : w' ≡ set w (place (record_table c) i o) v → Fits c w'
  unfolding place record_table
  record_fits e = rw e (fits_set (place (record_table c) i o) v (omega arith) f)

  pub slot_fits : w' ≡ set w (place (slot_table c) i o) v → Fits c w'
  unfolding place slot_table slot_base
  slot_fits e = rw e (fits_set (place (slot_table c) i o) v (omega arith) f)

  pub version_fits : w' ≡ set w (place (version_table c) i o) v → Fits c w'
  unfolding place version_table version_base
  version_fits e = rw e (fits_set (place (version_table c) i o) v (omega arith) f)

  pub lock_fits : w' ≡ set w (place (lock_table c) i o) v → Fits c w'
  unfolding place lock_table lock_base
  lock_fits e = rw e (fits_set (place (lock_table c) i o) v (omega arith) f)

  pub access_fits : w' ≡ set w (place (access_table c) i o) v → Fits c w'
  unfolding place access_table access_base
  access_fits e = rw e (fits_set (place (access_table c) i o) v (omega arith) f)
