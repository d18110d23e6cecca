-- Marks of lock rows, by which the check knows in one step whether a lock's owner wrote the record. Rests on Decode of
-- the crate `tables`.
use Rattle.std.specs.Prelude.{ℕ, zero, suc, ◌≤◌, ◌≡◌, Bool, false, cond, ◌&&◌, ◌||◌, List, [], ◌∷◌, get_or, set}
use Rattle.std.specs.Prelude.{ltb}
use Rattle.chains.specs.Lists.{occ}
use Rattle.chains.specs.Partition.{Marks}
use Rattle.chains.specs.Walk.{IsRow}
use Rattle.meaning.specs.Store.{access_of}
use Rattle.meaning.specs.Points.{is_owned}
use Rattle.types.specs.declared.Access.{Access}
use Rattle.types.specs.declared.Counts.{Counts}
use Rattle.tables.specs.Decode.{lock_at, slot_at, lock_rows}
use Rattle.meaning.specs.Store.{has_written}

-- of these rows, those that slot k owns become marked
abbrev pub own_mark : Counts → List ℕ → ℕ → Bool → ℕ → Bool
own_mark c w k old i = is_owned k (lock_at c w i) || old

unfoldable pub mark_own : Counts → List ℕ → ℕ → List Bool → List ℕ → List Bool
mark_own c w k m [] = m
mark_own c w k m (i ∷ rows) = mark_own c w k (set m i (own_mark c w k (get_or m i false) i)) rows

-- for each record that an access of slot k has written, and for the accesses of the first n slots
unfoldable pub mark_access : Counts → List ℕ → ℕ → List Bool → Access → List Bool
mark_access c w k m a = cond ((has_written a) && ltb a.rec c.records) (mark_own c w k m (lock_rows c w a.rec)) m

unfoldable pub mark_accesses : Counts → List ℕ → ℕ → List Bool → List Access → List Bool
mark_accesses c w k m [] = m
mark_accesses c w k m (a ∷ rest) = mark_accesses c w k (mark_access c w k m a) rest

unfoldable pub mark_slots : Counts → List ℕ → List Bool → ℕ → List Bool
mark_slots c w m zero = m
mark_slots c w m (suc k) = mark_accesses c w (suc k) (mark_slots c w m k) (slot_at c w (suc k)).accesses

-- a lock row of record r is marked exactly if its owner wrote the record
pub record Writers (c : Counts) (w : List ℕ) (r : ℕ) (m : List Bool) : Type 0 where
  pub size : Marks m
  pub wrote : (i : ℕ) → 1 ≤ occ i (lock_rows c w r) → IsRow c.edits (lock_at c w i).owner
      → get_or m i false ≡ (has_written (access_of (slot_at c w (lock_at c w i).owner) r))
