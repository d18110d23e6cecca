-- Rooms, and parts of the store before and after an edit is changed: a changed edit leaves the locks as they are. Rests
-- on Acting.
use Prim.Native.Nat.{ℕ, ◌≤◌, ◌<◌}
use mathlib.Core.Path.{◌≡◌, refl}
use mathlib.Core.Bool.{true}
use mathlib.Core.List.{List}
use native.Mathlib.Omega.{arith}
use Rattle.chains.specs.Walk.{IsRow}
use Rattle.types.specs.Limits.{MAX_EDITS}
use Rattle.meaning.specs.Store.{Edit, Store, edit_at, with_edit, with_records, locks_used}
use Rattle.meaning.specs.Outcomes.{lock_room}
use Rattle.meaning.specs.Locking.{with_lock, with_lock_by}
use Rattle.meaning.specs.Sound.{names_once}
use Rattle.types.specs.declared.Counts.{Counts}
use Rattle.meaning.proofs.Verdicts.{lock_room_out}
use Rattle.tables.specs.Layout.{Fits}
use Rattle.tables.specs.Decode.{decode_at}
use Rattle.calls.specs.Contract.{Ready}
use Rattle.calls.proofs.Acting.{facts}

module _ (c : Counts) (w : List ℕ) where
  -- what add_lock asks: a free row, by the counts
  pub lock_free : lock_room (decode_at c w) ≡ true → locks_used (decode_at c w) < c.locks
  unfolding decode_at
  lock_free e = lock_room_out (decode_at c w) e

  pub owner_small : Fits c w → (k : ℕ) → IsRow c.edits k → k ≤ MAX_EDITS
  owner_small F k i = omega (arith, i.high, F.ranged.edits_high)

  pub once : Ready c w → (k : ℕ) → names_once (edit_at (decode_at c w) k) ≡ true
  once R k = ((facts c w R).edits k).once

-- a changed edit leaves the locks, so that it may be stored before or after a lock
module _ (s : Store) (k : ℕ) (e : Edit) where
  pub edit_leaves_room : lock_room (with_edit s k e) ≡ lock_room s
  unfolding with_edit lock_room locks_used
  edit_leaves_room = refl

  pub edit_then_lock : (r mode o low high : ℕ)
      → with_lock (with_edit s k e) r mode o low high ≡ with_edit (with_lock s r mode o low high) k e
  unfolding with_lock_by with_edit with_records
  edit_then_lock r mode o low high = refl
