-- "So a stale handle is good again after 65,536 begins in its slot. Histories name an edit by its begin, not by its
-- handle." A history in which a handle is given twice; the theorem is `given_twice` in proofs/Handles. Rests on
-- Statement and StoreWords.
use Rattle.std.specs.Prelude.{ℕ, zero, suc, ◌+◌, ◌*◌, ◌%◌, ◌≤◌, ◌≡◌, List, [], ◌∷◌, ◌++◌, length, replicate}
use Rattle.types.specs.Limits.{GENERATIONS, OPEN}
use Rattle.meaning.specs.Store.{fresh}
use Rattle.types.specs.Numbers.{handle, next_generation}
use Rattle.types.specs.Replies.{edit}
use Rattle.meaning.specs.Calls.{act, run, after}
use Rattle.types.specs.declared.Counts.{Counts}
use Rattle.types.specs.declared.Finish.TheVariants.{Settle}
use Rattle.types.specs.declared.Call.{Call}
use Rattle.types.specs.declared.Call.TheVariants as C
use Rattle.serial.specs.Serializable.{edit_of}
use Rattle.history.specs.Statement.{replied}
use Rattle.history.specs.StoreWords.{HistoryOn}

-- a store with one slot
abbrev pub one_slot : Counts
one_slot = record { records = 1; edits = 1; versions = 1; locks = 1; accesses = 1 }

-- n edits begun and aborted one after the other, where the slot's generation is g
unfoldable pub rounds : ℕ → ℕ → List Call
rounds zero g = []
rounds (suc n) g = C.Begin ∷ C.Abort (record { 0 = handle (next_generation g) 1 }) Settle ∷ rounds n (next_generation g)

-- and one more Begin
unfoldable pub rounds_begun : ℕ → List Call
rounds_begun n = rounds n 0 ++ (C.Begin ∷ [])

-- that Begin gives the handle h, which then names the edit e
pub record BegunAfter (n h e : ℕ) : Type 0 where
  pub reply : (act C.Begin (after (rounds n 0) (fresh one_slot))).reply ≡ edit h
  pub name : edit_of (replied one_slot (rounds_begun n)) h ≡ e

-- the 29 words of the store, with its slot in a state and a generation
unfoldable pub slot_words : ℕ → ℕ → List ℕ
slot_words state g = 1 ∷ 1 ∷ 1 ∷ 1 ∷ 1 ∷ 1 ∷ 1 ∷ 1 ∷ 0 ∷ 0 ∷ 0 ∷ state ∷ g ∷ replicate 16 0

pub record GivenTwice : Type 0 where
  -- the Begin after n rounds gives the handle of generation n + 1, modulo 65,536; it is call 2 × n + 1 of the list
  pub each : (n : ℕ) → BegunAfter n (handle ((n + 1) % GENERATIONS) 1) (2 * n + 1)
  -- So the first Begin gives the handle 65. It names edit 1 through 65,536 rounds, in which no other Begin gives it,
  -- and the Begin after them, 65,536 begins after the first, gives it again: it then names edit 131,073
  pub first : BegunAfter 0 65 1
  pub until : (n : ℕ) → 1 ≤ n → n ≤ GENERATIONS → edit_of (replied one_slot (rounds n 0)) 65 ≡ 1
  pub again : BegunAfter GENERATIONS 65 131073
  -- these lists are histories over words, in every slice of 29, whatever it held
  pub words : (n : ℕ) (w : List ℕ) → length w ≡ 29
      → (h : HistoryOn one_slot (rounds_begun n) (run (rounds_begun n) (fresh one_slot))
      (slot_words OPEN ((n + 1) % GENERATIONS)))
      × (h.before ≡ w)
