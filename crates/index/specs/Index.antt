-- The index beside the words: which records an edit has touched, for each edit slot. It may say too much and never too
-- little, so that it speaks of the store alone, not of rows. Rests on Store, Points, Sound and Calls of `meaning`.
use Rattle.std.specs.Prelude.{ℕ, ◌+◌, ◌*◌, ◌≤◌, ◌<◌, ◌≡◌, ◌⊎◌, Bool, true, false, cond, ◌&&◌, ◌||◌, List, length}
use Rattle.std.specs.Prelude.{get_or, eqb, leb}
use Rattle.types.specs.Limits.{SLOTS, MAX_RECORDS}
use Rattle.meaning.specs.Lists.{any}
use Rattle.meaning.specs.Store.{Store, slot_of, edit_at, rec_at, names}
use Rattle.meaning.specs.Points.{is_owned}
use Rattle.meaning.specs.Sound.{sound_store}
use Rattle.meaning.specs.Calls.{act}
use Rattle.types.specs.Replies.{Reply, edit}
use Rattle.types.specs.declared.Call.{Call}

-- Its numbers: for each of 64 slots a mark for each of 1,024 records; then for each slot a list of records, how many
-- they are and 63 places for them. A greater number of them is that of a list that is not kept: nothing is known.
abbrev pub MARKS : ℕ
MARKS = MAX_RECORDS

abbrev pub LISTS : ℕ
LISTS = SLOTS * MARKS

abbrev pub LISTED : ℕ
LISTED = 63

abbrev pub LIST : ℕ
LIST = LISTED + 1

abbrev pub UNKNOWN : ℕ
UNKNOWN = 65535

abbrev pub INDEX : ℕ
INDEX = LISTS + SLOTS * LIST

-- slot k has an access of record r, or a lock on it
unfoldable pub touched : Store → ℕ → ℕ → Bool
touched s k r = names (edit_at s k) r || any (is_owned k) (rec_at s r).locks

-- the mark of slot k and record r; how many records slot k's list has, and which
abbrev pub mark_of : List ℕ → ℕ → ℕ → ℕ
mark_of ix k r = get_or ix (k * MARKS + r) 0

abbrev pub count_of : List ℕ → ℕ → ℕ
count_of ix k = get_or ix (LISTS + k * LIST) 0

abbrev pub listed_of : List ℕ → ℕ → ℕ → ℕ
listed_of ix k i = get_or ix (LISTS + k * LIST + 1 + i) 0

-- the index says that slot k has not touched record r; that slot k's list is kept. A slice of another length than an
-- index says nothing
unfoldable pub silent : List ℕ → ℕ → ℕ → Bool
silent ix k r = eqb (length ix) INDEX && eqb (mark_of ix k r) 0

unfoldable pub known : List ℕ → ℕ → Bool
known ix k = eqb (length ix) INDEX && leb (count_of ix k) LISTED

-- the turns of a loop that meets every record, of n, which slot k may have touched, and the record of turn i: those of
-- its list, or all of them where the list is not kept
unfoldable pub turns : List ℕ → ℕ → ℕ → ℕ
turns ix k n = cond (known ix k) (count_of ix k) n

unfoldable pub turn : List ℕ → ℕ → ℕ → ℕ
turn ix k i = cond (known ix k) (listed_of ix k i) i

abbrev pub MetFrom : List ℕ → ℕ → ℕ → ℕ → ℕ → Type 0
MetFrom ix k n first r = (i : ℕ) × (first ≤ i) × (i < turns ix k n) × (turn ix k i ≡ r)

abbrev pub Met : List ℕ → ℕ → ℕ → ℕ → Type 0
Met ix k n r = MetFrom ix k n 0 r

-- every record that is marked is met
abbrev pub Whole : List ℕ → Type 0
Whole ix = (k r : ℕ) → k < SLOTS → r < MARKS → silent ix k r ≡ false → Met ix k MARKS r

-- what the index says is so. Slot 0 is none: it is the owner of settled locks
pub record Indexed (s : Store) (ix : List ℕ) : Type 0 where
  pub quiet : (k r : ℕ) → 1 ≤ k → k < SLOTS → r < MARKS → silent ix k r ≡ true → touched s k r ≡ false
  pub whole : Whole ix

-- an index that is right of every store
abbrev pub RightOfAll : List ℕ → Type 0
RightOfAll ix = (s : Store) → Indexed s ix

-- after a call and its reply the index is right of the store after it, if it was right of the store before
pub record Notes (call : Call) (r : Reply) (ix ix' : List ℕ) : Type 0 where
  pub keeps : (s : Store) → sound_store s ≡ true → r ≡ (act call s).reply → Indexed s ix
      → Indexed (act call s).store ix'

-- the index says no more than before, and not that slot k has not touched record r
pub record Marked (ix ix' : List ℕ) (k r : ℕ) : Type 0 where
  pub less : (i j : ℕ) → i < SLOTS → j < MARKS → silent ix' i j ≡ true → silent ix i j ≡ true
  pub here : silent ix' k r ≡ false
  pub whole : Whole ix → Whole ix'

-- the index says no more than before of other slots than k
pub record Cleared (ix ix' : List ℕ) (k : ℕ) : Type 0 where
  pub less : (i j : ℕ) → (i ≡ k → ⊥) → i < SLOTS → j < MARKS → silent ix' i j ≡ true → silent ix i j ≡ true
  pub whole : Whole ix → Whole ix'

-- the slot of handle h touches record r, if there can be such a record
pub record Touched (ix ix' : List ℕ) (h r : ℕ) : Type 0 where
  pub less : (i j : ℕ) → i < SLOTS → j < MARKS → silent ix' i j ≡ true → silent ix i j ≡ true
  pub here : r < MARKS → silent ix' (slot_of h) r ≡ false
  pub whole : Whole ix → Whole ix'

-- the slot of a new edit is cleared, or nothing changes
abbrev pub Begun : List ℕ → List ℕ → Reply → Type 0
Begun ix ix' r = (ix' ≡ ix) ⊎ ((h : ℕ) × (r ≡ edit h) × Cleared ix ix' (slot_of h))
