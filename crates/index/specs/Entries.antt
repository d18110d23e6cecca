-- What the functions do to the entries of an index, step by step: for the proofs of what Index says. Rests on Index.
use Rattle.std.specs.Prelude.{ℕ, ◌+◌, ◌*◌, ◌≤◌, ◌<◌, ◌≡◌, ◌⊎◌, List, length, get_or, set}
use Rattle.index.specs.Index.{MARKS, LISTS, LIST, LISTED, UNKNOWN, mark_of, count_of, turn}

-- record r comes to slot k's list; the list is no longer kept where it is full
pub record Added (ix ix' : List ℕ) (k r : ℕ) : Type 0 where
  pub size : length ix' ≡ length ix
  pub room : count_of ix k < LISTED
      → ix' ≡ set (set ix (LISTS + k * LIST + 1 + count_of ix k) r) (LISTS + k * LIST) (count_of ix k + 1)
  pub full : LISTED ≤ count_of ix k → ix' ≡ set ix (LISTS + k * LIST) UNKNOWN

-- the mark of slot k and record r is 0, if there can be such a record
pub record Unmarked (ix ix' : List ℕ) (k r : ℕ) : Type 0 where
  pub size : length ix' ≡ length ix
  pub gone : r < MARKS → ix' ≡ set ix (k * MARKS + r) 0
  pub none : MARKS ≤ r → ix' ≡ ix

-- the marks of slot k that the first n turns meet are 0, its other marks stay or are 0; all other entries stay
pub record Wiped (ix ix' : List ℕ) (k n : ℕ) : Type 0 where
  pub size : length ix' ≡ length ix
  pub others : (i : ℕ) → i < k * MARKS ⊎ (k * MARKS + MARKS ≤ i) → get_or ix' i 0 ≡ get_or ix i 0
  pub gone : (i : ℕ) → i < n → turn ix k i < MARKS → mark_of ix' k (turn ix k i) ≡ 0
  pub less : (r : ℕ) → r < MARKS → (mark_of ix' k r ≡ 0) ⊎ (mark_of ix' k r ≡ mark_of ix k r)
