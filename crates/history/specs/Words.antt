-- Demand 3 over what the store is lent: a list of calls with their replies in which neighbours are related by the
-- contracts of the public calls, from one Format that replied `ok`. Whoever uses the store through its contracts has
-- such a list. Rests on Contract and Heard; the theorems are in proofs/OverWords and proofs/Contracts, under the same
-- names.
use Rattle.std.specs.Prelude.{ℕ, ◌<◌, ◌≡◌, Bool, true, List, [], ◌∷◌}
use Rattle.types.specs.Limits.{LAST}
use Rattle.meaning.specs.Store.{Store, fresh}
use Rattle.types.specs.Values.{Val}
use Rattle.types.specs.Replies.{Reply, at}
use Rattle.meaning.specs.Edits.{beginning, writing}
use Rattle.meaning.specs.Locking.{locking, reading}
use Rattle.meaning.specs.Ending.{committing, aborting, settling}
use Rattle.meaning.specs.Records.{good_counts, purging, viewing}
use Rattle.meaning.specs.Calls.{act, run, after}
use Rattle.meaning.specs.Sound.{sound_store}
use Rattle.types.specs.declared.Counts.{Counts}
use Rattle.types.specs.declared.Call.{Call}
use Rattle.types.specs.declared.Call.TheVariants as C
use Rattle.serial.specs.Serializable.{Seq, History, Commits, plain_end, PlainFits, CommitOrder}
use Rattle.history.specs.Heard.{shown_value, history}
use Rattle.meaning.specs.Contract.{Does, Shows, Formats}

module _ (Lent : Type 0) (decode : Lent → Store) (sound_lent : Lent → Bool) where
  -- calls with their replies, each on what the one before left
  pub data Calls : Lent → List Call → List Reply → Lent → Type 0 where
    done : {w : Lent} → Calls w [] [] w
    then : {w w₁ w₂ : Lent} {c : Call} {q : Reply} {cs : List Call} {qs : List Reply}
        → Does Lent decode sound_lent (act c) w w₁ q
        → Calls w₁ cs qs w₂
        → Calls w (c ∷ cs) (q ∷ qs) w₂

  -- The premise of a call is the contract of `perform`, which takes a call of any kind. What the public function of
  -- each kind ensures is the same record; View is lent its words to read, so that they are the same afterwards
  abbrev pub Ensures : Call → Lent → Lent → Reply → Type 0
  Ensures C.Begin w w' q = Does Lent decode sound_lent beginning w w' q
  Ensures (C.Write h r v) w w' q = Does Lent decode sound_lent (writing h.0 r v) w w' q
  Ensures (C.Lock h r low high e) w w' q = Does Lent decode sound_lent (locking h.0 r low.0 high.0 e) w w' q
  Ensures (C.Read h r m e) w w' q = Does Lent decode sound_lent (reading h.0 r m.0 e) w w' q
  Ensures (C.Commit h pick f) w w' q = Does Lent decode sound_lent (committing h.0 pick f) w w' q
  Ensures (C.Abort h f) w w' q = Does Lent decode sound_lent (aborting h.0 f) w w' q
  Ensures (C.Settle h) w w' q = Does Lent decode sound_lent (settling h.0) w w' q
  Ensures (C.Purge r b) w w' q = Does Lent decode sound_lent (purging r b.0) w w' q
  Ensures (C.View r p) w w' q = Shows Lent decode sound_lent (viewing r p.0) w q × (w' ≡ w)

  abbrev pub EnsuresDoes : Type 0
  EnsuresDoes = (c : Call) (w w' : Lent) (q : Reply) → Ensures c w w' q → Does Lent decode sound_lent (act c) w w' q

  -- the list follows one Format
  pub record Listed (counts : Counts) (cs : List Call) (qs : List Reply) (end : Lent) : Type 0 where
    pub start : Lent
    pub format : Formats Lent decode sound_lent counts start
    pub calls : Calls start cs qs end

  -- the plain run of the history l in the order o, and what the store is lent at the end of l: what a View at LAST
  -- replies there, by its contract, is the plain run's value
  pub record SerialWords (records : ℕ) (l : History Val) (end : Lent) (o : Seq ℕ) : Type 0 where
    pub reads : PlainFits l o
    pub newest : (r : ℕ) (q : Reply) → r < records → Shows Lent decode sound_lent (viewing r LAST) end q
        → (p : ℕ) × (q ≡ at p (shown_value (plain_end l o r)))

  abbrev pub WordsSerializable : Type 0
  WordsSerializable = (counts : Counts) (cs : List Call) (qs : List Reply) (end : Lent) → Listed counts cs qs end
      → (o : Seq ℕ) → CommitOrder (history cs qs) o
      → SerialWords counts.records (history cs qs) end o

  abbrev pub WordsOrderExists : Type 0
  WordsOrderExists = (counts : Counts) (cs : List Call) (qs : List Reply) (end : Lent) → Listed counts cs qs end
      → (o : Seq ℕ) × CommitOrder (history cs qs) o

  abbrev pub WordsPointIsOne : Type 0
  WordsPointIsOne = (counts : Counts) (cs : List Call) (qs : List Reply) (end : Lent) → Listed counts cs qs end
      → (e p t : ℕ) → Commits (history cs qs) e p → Commits (history cs qs) e t → p ≡ t

-- The premises can be met: the abstract store itself, lent as it is, keeps the contracts, so that every list of calls
-- with its replies is such a list.
abbrev pub EveryListListed : Type 0
EveryListListed = (counts : Counts) (cs : List Call) → good_counts counts ≡ true
    → Listed Store (λ s. s) sound_store counts cs (run cs (fresh counts)) (after cs (fresh counts))
