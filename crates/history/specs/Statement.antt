-- Demand 3 of document 01, "The plain, serial run", for the calls of the crate meaning: "one claim about the whole
-- list, not one for each call". CommitOrder, PlainFits and plain_end are the crate serial's; the theorems are in
-- proofs/Theorem, under the same names. Rests on Heard, on Limits and Replies of `types`, on Store, Records and Calls
-- of `meaning`, on Serializable of `serial`.
use Rattle.std.specs.Prelude.{ℕ, ◌<◌, ◌≡◌, true, List}
use Rattle.types.specs.Limits.{LAST}
use Rattle.meaning.specs.Store.{Store, fresh}
use Rattle.types.specs.Values.{Val}
use Rattle.types.specs.Replies.{at}
use Rattle.meaning.specs.Records.{good_counts, viewing}
use Rattle.meaning.specs.Calls.{run, after}
use Rattle.types.specs.declared.Counts.{Counts}
use Rattle.types.specs.declared.Call.{Call}
use Rattle.serial.specs.Serializable.{Seq, History, Commits, plain_end, PlainFits, CommitOrder}
use Rattle.history.specs.Heard.{shown_value, history}

-- the plain run of the history l in the order o, and the store at the end of l
pub record SerialStore (records : ℕ) (l : History Val) (end : Store) (o : Seq ℕ) : Type 0 where
  -- "A Read that replied `read`, `own` or `again` must have the record's present value in its reply"
  pub reads : PlainFits l o
  -- "A record's newest value is the value that View at LAST replies; at the end it is the plain run's value, never
  -- written included."
  pub newest : (r : ℕ) → r < records → (p : ℕ) × ((viewing r LAST end).reply ≡ at p (shown_value (plain_end l o r)))

-- "The list follows one Format that replied `ok`; arguments are any": a list of calls on a fresh store, with the
-- replies that they get
abbrev pub replied : Counts → List Call → History Val
replied counts cs = history cs (run cs (fresh counts))

-- "by rising commit point and for every order of equal points"
abbrev pub StoreSerializable : Type 0
StoreSerializable = (counts : Counts) (cs : List Call) → good_counts counts ≡ true
    → (o : Seq ℕ) → CommitOrder (replied counts cs) o
    → SerialStore counts.records (replied counts cs) (after cs (fresh counts)) o

-- there is such an order, and an edit has one commit point
abbrev pub StoreOrderExists : Type 0
StoreOrderExists =
    (counts : Counts) (cs : List Call) → good_counts counts ≡ true → (o : Seq ℕ) × CommitOrder (replied counts cs) o

abbrev pub StorePointIsOne : Type 0
StorePointIsOne = (counts : Counts) (cs : List Call) → good_counts counts ≡ true
    → (e p t : ℕ) → Commits (replied counts cs) e p → Commits (replied counts cs) e t → p ≡ t
