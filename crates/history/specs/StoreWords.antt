-- Demand 3 over the words of the store. A history has two premises and no more: `format`, whose contract is Formats of
-- the crate `format`, replied `ok` on a slice, whatever it held; and each call after it, with its reply, keeps the
-- contract of the public calls (Does of `meaning`, over the meaning and the soundness of words of `tables`), on the
-- words as the last one left them. So whoever uses the store through its contracts has such a history. The theorems are
-- in proofs/OverStore, under the same names. Rests on Heard and Words, on Replies of `types`, on Serializable of
-- `serial`, on Words of `tables`, on Format of `format`.
use Rattle.std.specs.Prelude.{ℕ, ◌≡◌, List}
use Rattle.types.specs.Replies.{Reply, ok}
use Rattle.types.specs.declared.Counts.{Counts}
use Rattle.types.specs.declared.Call.{Call}
use Rattle.serial.specs.Serializable.{Seq, Commits, CommitOrder}
use Rattle.tables.specs.Words.{Lent, lent, decode, sound_words}
use Rattle.format.specs.Format as format
use Rattle.history.specs.Heard.{history}
use Rattle.history.specs.Words.{Calls, SerialWords}

-- "The list follows one Format that replied `ok`; arguments are any"
pub record HistoryOn (counts : Counts) (cs : List Call) (qs : List Reply) (end : List ℕ) : Type 0 where
  pub before : List ℕ
  pub start : List ℕ
  pub formats : format.Formats counts before start ok
  pub calls : Calls Lent decode sound_words (lent start) cs qs (lent end)

-- "for every order of equal points": the plain run accepts every reply, and what a View at LAST replies on the final
-- words is its value
abbrev pub StoreWordsSerializable : Type 0
StoreWordsSerializable =
    (counts : Counts) (cs : List Call) (qs : List Reply) (end : List ℕ) → HistoryOn counts cs qs end
    → (o : Seq ℕ) → CommitOrder (history cs qs) o
    → SerialWords Lent decode sound_words counts.records (history cs qs) (lent end) o

-- there is such an order, and an edit has one commit point
abbrev pub StoreWordsOrderExists : Type 0
StoreWordsOrderExists = (counts : Counts) (cs : List Call) (qs : List Reply) (end : List ℕ) → HistoryOn counts cs qs end
    → (o : Seq ℕ) × CommitOrder (history cs qs) o

abbrev pub StoreWordsPointIsOne : Type 0
StoreWordsPointIsOne = (counts : Counts) (cs : List Call) (qs : List Reply) (end : List ℕ) → HistoryOn counts cs qs end
    → (e p t : ℕ) → Commits (history cs qs) e p → Commits (history cs qs) e t → p ≡ t
