-- What the contract of the views implies: statements, which proofs/Laws proves. Rests on Views, on Contract of
-- `meaning`, and on the histories and charts of `history`.
use Rattle.std.specs.Prelude.{ℕ, ◌+◌, ◌*◌, ◌≡◌, List}
use Rattle.types.specs.Replies.{Reply, at}
use Rattle.types.specs.Values.{Value}
use Rattle.types.specs.declared.Counts.{Counts}
use Rattle.types.specs.declared.Call.{Call}
use Rattle.meaning.specs.Records.{viewing}
use Rattle.meaning.specs.Contract.{Shows}
use Rattle.tables.specs.Words.{Lent, lent, decode, sound_words}
use Rattle.history.specs.Heard.{history}
use Rattle.history.specs.StoreWords.{HistoryOn}
use Rattle.history.specs.Charts.{Chart}
use Rattle.encoding.specs.Encoding.{word_at}
use Rattle.asks.specs.Views.{ASK_WORDS, asked, asked_at}

-- the reply to an ask is one that the contract of View promises
abbrev pub AskedShows : Type 0
AskedShows = (r p : ℕ) (words : List ℕ) → Shows Lent decode sound_words (viewing r p) (lent words) (asked r p words)

-- an ask of the list is of record r at p, and its reply is `at q v`
pub record AsksFor (words list : List ℕ) (p r q : ℕ) (v : Value) : Type 0 where
  pub ask : ℕ
  pub rec : word_at list (ask * ASK_WORDS) ≡ r
  pub at_point : word_at list (ask * ASK_WORDS + 1) ≡ p
  pub reply : asked_at words list ask ≡ at q v

-- all replies to the asks at p of one list, of words that calls from one Format left, are a chart
abbrev pub AsksShowChart : Type 0
AsksShowChart = (counts : Counts) (cs : List Call) (qs : List Reply) (words : List ℕ) → HistoryOn counts cs qs words
    → (list : List ℕ) (p : ℕ) → Chart (history cs qs) p (AsksFor words list p)
