-- What the contract of a chart reader implies: a statement, which proofs/Laws proves. Rests on Seen and on the
-- histories and charts of `history`.
use Rattle.std.specs.Prelude.{ℕ, List}
use Rattle.types.specs.Replies.{Reply, at}
use Rattle.types.specs.declared.Counts.{Counts}
use Rattle.types.specs.declared.Call.{Call}
use Rattle.history.specs.Heard.{history}
use Rattle.history.specs.StoreWords.{HistoryOn}
use Rattle.history.specs.Charts.{Chart}
use Rattle.view.specs.Seen.{Viewed}

-- All asks at p of one reader, of words that calls from one Format left, are a chart: any two of them are of the same
-- state of the plain run
abbrev pub ReaderShowsChart : Type 0
ReaderShowsChart =
    (counts : Counts) (cs : List Call) (qs : List Reply) (words : List ℕ) → HistoryOn counts cs qs words
    → (p : ℕ) → Chart (history cs qs) p (λ r q v. Viewed r p words (at q v))
