-- What the contract of the batch implies: statements, which proofs/Laws proves. Rests on Runs and the histories of
-- `history`.
use Rattle.std.specs.Prelude.{ℕ, List}
use Rattle.types.specs.Replies.{Reply, ok}
use Rattle.types.specs.declared.Counts.{Counts}
use Rattle.types.specs.declared.Call.{Call}
use Rattle.tables.specs.Words.{Lent, lent, decode, sound_words}
use Rattle.format.specs.Format.{Formats}
use Rattle.history.specs.Heard.{history}
use Rattle.history.specs.StoreWords.{HistoryOn}
use Rattle.history.specs.Charts.{Charts}
use Rattle.encoding.specs.Encoding.{calls_of}
use Rattle.batch.specs.Runs.{Runs}

-- a batch after one Format that replied `ok` is a history, of which demand 3 speaks
abbrev pub BatchIsHistory : Type 0
BatchIsHistory = (counts : Counts) (before start end list area area' : List ℕ) (n : ℕ) → Formats counts before start ok
    → (r : Runs list start end area area' n) → HistoryOn counts (calls_of list n) r.replies end

-- What is promised of charts holds of a batch after any calls from such a Format: every View in it shows a moment of
-- the plain run (`views`), and what was viewed before it stays as if its calls were made one by one
abbrev pub BatchCharts : Type 0
BatchCharts = (counts : Counts) (cs : List Call) (qs : List Reply) (start end list area area' : List ℕ) (n : ℕ)
    → HistoryOn counts cs qs start
    → (r : Runs list start end area area' n)
    → Charts Lent decode sound_words (history cs qs) (lent start) (calls_of list n) r.replies (lent end)
