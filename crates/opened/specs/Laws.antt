-- What the contracts of a session's calls imply: statements, which proofs/Laws proves. Rests on Opened and on the
-- histories of `history`.
use Rattle.std.specs.Prelude.{ℕ, List, [], ◌∷◌}
use Rattle.types.specs.Replies.{Reply, ok}
use Rattle.types.specs.declared.Counts.{Counts}
use Rattle.types.specs.declared.Call.{Call}
use Rattle.meaning.specs.Calls.{act}
use Rattle.tables.specs.Words.{Lent, lent, decode, sound_words}
use Rattle.format.specs.Format.{Formats}
use Rattle.history.specs.Heard.{history}
use Rattle.history.specs.Words.{Calls}
use Rattle.history.specs.StoreWords.{HistoryOn}
use Rattle.history.specs.Charts.{Charts}
use Rattle.opened.specs.Opened.{Opened, Within}

-- calls with their replies in a session, each on the words and the index as the one before left them
pub data InSession : List ℕ → List ℕ → List Call → List Reply → List ℕ → List ℕ → Type 0 where
  done : {w ix : List ℕ} → InSession w ix [] [] w ix
  then : {w w₁ w₂ ix ix₁ ix₂ : List ℕ} {c : Call} {q : Reply} {cs : List Call} {qs : List Reply}
      → Opened w ix
      → Within (act c) w w₁ ix₁ q
      → InSession w₁ ix₁ cs qs w₂ ix₂
      → InSession w ix (c ∷ cs) (q ∷ qs) w₂ ix₂

-- such calls are calls like those of the public functions, so that both may stand in one history
abbrev pub SessionCalls : Type 0
SessionCalls = (w ix w' ix' : List ℕ) (cs : List Call) (qs : List Reply) → InSession w ix cs qs w' ix'
    → Calls Lent decode sound_words (lent w) cs qs (lent w')

-- a session after one Format that replied `ok` is a history, of which demand 3 speaks
abbrev pub SessionIsHistory : Type 0
SessionIsHistory = (counts : Counts) (before start ix end ix' : List ℕ) (cs : List Call) (qs : List Reply)
    → Formats counts before start ok
    → InSession start ix cs qs end ix'
    → HistoryOn counts cs qs end

-- what is promised of charts holds of a session after any calls from such a Format
abbrev pub SessionCharts : Type 0
SessionCharts = (counts : Counts) (cs ds : List Call) (qs ps : List Reply) (start ix end ix' : List ℕ)
    → HistoryOn counts cs qs start
    → InSession start ix ds ps end ix'
    → Charts Lent decode sound_words (history cs qs) (lent start) ds ps (lent end)
