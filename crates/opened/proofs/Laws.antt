-- The laws of specs/Laws. Rests on the records they speak of and on Charts of `history`.
use Rattle.history.specs.Words.{done, then}
use Rattle.history.proofs.Charts.{store_words_charts}
use Rattle.opened.specs.Laws.{SessionCalls, SessionIsHistory, SessionCharts}
use Rattle.opened.specs.Laws as S

pub session_calls_lem : SessionCalls
session_calls_lem w ix w' ix' cs qs S.done = done
session_calls_lem w ix w' ix' cs qs (S.then {w₁ = w₁} {ix₁ = ix₁} {cs = ds} {qs = ps} o d m) =
    then d.does (session_calls_lem w₁ ix₁ w' ix' ds ps m)

pub session_is_history : SessionIsHistory
session_is_history counts before start ix end ix' cs qs f m =
    record { before = before; start = start; formats = f; calls = session_calls_lem start ix end ix' cs qs m }

pub session_charts : SessionCharts
session_charts counts cs ds qs ps start ix end ix' h m =
    store_words_charts counts cs qs start h ds ps end (session_calls_lem start ix end ix' ds ps m)
