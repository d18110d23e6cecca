-- `views` meets its contract: after i turns the first i asks are told. Rests on Viewing.
use Rattle.asks.proofs.Viewing.{Viewing}
use Rattle.asks.proofs.views.Given as goal

abbrev pub invariant-loop-i : goal.invariant-loop-i
invariant-loop-i l = Viewing l.words l.list l.initial.replies l.n l.i l.replies
