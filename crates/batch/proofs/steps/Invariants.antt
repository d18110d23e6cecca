-- `batch::steps` meets its contract. Rests on Running.
use mathlib.Core.Path.{◌≡◌}
use lib.ListN.{length}
use Rattle.tables.specs.Words.{lent, decode}
use Rattle.index.specs.Index.{Indexed}
use Rattle.batch.proofs.Running.{Running}
use Rattle.batch.proofs.steps.Given as goal

abbrev pub invariant-loop-i : goal.invariant-loop-i
invariant-loop-i l =
    Running l.list l.initial.words l.initial.replies l.n l.i l.words l.replies × Indexed (decode (lent l.words))
    l.ix × (length l.ix ≡ length l.initial.ix)
