-- `blocking::first_free` meets its contract: what the walk finds from here is what it finds from the start.
use mathlib.Core.Path.{◌≡◌}
use Rattle.tables.specs.Views.{rec_in}
use Rattle.tables.specs.Walked.{values_left}
use Rattle.blocking.specs.Search.{reach}
use Rattle.blocking.proofs.first_free.Given as goal

abbrev pub invariant-loop-l : goal.invariant-loop-l
invariant-loop-l l =
    reach l.which l.p.high l.end (values_left l.l-iterator) ≡ reach l.which l.p.high l.p.low (rec_in l.r).locks
