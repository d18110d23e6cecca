-- `blocking::nearest` meets its contract: what the walk finds from here is what it finds from the start.
use mathlib.Core.Path.{◌≡◌}
use Rattle.std.specs.Prelude.{None}
use Rattle.tables.specs.Views.{rec_in}
use Rattle.tables.specs.Walked.{values_left}
use Rattle.blocking.specs.Search.{nearest}
use Rattle.blocking.proofs.nearest.Given as goal

abbrev pub invariant-loop-l : goal.invariant-loop-l
invariant-loop-l l =
    nearest l.a.mode l.a.slot l.p.low l.p.high l.best (values_left l.l-iterator)
    ≡ nearest l.a.mode l.a.slot l.p.low l.p.high None (rec_in l.r).locks
