-- `record_clauses::locks_pass`: the pass of the locks still to come is that of all. Rests on Passing of `clauses`.
use mathlib.Core.Path.{◌≡◌}
use Rattle.tables.specs.Decode.{edits_of}
use Rattle.tables.specs.Views.{rec_in}
use Rattle.tables.specs.Walked.{values_left}
use Rattle.sweeps.specs.Sweep.{passing}
use Rattle.clauses.specs.Clauses.{lock_now, locks_pass}
use Rattle.record_clauses.proofs.locks_pass.Given as goal

abbrev pub invariant-loop-l : goal.invariant-loop-l
invariant-loop-l l =
    passing (lock_now (edits_of l.r.tables.counts l.r.tables.words.now) l.floor) l.s (values_left l.l-iterator)
    ≡ locks_pass (edits_of l.r.tables.counts l.r.tables.words.now) (rec_in l.r)
