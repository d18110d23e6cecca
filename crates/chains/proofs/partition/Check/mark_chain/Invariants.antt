-- `chains::partition::Check::mark_chain` meets its contract. The loop's invariant is Advanced. Rests on Parts.
use mathlib.Core.Path.{◌≡◌}
use Rattle.chains.specs.Partition.{Advanced}
use Rattle.chains.proofs.partition.Check.mark_chain.Given as goal

abbrev pub invariant-loop-row : goal.invariant-loop-row
invariant-loop-row l =
    Advanced l.initial.self.of.table l.initial.self.of.words.now l.initial.self.marks l.initial.walk l.self.marks l.walk
    × (l.self.of ≡ l.initial.self.of)

abbrev pub decreases-loop-row : goal.decreases-loop-row
decreases-loop-row l = l.walk.left
