-- `chains::partition::Check::parted` meets its contract: the free chain's rest, then one chain after the other. The
-- loop's invariant is PartInv. Rests on Parts.
use mathlib.Core.Path.{◌≡◌}
use Rattle.chains.proofs.Parts.{PartInv}
use Rattle.chains.proofs.partition.Check.parted.Given as goal

abbrev pub invariant-loop-k : goal.invariant-loop-k
invariant-loop-k l = PartInv l.fn.self.of.table l.fn.h l.fn.self.of.words.now l.self.marks l.room l.k
    × (l.self.of ≡ l.fn.self.of)
