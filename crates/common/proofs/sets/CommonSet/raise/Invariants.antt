-- `CommonSet::raise` meets its contract: one pass over the first accesses. Rests on Lifts.
use Prim.Native.Nat.{◌≤◌}
use lib.ListN.{take}
use Rattle.std.specs.Iterator.Adapters.{take_source, take_count}
use Rattle.types.specs.Limits.{LAST}
use Rattle.tables.specs.Walked.{values_left}
use Rattle.common.specs.Commit.{allows_at, first_in, recs_in}
use Rattle.common.proofs.Common.{Named}
use Rattle.common.proofs.Lifts.{Raising}
use Rattle.common.proofs.sets.CommonSet.raise.Given as goal

abbrev pub invariant-loop-a : goal.invariant-loop-a
invariant-loop-a g l =
    Raising (allows_at g.E.End.point (recs_in l.self) l.self.slot.number) (first_in l.self l.fn.j)
    (take (take_count l.a-iterator) (values_left (take_source l.a-iterator))) l.p l.q
    × Named l.self.slot.tables.counts l.self.slot.tables.words.now (values_left (take_source l.a-iterator))
    × (l.q ≤ LAST)
