-- `CommonSet::nearest` meets its contract: the point of the first accesses, access by access. Rests on Lifts.
use Rattle.std.specs.Iterator.Adapters.{enumerate_source, enumerate_count}
use Rattle.tables.specs.Walked.{values_left}
use Rattle.common.specs.Commit.{allows_at, recs_in}
use Rattle.common.proofs.Lifts.{Seeking}
use Rattle.common.proofs.sets.CommonSet.nearest.Given as goal

abbrev pub invariant-loop-j : goal.invariant-loop-j
invariant-loop-j g l =
    let t = l.self.slot.tables in
    Seeking (allows_at g.E.End.point (recs_in l.self) l.self.slot.number) t.counts t.words.now l.self.slot.number l.p
    (enumerate_count l.j-iterator) (values_left (enumerate_source l.j-iterator))
