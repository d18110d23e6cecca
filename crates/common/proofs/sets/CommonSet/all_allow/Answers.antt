-- The accesses are those of the slot, and each names a record that exists. Rests on Chained of `tables` and on Fronts.
use borrow.Author.Tests.{tests}
use Rattle.std.proofs.Common.{rules, of_calls}
use Rattle.meaning.specs.Points.{allows}
use Rattle.tables.proofs.Chained.{all_rows}
use Rattle.common.specs.Commit.{recs_in}
use Rattle.common.proofs.Common.{named, named_all, named_rec}
use Rattle.common.proofs.Fronts.{asked_each}
use Rattle.common.proofs.sets.CommonSet.all_allow.Goals as goal

pub all-requires-clause-callable : goal.all-requires-clause-callable
all-requires-clause-callable c =
    let t = c.args.self.slot.tables in
    asked_each (named t.counts t.words.now) c.accesses.ensures (named_all _ _ _ c.args.self.named)
    (λ x q k. search (rules, tests))
    (λ x n. let r = named_rec t.counts t.words.now x n in search (rules, of_calls))

pub returns : goal.returns
returns c =
    all_rows (allows (recs_in c.args.self) c.args.self.slot.number c.args.p) c.all.new.self c.all.ensures.ran
    c.accesses.ensures (λ x b q k. search (rules, tests))
