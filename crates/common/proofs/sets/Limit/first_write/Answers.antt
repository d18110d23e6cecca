-- The fold keeps the least of the distances of the write locks. Rests on Reach and Common.
use mathlib.Core.Path.{ap, ◌∙◌}
use Rattle.std.proofs.Common.{rules}
use Rattle.std.proofs.lemmas.Iterator.Consumers.{YieldsList-from_first, fold_from_yields_List}
use Rattle.types.specs.Limits.{LAST}
use Rattle.meaning.specs.Points.{writes}
use Rattle.tables.specs.Walked.{values_left}
use Rattle.blocking.specs.Search.{upto}
use Rattle.common.specs.Commit.{nearer, first_under}
use Rattle.common.proofs.Common.{own_in}
use Rattle.common.proofs.Reach.{first_under_own}
use Rattle.common.proofs.sets.Limit.first_write.Goals as goal

pub returns : goal.returns
returns g c =
    fold_from_yields_List _ (nearer g.E.End.near g.E.End.far c.owner-k.result c.args.d) _ _ c.fold.ensures.ran
    (YieldsList-from_first (λ x. x) values_left _ c.locks.ensures) (λ a x b q k. search rules)
    ∙ first_under_own g.E.End.point g.E.End.near g.E.End.far g.met.E.End.sees _ _ _
    ∙ ap (λ ls. upto LAST (first_under g.E.End.near g.E.End.far (writes ls) c.args.d))
    (own_in c.args.self c.named.result c.owner-k.ensures c.named.ensures)
