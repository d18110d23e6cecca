use mathlib.Core.Path.{◌∙◌, refl}
use Rattle.std.proofs.lemmas.Iterator.{YieldsList-from_take}
use Rattle.std.proofs.lemmas.Iterator.Consumers.{YieldsList-at, YieldsList-from_first, count_from_yields_List}
use Rattle.chains.specs.Table.{rows_of}
use Rattle.chains.specs.Walker.{rows_left}
use Rattle.lookups.proofs.Rooms.{enough_free}
use Rattle.lookups.proofs.free_rows.has_free.Goals as goal

pub returns : goal.returns
unfolding rows_of
returns g c =
    enough_free _ _ _ c.requires c.args.most
    (count_from_yields_List c.take.result _ c.count.ensures.ran
    (YieldsList-from_take c.args.most
    (YieldsList-at c.take.ensures.source
    (YieldsList-from_first (λ i. i) rows_left _
    (c.rows.ensures ∙ rw (c.part.ensures.0, c.part.ensures.1, c.first.ensures) refl)))
    c.take.ensures.count))
