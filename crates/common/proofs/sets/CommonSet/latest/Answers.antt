-- The nearest point from above is the latest. Rests on TwoEnds.
use mathlib.Core.Path.{◌∙◌}
use Rattle.tables.specs.Views.{edit_in}
use Rattle.common.specs.Commit.{recs_in}
use Rattle.common.proofs.TwoEnds.{latest_none, latest_some}
use Rattle.common.proofs.sets.CommonSet.latest.Goals as goal

pub returns-in_err-d : goal.returns-in_err-d
returns-in_err-d c =
    c.from_residual.ensures
    ∙ latest_none (recs_in c.args.self) c.args.self.slot.number (edit_in c.args.self.slot)
    (rw c.in_err-d.was at c.nearest.ensures)

pub returns : goal.returns
returns c =
    latest_some (recs_in c.args.self) c.args.self.slot.number (edit_in c.args.self.slot)
    (rw c.in_ok-d.was at c.nearest.ensures)
