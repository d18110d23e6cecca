-- The nearest point from below is the earliest. Rests on TwoEnds.
use Rattle.tables.specs.Views.{edit_in}
use Rattle.common.specs.Commit.{recs_in}
use Rattle.common.proofs.TwoEnds.{earliest_is}
use Rattle.common.proofs.sets.CommonSet.earliest.Goals as goal

pub returns : goal.returns
returns c = earliest_is (recs_in c.args.self) c.args.self.slot.number (edit_in c.args.self.slot) _ c.nearest.ensures
