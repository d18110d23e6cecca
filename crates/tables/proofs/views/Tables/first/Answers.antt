-- `tables::views::Tables::first` meets its contract: the head words lie where the kind of row says. Rests on Cells of
-- `chains`.
use Rattle.chains.proofs.Cells.{heads_lie}
use Rattle.tables.proofs.views.Tables.first.Goals as goal

pub head_of-requires : goal.head_of-requires
head_of-requires g c =
    rw c.heads.ensures (
      heads_lie (g.met.R.Row.laid c.args.self.counts c.args.self.words.now c.args.self.fits),
      c.requires,
    )
