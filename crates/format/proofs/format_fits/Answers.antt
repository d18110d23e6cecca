-- `format::format_fits` meets its contract. Rests on Header of `tables`.
use mathlib.Core.Path.{sym, ap, ◌∙◌}
use lib.Dec.{eqb}
use Rattle.tables.proofs.Header.{good_ranged}
use Rattle.format.specs.Format.{format_fits}
use Rattle.format.proofs.format_fits.Goals as goal

pub size_of-requires : goal.size_of-requires
size_of-requires c = good_ranged _ (sym c.good_counts.ensures ∙ c.if-good_counts.true)

pub returns-then-good_counts : goal.returns-then-good_counts
unfolding format_fits
returns-then-good_counts c =
    rw (sym c.good_counts.ensures ∙ c.if-good_counts.true)
    (ap (eqb c.args.n) c.size_of.ensures)

pub returns-else-good_counts : goal.returns-else-good_counts
unfolding format_fits
returns-else-good_counts c =
    rw (sym c.good_counts.ensures ∙ c.if-good_counts.false) c.if-good_counts.false
