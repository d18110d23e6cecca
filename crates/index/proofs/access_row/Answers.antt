-- `index::access_row` meets its contract. Rests on Rows.
use native.Mathlib.Omega.{arith}
use mathlib.Core.Path.{sym, ◌∙◌}
use Rattle.index.proofs.Rows.{no_row}
use Rattle.index.proofs.access_row.Goals as goal

pub returns-then-silent : goal.returns-then-silent
returns-then-silent c =
    no_row _ _ _ _ c.args.s.there (c.requires.1.quiet _ _ c.args.s.there.low (omega (
      arith,
      c.args.s.tables.fits.ranged.edits_high,
      c.args.s.there.high,
    )) (omega (
      arith,
      c.args.s.tables.fits.ranged.records_high,
      c.requires.0,
    )) (sym c.silent.ensures ∙ c.if-silent.true))
