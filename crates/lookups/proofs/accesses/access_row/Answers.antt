-- `lookups::accesses::access_row` meets its contract: the first row of the chain that names the record. Rests on Found.
use mathlib.Core.Path.{◌∙◌}
use native.Mathlib.Omega.{arith}
use Rattle.tables.specs.Layout.{access_table, access_heads}
use Rattle.lookups.proofs.Found.{access_row_is}
use Rattle.lookups.proofs.accesses.access_row.Goals as goal

pub first-requires : goal.first-requires
unfolding access_heads
first-requires c = c.args.s.there.high

pub first_with-requires : goal.first_with-requires
unfolding access_table
first_with-requires c = rw c.part.ensures.1 (omega arith)

pub returns : goal.returns
returns c =
    c.first_with.ensures ∙ rw (c.part.ensures.0, c.part.ensures.1)
    (access_row_is _ _ c.args.s.number c.args.r c.first.ensures)
