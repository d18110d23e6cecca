-- `lookups::accesses::access_in` meets its contract: the entry of the row, or none. Rests on Found.
use mathlib.Core.Path.{◌∙◌}
use Rattle.tables.specs.Layout.{access_table}
use Rattle.lookups.proofs.Found.{access_none, access_found}
use Rattle.lookups.proofs.accesses.access_in.Goals as goal

pub read-requires : goal.read-requires
unfolding access_table
read-requires c = c.requires _ c.in-Some.is

pub returns-in-Some : goal.returns-in-Some
returns-in-Some c k e = c.read.ensures ∙ access_found _ _ k c.args.r (rw c.in-Some.is at e)

pub returns-in-None : goal.returns-in-None
returns-in-None c k e = access_none _ _ k c.args.r (rw c.in-None.is at e)
