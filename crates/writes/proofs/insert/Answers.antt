-- `writes::insert` meets its contract. Rests on nothing.
use native.Mathlib.Numerals.{add-one}
use Rattle.writes.proofs.insert.Goals as goal

pub insert_sorted-requires : goal.insert_sorted-requires
insert_sorted-requires g c =
    rw (c.table.ensures, c.heads.ensures, add-one) (c.requires.2, c.requires.3)

pub returns : goal.returns
returns g c = rw add-one at (rw (c.table.ensures, c.heads.ensures) at c.insert_sorted.ensures)
