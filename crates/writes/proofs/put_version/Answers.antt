-- `writes::put_version` meets its contract. Rests on Places of `tables`.
use mathlib.Core.Path.{refl}
use native.Mathlib.Omega.{arith}
use Rattle.writes.specs.Rows.{version_stored}
use Rattle.tables.specs.Layout.{version_table}
use Rattle.tables.proofs.Places
use Rattle.writes.proofs.put_version.Goals as goal

pub set_word-requires-2 : goal.set_word-requires-2
unfolding version_table
set_word-requires-2 c = (
  Places.version_fits _ _ _ c.requires.0
      c.set_word.ensures,
  c.requires.1,
  omega arith,
)

pub set_word-requires-3 : goal.set_word-requires-3
unfolding version_table
set_word-requires-3 c = (
  Places.version_fits _ _ _
      (Places.version_fits _ _ _ c.requires.0
      c.set_word.ensures)
      c.set_word-2.ensures,
  c.requires.1,
  omega arith,
)

pub returns : goal.returns
unfolding version_stored
returns c =
    rw (
      c.set_word-3.ensures,
      c.set_word-2.ensures,
      c.set_word.ensures,
    ) refl
