-- `writes::put_access` meets its contract. Rests on Places of `tables`.
use mir.Val.{bool_byte}
use mathlib.Core.Path.{◌≡◌, refl}
use mathlib.Core.Bool.{Bool, true, false}
use native.Mathlib.Omega.{arith}
use Rattle.writes.specs.Rows.{written_mark, access_stored}
use Rattle.tables.specs.Layout.{access_table}
use Rattle.tables.proofs.Places
use Rattle.writes.proofs.put_access.Goals as goal

pub set_word-requires-2 : goal.set_word-requires-2
unfolding access_table
set_word-requires-2 c = (
  Places.access_fits _ _ _ c.requires.0
      c.set_word.ensures,
  c.requires.1,
  omega arith,
)

pub set_word-requires-3 : goal.set_word-requires-3
unfolding access_table
set_word-requires-3 c = (
  Places.access_fits _ _ _
      (Places.access_fits _ _ _ c.requires.0
      c.set_word.ensures)
      c.set_word-2.ensures,
  c.requires.1,
  omega arith,
)

pub set_word-requires-4 : goal.set_word-requires-4
unfolding access_table
set_word-requires-4 c = (
  Places.access_fits _ _ _
      (Places.access_fits _ _ _
      (Places.access_fits _ _ _ c.requires.0 c.set_word.ensures)
      c.set_word-2.ensures)
      c.set_word-3.ensures,
  c.requires.1,
  omega arith,
)

-- a flag as the code stores it
counted : (b : Bool) → bool_byte b ≡ written_mark b
unfolding written_mark
counted true = refl
counted false = refl

pub returns : goal.returns
unfolding access_stored
returns c =
    rw (
      c.set_word-4.ensures,
      c.set_word-3.ensures,
      c.set_word-2.ensures,
      c.set_word.ensures,
      counted c.is_some.result,
      c.is_some.ensures,
      c.written.ensures,
      c.word.ensures,
    ) refl
