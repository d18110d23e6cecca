-- `writes::put_lock` meets its contract. Rests on Places of `tables`.
use mathlib.Core.Path.{refl}
use native.Mathlib.Omega.{arith}
use Rattle.writes.specs.Rows.{lock_stored}
use Rattle.tables.specs.Layout.{lock_table}
use Rattle.tables.proofs.Places
use Rattle.writes.proofs.put_lock.Goals as goal

pub set_word-requires-2 : goal.set_word-requires-2
unfolding lock_table
set_word-requires-2 c = (
  Places.lock_fits _ _ _ c.requires.0
      c.set_word.ensures,
  c.requires.1,
  omega arith,
)

pub set_word-requires-3 : goal.set_word-requires-3
unfolding lock_table
set_word-requires-3 c = (
  Places.lock_fits _ _ _
      (Places.lock_fits _ _ _ c.requires.0
      c.set_word.ensures)
      c.set_word-2.ensures,
  c.requires.1,
  omega arith,
)

pub set_word-requires-4 : goal.set_word-requires-4
unfolding lock_table
set_word-requires-4 c = (
  Places.lock_fits _ _ _
      (Places.lock_fits _ _ _
      (Places.lock_fits _ _ _ c.requires.0 c.set_word.ensures)
      c.set_word-2.ensures)
      c.set_word-3.ensures,
  c.requires.1,
  omega arith,
)

pub returns : goal.returns
unfolding lock_stored
returns c =
    rw (
      c.set_word-4.ensures,
      c.set_word-3.ensures,
      c.set_word-2.ensures,
      c.set_word.ensures,
      c.lock_tag-tag.ensures,
    ) refl
