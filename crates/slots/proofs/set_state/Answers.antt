-- `slots::set_state` meets its contract. Rests on OneWord, on Places of `tables`.
use native.Mathlib.Omega.{arith}
use Rattle.tables.specs.Layout.{slot_table}
use Rattle.tables.proofs.Places.{slot_fits}
use Rattle.changes.proofs.OneWord.{set_state_law}
use Rattle.slots.proofs.set_state.Goals as goal

pub set_word-requires : goal.set_word-requires
unfolding slot_table
set_word-requires c = (c.requires.0.fits, c.requires.1, omega arith)

pub set_word-requires-2 : goal.set_word-requires-2
unfolding slot_table
set_word-requires-2 c = (
  slot_fits _ _ _ c.requires.0.fits
      c.set_word.ensures,
  c.requires.1,
  omega arith,
)

pub returns : goal.returns
returns c =
    set_state_law _ _ c.requires.0 c.requires.1
    c.set_word.ensures c.set_word-2.ensures
