-- `slots::set_generation` meets its contract. Rests on OneWord.
use native.Mathlib.Omega.{arith}
use Rattle.tables.specs.Layout.{slot_table}
use Rattle.changes.proofs.OneWord.{generation_becomes}
use Rattle.slots.proofs.set_generation.Goals as goal

pub set_word-requires : goal.set_word-requires
unfolding slot_table
set_word-requires c = (c.requires.0.fits, c.requires.1, omega arith)

pub returns : goal.returns
returns c =
    rw c.set_word.ensures
    (generation_becomes c.requires.0 _
    c.requires.1 _)
