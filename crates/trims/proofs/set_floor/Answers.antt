-- `trims::set_floor` meets its contract. Rests on OneWord of `changes`.
use native.Mathlib.Omega.{arith}
use native.Mathlib.Numerals.{add-one}
use Rattle.tables.specs.Layout.{record_table}
use Rattle.changes.proofs.OneWord.{floor_becomes}
use Rattle.trims.proofs.set_floor.Goals as goal

pub set_word-requires : goal.set_word-requires
unfolding record_table
set_word-requires c = (c.requires.0.fits, record { low = omega arith; high = omega arith }, omega arith)

pub returns : goal.returns
returns c =
    rw (c.set_word.ensures, add-one)
    (floor_becomes c.requires.0 _
    c.requires.1 _)
