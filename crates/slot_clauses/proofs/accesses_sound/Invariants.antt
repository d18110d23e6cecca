-- `slot_clauses::accesses_sound`: what is left to test with the stamps as they are is the answer. Rests on Stamping of
-- `clauses`.
use mathlib.Core.Path.{◌≡◌}
use Rattle.tables.specs.Views.{edit_in}
use Rattle.tables.specs.Walked.{values_left}
use Rattle.clauses.specs.Clauses.{accesses_sound, Stamps}
use Rattle.clauses.specs.Views.{records_in}
use Rattle.slot_clauses.proofs.accesses_sound.Given as goal

abbrev pub invariant-loop-a : goal.invariant-loop-a
invariant-loop-a l =
    (accesses_sound (records_in l.s.tables) l.s.number l.stamps (values_left l.a-iterator)
    ≡ accesses_sound (records_in l.s.tables) l.s.number l.initial.stamps (edit_in l.s).accesses)
    × Stamps l.s.number l.stamps
