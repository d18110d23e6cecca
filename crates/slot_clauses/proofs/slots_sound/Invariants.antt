-- `slot_clauses::slots_sound` meets its contract: one slot after the other. Rests on Counting and Slots.
use Prim.Native.Nat.{suc, ◌-◌}
use Rattle.meaning.specs.Sound.{sound_edit}
use Rattle.tables.specs.Decode.{slot_at}
use Rattle.clauses.specs.Clauses.{Stamps}
use Rattle.clauses.specs.Views.{records_in}
use Rattle.clauses.proofs.Counting.{UpTo}
use Rattle.slot_clauses.proofs.slots_sound.Given as goal

abbrev pub invariant-loop-number : goal.invariant-loop-number
invariant-loop-number l =
    UpTo (λ j. sound_edit (records_in l.t) (suc j) (slot_at l.t.counts l.t.words.now (suc j))) l.t.counts.edits
    (l.number - 1)
    × Stamps (l.number - 1) l.stamps
