-- `slots::free_slot` meets its contract. Rests on OneWord.
use Rattle.meaning.specs.Ending.{ended}
use Rattle.changes.proofs.OneWord.{then_edit}
use Rattle.slots.proofs.free_slot.Goals as goal

pub set_state-requires : goal.set_state-requires
set_state-requires c = (
  c.empty_accesses.ensures.well,
  c.requires.1,
)

pub returns : goal.returns
returns c =
    then_edit _ _ (λ e. ended e 0 0) c.requires.1
    c.empty_accesses.ensures c.set_state.ensures
