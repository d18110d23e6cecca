-- `slots::open_slot` meets its contract. Rests on OneWord.
use mathlib.Core.Path.{ap, ◌∙◌}
use native.Mathlib.Omega.{arith}
use Rattle.types.specs.Numbers.{next_generation}
use Rattle.changes.proofs.OneWord.{generation_is, open_slot_law}
use Rattle.slots.proofs.open_slot.Goals as goal

pub overflow_cast-g : goal.overflow_cast-g
overflow_cast-g c =
    omega (
      arith,
      c.requires.2,
      generation_is c.requires.0 c.requires.1
          c.generation-g.ensures,
    )

pub set_state-requires : goal.set_state-requires
set_state-requires c =
    (c.set_generation.ensures.well, c.requires.1)

pub returns : goal.returns
returns c =
    open_slot_law _ c.requires.0 c.requires.1
    (c.next_generation-next.ensures
    ∙ ap next_generation
    (generation_is c.requires.0 c.requires.1 c.generation-g.ensures))
    c.requires.3 c.set_generation.ensures c.set_state.ensures
