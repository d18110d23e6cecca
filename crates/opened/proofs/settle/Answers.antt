-- `opened::settle` meets its contract. Rests on Within and on Noting of `index`.
use mathlib.Core.Path.{refl}
use Rattle.types.specs.declared.Call.TheVariants as C
use Rattle.meaning.specs.Calls.{act_by}
use Rattle.index.proofs.Noting.{notes_settle}
use Rattle.opened.proofs.Within.{within}
use Rattle.opened.proofs.settle.Goals as goal

pub settle-requires : goal.settle-requires
settle-requires c = (c.requires.sound, c.requires.index)

pub returns : goal.returns
unfolding act_by
returns c =
    within (C.Settle _) (λ s. refl) c.requires c.settle.ensures (notes_settle _ _ _)
