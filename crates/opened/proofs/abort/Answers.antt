-- `opened::abort` meets its contract. Rests on Within and on Noting of `index`.
use mathlib.Core.Path.{refl}
use Rattle.types.specs.declared.Call.TheVariants as C
use Rattle.meaning.specs.Calls.{act_by}
use Rattle.index.proofs.Noting.{notes_abort}
use Rattle.opened.proofs.Within.{within}
use Rattle.opened.proofs.abort.Goals as goal

pub abort-requires : goal.abort-requires
abort-requires c = (c.requires.sound, c.requires.index)

pub returns : goal.returns
unfolding act_by
returns c =
    within (C.Abort _ _) (λ s. refl) c.requires c.abort.ensures (notes_abort _ _ _ _)
