-- `opened::read` meets its contract. Rests on Within and on Noting of `index`.
use mathlib.Core.Path.{refl}
use Rattle.types.specs.declared.Call.TheVariants as C
use Rattle.meaning.specs.Calls.{act_by}
use Rattle.index.proofs.Noting.{notes_read}
use Rattle.opened.proofs.Within.{within}
use Rattle.opened.proofs.read.Goals as goal

pub read-reply-requires : goal.read-reply-requires
read-reply-requires c = (c.requires.sound, c.requires.index)

pub returns : goal.returns
unfolding act_by
returns c =
    within (C.Read _ _ _ _) (λ s. refl) c.requires c.read-reply.ensures (notes_read _ _ _ _ _ _ _
    c.touch.ensures)
