-- `opened::begin` meets its contract. Rests on Within and on Noting of `index`.
use mathlib.Core.Path.{refl}
use Rattle.types.specs.declared.Call.TheVariants as C
use Rattle.meaning.specs.Calls.{act_by}
use Rattle.index.proofs.Noting.{notes_begin}
use Rattle.opened.proofs.Within.{within}
use Rattle.opened.proofs.begin.Goals as goal

pub begin-reply-requires : goal.begin-reply-requires
begin-reply-requires c = c.requires.sound

pub returns : goal.returns
unfolding act_by
returns c =
    within (C.Begin) (λ s. refl) c.requires c.begin-reply.ensures (notes_begin _ _ _ c.begun.ensures)
