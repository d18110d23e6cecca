-- `opened::write` meets its contract. Rests on Within and on Noting of `index`.
use mathlib.Core.Path.{refl}
use Rattle.types.specs.declared.Call.TheVariants as C
use Rattle.meaning.specs.Calls.{act_by}
use Rattle.index.proofs.Noting.{notes_write}
use Rattle.opened.proofs.Within.{within}
use Rattle.opened.proofs.write.Goals as goal

pub write-reply-requires : goal.write-reply-requires
write-reply-requires c = (c.requires.sound, c.requires.index)

pub returns : goal.returns
unfolding act_by
returns c =
    within (C.Write _ _ _) (λ s. refl) c.requires c.write-reply.ensures (notes_write _ _ _ _ _ _
    c.touch.ensures)
