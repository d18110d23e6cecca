-- `opened::lock` meets its contract. Rests on Within and on Noting of `index`.
use mathlib.Core.Path.{refl}
use Rattle.types.specs.declared.Call.TheVariants as C
use Rattle.meaning.specs.Calls.{act_by}
use Rattle.index.proofs.Noting.{notes_lock}
use Rattle.opened.proofs.Within.{within}
use Rattle.opened.proofs.lock.Goals as goal

pub lock-reply-requires : goal.lock-reply-requires
lock-reply-requires c = c.requires.sound

pub returns : goal.returns
unfolding act_by
returns c =
    within (C.Lock _ _ _ _ _) (λ s. refl) c.requires c.lock-reply.ensures (notes_lock _ _ _ _ _ _ _ _ c.touch.ensures)
