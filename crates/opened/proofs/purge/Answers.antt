-- `opened::purge` meets its contract. Rests on Within and on Noting of `index`.
use mathlib.Core.Path.{refl}
use Rattle.types.specs.declared.Call.TheVariants as C
use Rattle.meaning.specs.Calls.{act_by}
use Rattle.index.proofs.Noting.{notes_purge}
use Rattle.opened.proofs.Within.{within}
use Rattle.opened.proofs.purge.Goals as goal

pub purge-requires : goal.purge-requires
purge-requires c = c.requires.sound

pub returns : goal.returns
unfolding act_by
returns c =
    within (C.Purge _ _) (λ s. refl) c.requires c.purge.ensures (notes_purge _ _ _ _)
