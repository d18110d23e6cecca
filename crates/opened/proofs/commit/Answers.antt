-- `opened::commit` meets its contract. Rests on Within and on Noting of `index`.
use mathlib.Core.Path.{refl}
use Rattle.types.specs.declared.Call.TheVariants as C
use Rattle.meaning.specs.Calls.{act_by}
use Rattle.index.proofs.Noting.{notes_commit}
use Rattle.opened.proofs.Within.{within}
use Rattle.opened.proofs.commit.Goals as goal

pub commit-requires : goal.commit-requires
commit-requires c = (c.requires.sound, c.requires.index)

pub returns : goal.returns
unfolding act_by
returns c =
    within (C.Commit _ _ _) (λ s. refl) c.requires c.commit.ensures (notes_commit _ _ _ _ _)
