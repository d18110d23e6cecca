-- `writes::lock_tag` meets its contract. Rests on nothing.
use mathlib.Core.Path.{refl}
use Rattle.writes.specs.Rows.{lock_tag}
use Rattle.writes.proofs.lock_tag.Goals as goal

pub returns : goal.returns
unfolding lock_tag
returns c = refl
