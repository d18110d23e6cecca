-- `updates::relink` meets its contract: its three stores are those of relinked. Rests on Cells.
use mathlib.Core.Path.{◌∙◌}
use Rattle.chains.specs.Change.{relinked}
use Rattle.chains.proofs.Cells.{lies, heads_lie, laid_same}
use Rattle.updates.proofs.relink.Goals as goal

pub set_after-requires : goal.set_after-requires
set_after-requires c = (c.requires.0.laid, c.requires.0.a_in, c.requires.2)

pub put-requires : goal.put-requires
put-requires c = (
  lies (laid_same _ c.set_after.auto.w
      c.requires.0.laid),
  c.requires.1,
  c.requires.0.laid.within,
)

pub set_head-requires : goal.set_head-requires
set_head-requires c = (
  heads_lie (laid_same _
      (c.put.auto.w
      ∙ c.set_after.auto.w)
      c.requires.0.laid),
  c.requires.0.b_in,
)

pub returns : goal.returns
unfolding relinked
returns c =
    rw (
      c.set_head.ensures,
      c.put.ensures,
      c.set_after.ensures,
    )
