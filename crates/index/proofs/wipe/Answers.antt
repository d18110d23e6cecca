-- `wipe` meets its contract.
use mathlib.Core.Path.{sym, ◌∙◌}
use Rattle.index.proofs.wipe.Goals as goal

pub wipe_all-requires : goal.wipe_all-requires
wipe_all-requires c = (
  c.requires.0,
  c.requires.1,
  sym c.known.ensures ∙ c.if-known.false,
)
