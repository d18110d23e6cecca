-- `batch::run` meets its contract: it starts `steps` with an index that says nothing. Assumes nothing.
use native.Mathlib.Omega.{arith}
use Rattle.index.specs.Index.{INDEX}
use Rattle.index.proofs.Unknown.{no_index, unknown_new}
use Rattle.batch.proofs.run.Goals as goal

pub steps-requires : goal.steps-requires
steps-requires c = no_index _ (λ e. omega (arith, e))

pub steps-requires-2 : goal.steps-requires-2
steps-requires-2 c = unknown_new INDEX
