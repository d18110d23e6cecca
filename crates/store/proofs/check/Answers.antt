-- `store::check` meets its contract. Assumes nothing.
use mathlib.Core.Path.{refl, sym, ◌∙◌}
use Rattle.store.specs.Promises.{sound_or_refused}
use Rattle.store.proofs.check.Goals as goal

pub returns-then-check : goal.returns-then-check
unfolding sound_or_refused
returns-then-check c = rw (sym c.check.ensures ∙ c.if-check.true) refl

pub returns-else-check : goal.returns-else-check
unfolding sound_or_refused
returns-else-check c = rw (sym c.check.ensures ∙ c.if-check.false) refl
