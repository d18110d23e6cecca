-- `trims::raised_low` meets its contract. Rests on nothing.
use mathlib.Core.Path.{refl}
use native.Mathlib.Numerals.{add-one}
use borrow.Author.Tests.{eq-eqb, ne_eqb}
use Rattle.trims.proofs.raised_low.Goals as goal

pub returns-then-l-eq-SETTLED : goal.returns-then-l-eq-SETTLED
returns-then-l-eq-SETTLED c = rw (eq-eqb _ _ c.if-l-eq-SETTLED.true, c.max.ensures, add-one) refl

pub returns-else-l-eq-SETTLED : goal.returns-else-l-eq-SETTLED
returns-else-l-eq-SETTLED c = rw (ne_eqb _ _ c.if-l-eq-SETTLED.false) refl
