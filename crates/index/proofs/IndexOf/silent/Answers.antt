-- `index::IndexOf::silent` meets its contract. Rests on Says.
use mathlib.Core.Path.{sym, ◌∙◌}
use borrow.Author.Tests.{ne_eqb}
use Rattle.index.proofs.Says.{mark_says, no_mark}
use Rattle.index.proofs.IndexOf.silent.Goals as goal

pub returns-then-self-eq-INDEX : goal.returns-then-self-eq-INDEX
returns-then-self-eq-INDEX c = sym (mark_says _ c.if-self-eq-INDEX.true _ _)

pub returns-else-self-eq-INDEX : goal.returns-else-self-eq-INDEX
returns-else-self-eq-INDEX c = ne_eqb _ _ c.if-self-eq-INDEX.false ∙ sym (no_mark _ c.if-self-eq-INDEX.false _ _)
