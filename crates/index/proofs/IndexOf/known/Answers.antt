-- `index::IndexOf::known` meets its contract. Rests on Says.
use mathlib.Core.Path.{sym, ◌∙◌}
use borrow.Author.Tests.{ne_eqb}
use Rattle.index.proofs.Says.{list_says, no_list}
use Rattle.index.proofs.IndexOf.known.Goals as goal

pub returns-then-self-eq-INDEX : goal.returns-then-self-eq-INDEX
returns-then-self-eq-INDEX c = sym (list_says _ c.if-self-eq-INDEX.true _)

pub returns-else-self-eq-INDEX : goal.returns-else-self-eq-INDEX
returns-else-self-eq-INDEX c = ne_eqb _ _ c.if-self-eq-INDEX.false ∙ sym (no_list _ c.if-self-eq-INDEX.false _)
