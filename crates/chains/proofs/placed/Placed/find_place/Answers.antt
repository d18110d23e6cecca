-- The place that is found is the last row of the front whose words come before.
-- Rests on Fielded.
use mathlib.Core.Path.{◌∙◌}
use borrow.Author.Tests.{tests}
use Rattle.std.proofs.Common.{rules, ℕ}
use Rattle.std.proofs.lemmas.Iterator.Search.{YieldsList-from_take_while}
use Rattle.std.proofs.lemmas.Iterator.Consumers.{YieldsList-at, YieldsList-from_first, fold_from_yields_List}
use Rattle.chains.specs.Table.{stands_before}
use Rattle.chains.specs.Walker.{fields_left}
use Rattle.chains.proofs.Fielded.{place_words}
use Rattle.chains.proofs.placed.Placed.find_place.Goals as goal

pub returns : goal.returns
unfolding stands_before
returns g c =
    fold_from_yields_List _ (λ (_ : ℕ) (e : ℕ × ℕ). e.0) _ _ c.fold.ensures.ran
    (YieldsList-from_take_while _ (λ (e : ℕ × ℕ). g.O.Order.precedes e.1 c.args.q)
    (YieldsList-at c.take_while.ensures.source (YieldsList-from_first (λ e. e) fields_left _ c.fields.ensures))
    c.take_while.ensures.closure c.take_while.ensures.done (λ x b q k. search (rules, tests)))
    (λ a x b q k. search (rules, tests))
    ∙ place_words c.args.self.now.table c.args.self.now.words.now c.args.o (λ x. g.O.Order.precedes x c.args.q) 0 _
