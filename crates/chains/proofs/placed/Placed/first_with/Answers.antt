-- `chains::placed::Placed::first_with` meets its contract. Rests on Fielded.
use mathlib.Core.Path.{◌∙◌, ap, sym}
use lib.Dec.{eqb}
use borrow.Author.Tests.{tests}
use Rattle.std.proofs.Common.{rules, ℕ}
use Rattle.std.specs.Option.{option_map}
use Rattle.std.proofs.lemmas.Iterator.Search.{find_from_yields_List}
use Rattle.std.proofs.lemmas.Iterator.Consumers.{YieldsList-from_first}
use Rattle.chains.specs.Table.{holds}
use Rattle.chains.specs.Walker.{fields_left}
use Rattle.chains.proofs.Fielded.{find_words, option_map_same}
use Rattle.chains.proofs.placed.Placed.first_with.Goals as goal

pub returns : goal.returns
unfolding holds
returns c =
    search rules ∙ ap (option_map (λ (e : ℕ × ℕ). e.0))
    (sym (option_map_same _)
    ∙ find_from_yields_List (λ (e : ℕ × ℕ). eqb e.1 c.args.v) c.find.new.self _ _ c.find.ensures.ran
    (YieldsList-from_first (λ e. e) fields_left _ c.fields.ensures) (λ x b q k. search (rules, tests)))
    ∙ find_words c.args.self.now.table c.args.self.now.words.now c.args.o (λ x. eqb x c.args.v) _
