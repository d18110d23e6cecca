-- The test of the written marks is `all` over that word of the slot's access rows. Rests on Fielded of `chains`.
use mathlib.Core.Path.{◌∙◌}
use native.Mathlib.Omega.{arith}
use lib.Dec.{leb}
use borrow.Author.Tests.{tests}
use Rattle.std.proofs.Common.{rules, ℕ}
use Rattle.std.proofs.lemmas.Iterator.Search.{all_from_yields_List}
use Rattle.std.proofs.lemmas.Iterator.Consumers.{YieldsList-from_first}
use Rattle.chains.specs.Walker.{fields_left}
use Rattle.chains.proofs.Fielded.{all_words}
use Rattle.tables.specs.Layout.{access_table, access_heads, A_WRITTEN}
use Rattle.tables.specs.Decode.{access_rows}
use Rattle.soundness.proofs.word_clauses.slot_marked.Goals as goal

pub words_of-requires : goal.words_of-requires
unfolding access_table access_heads
words_of-requires c = (c.args.s.there.high, omega arith)

pub returns : goal.returns
unfolding access_rows
returns c =
    all_from_yields_List (λ (e : ℕ × ℕ). leb e.1 1) c.all.new.self _ _ c.all.ensures.ran
    (YieldsList-from_first (λ e. e) fields_left _ c.words_of.ensures) (λ x b q k. search (rules, tests))
    ∙ all_words (access_table c.args.s.tables.counts) c.args.s.tables.words.now A_WRITTEN (λ x. leb x 1) _
