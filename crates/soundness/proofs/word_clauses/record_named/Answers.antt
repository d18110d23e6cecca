-- The test of the lock rows is `all` over that word of the record's lock rows. Rests on Fielded of `chains`.
use Prim.Native.Nat.{ℕ, suc, ◌+◌}
use mathlib.Core.Path.{◌≡◌, ap, ◌∙◌}
use native.Mathlib.Omega.{arith}
use lib.Dec.{eqb}
use borrow.Author.Tests.{tests}
use Rattle.std.proofs.Common.{rules}
use Rattle.std.proofs.lemmas.Iterator.Search.{all_from_yields_List}
use Rattle.std.proofs.lemmas.Iterator.Consumers.{YieldsList-from_first}
use Rattle.chains.specs.Lists.{all_of}
use Rattle.chains.specs.Table.{rows_of}
use Rattle.chains.specs.Walker.{fields_left}
use Rattle.chains.proofs.Fielded.{all_words}
use Rattle.tables.specs.Layout.{lock_table, lock_heads, L_RECORD}
use Rattle.tables.specs.Decode.{lock_rows}
use Rattle.tables.specs.Words.{names_record}
use Rattle.soundness.proofs.word_clauses.record_named.Goals as goal

pub words_of-requires : goal.words_of-requires
unfolding lock_table lock_heads
words_of-requires c = (omega (arith, c.args.r.there), omega arith)

pub returns : goal.returns
unfolding lock_rows
returns c =
    let n = c.args.r.tables.counts in
    let w = c.args.r.tables.words.now in
    let k : c.args.r.number + 1 ≡ suc c.args.r.number = omega arith in
    all_from_yields_List (λ (e : ℕ × ℕ). eqb e.1 c.args.r.number) c.all.new.self _ _ c.all.ensures.ran
    (YieldsList-from_first (λ e. e) fields_left _ c.words_of.ensures) (λ x b q k. search (rules, tests))
    ∙ all_words (lock_table n) w L_RECORD (λ x. eqb x c.args.r.number) _
    ∙ ap (λ o. all_of (names_record n w c.args.r.number) (rows_of (lock_table n) (lock_heads n) w o)) k
