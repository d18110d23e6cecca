-- `soundness::word_clauses::marks_listed` meets its contract: one slot after the other. Rests on Counting.
use Rattle.std.proofs.Common.{rules, arith, ℕ, suc, ◌≡◌, Bool, true, false, refl}
use Rattle.std.proofs.lemmas.Iterator.{cases_from_all, serves_from_Range, YieldsList-from_range}
use Rattle.chains.specs.Lists.{all_of}
use Rattle.tables.specs.declared.views.Tables.{Tables}
use Rattle.tables.specs.Decode.{access_rows}
use Rattle.tables.specs.Words.{marked, marks_listed}
use Rattle.clauses.proofs.Counting.{all_ranged}
use Rattle.soundness.proofs.word_clauses.marks_listed.Goals as goal

abbrev listed : Tables → ℕ → Bool
listed t k = all_of (marked t.counts t.words.now) (access_rows t.counts t.words.now (suc k))

pub all-requires-clause-callable : goal.all-requires-clause-callable
all-requires-clause-callable c = serves_from_Range (λ k q h. search rules) (λ k low high. search rules)

pub returns : goal.returns
unfolding marks_listed
returns c =
    all_ranged (listed c.args.t) c.args.t.counts.edits c.all.result
    (cases_from_all _ _ _ (λ k. listed c.args.t k ≡ true) (λ k. listed c.args.t k ≡ false)
    c.all.ensures.ran (YieldsList-from_range 0 c.args.t.counts.edits c.args.t.counts.edits refl (omega arith))
    (λ k q h. search rules) (λ k q h. search rules))
