-- `record_clauses::records_sound` meets its contract: the marks of a new array serve every record, one after the other.
-- Rests on Counting, Marks and Slots.
use mathlib.Core.Path.{refl, ◌∙◌}
use Rattle.std.proofs.Common.{rules, arith, ℕ, ◌≡◌, Bool, true, false}
use Rattle.std.proofs.lemmas.Iterator.{cases_from_all, serves_from_Range, YieldsList-from_range}
use Rattle.tables.specs.declared.views.Tables.{Tables}
use Rattle.tables.specs.Decode.{record_at}
use Rattle.clauses.specs.Clauses.{record_rest}
use Rattle.clauses.specs.Views.{edits_in}
use Rattle.clauses.proofs.Counting.{all_ranged}
use Rattle.clauses.proofs.Marks.{writers_new}
use Rattle.clauses.proofs.Slots.{records_passed}
use Rattle.record_clauses.proofs.records_sound.Goals as goal

abbrev rest : Tables → ℕ → Bool
rest t r = record_rest (edits_in t) r (record_at t.counts t.words.now r)

pub all-requires-clause-callable : goal.all-requires-clause-callable
all-requires-clause-callable c =
    serves_from_Range (λ r q k. search rules)
    (λ r low high.
    let m = writers_new c.args.t.counts c.args.t.words.now _ refl c.args.t.fits c.requires.0 c.requires.1
    c.mark_slots.ensures r high in
    search rules)

pub returns : goal.returns
returns c =
    all_ranged (rest c.args.t) c.args.t.counts.records c.all.result
    (cases_from_all _ _ _ (λ r. rest c.args.t r ≡ true) (λ r. rest c.args.t r ≡ false) c.all.ensures.ran
    (YieldsList-from_range 0 c.args.t.counts.records c.args.t.counts.records refl (omega arith))
    (λ r q k. search rules) (λ r q k. search rules))
    ∙ records_passed c.args.t.counts c.args.t.words.now c.requires.2
