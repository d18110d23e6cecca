-- `soundness::word_clauses::locks_named` meets its contract: one record after the other. Rests on nothing.
use mathlib.Core.Path.{ap, ◌∙◌}
use Rattle.std.proofs.Common.{rules, ℕ, ◌≡◌, Bool}
use Rattle.chains.specs.Lists.{all_of}
use Rattle.tables.specs.declared.views.Tables.{Tables}
use Rattle.tables.specs.Decode.{lock_rows}
use Rattle.tables.specs.Words.{names_record, locks_named}
use Rattle.soundness.proofs.word_clauses.locks_named.Goals as goal

abbrev named : Tables → ℕ → Bool
named t r = all_of (names_record t.counts t.words.now r) (lock_rows t.counts t.words.now r)

pub returns : goal.returns
unfolding locks_named
returns c =
    c.all_records.ensures (named c.args.t) (λ r b e k.
    let d : b ≡ named r.tables r.number = search rules in d ∙ ap (λ t. named t r.number) e)
