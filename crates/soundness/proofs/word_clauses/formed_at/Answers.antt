-- `soundness::word_clauses::formed_at` meets its contract. Rests on Whole, on Steps of `clauses`.
use mathlib.Core.Path.{sym, ◌∙◌}
use Rattle.clauses.proofs.Steps.{and_no, and_on, and_last}
use Rattle.soundness.proofs.Whole.{formed_together}
use Rattle.soundness.proofs.word_clauses.formed_at.Goals as goal

pub returns-then-locks_named : goal.returns-then-locks_named
returns-then-locks_named c =
    formed_together c.args.t.counts c.args.t.words.now
    (and_on (sym c.chains_parted.ensures ∙ c.if-chains_parted.true)
    (and_on (sym c.locks_named.ensures ∙ c.if-locks_named.true) (and_last c.marks_listed.ensures)))

pub returns-else-locks_named : goal.returns-else-locks_named
returns-else-locks_named c =
    formed_together c.args.t.counts c.args.t.words.now
    (and_on (sym c.chains_parted.ensures ∙ c.if-chains_parted.true)
    (c.if-locks_named.false ∙ and_no _ (sym c.locks_named.ensures ∙ c.if-locks_named.false)))

pub returns-else-chains_parted : goal.returns-else-chains_parted
returns-else-chains_parted c =
    formed_together c.args.t.counts c.args.t.words.now
    (c.if-chains_parted.false ∙ and_no _ (sym c.chains_parted.ensures ∙ c.if-chains_parted.false))
