-- `record_clauses::all_pass` meets its contract: one record after the other. Rests on nothing.
use mathlib.Core.Path.{ap, ◌∙◌}
use Rattle.std.proofs.Common.{rules, ℕ, ◌≡◌, Bool}
use Rattle.tables.specs.declared.views.Tables.{Tables}
use Rattle.tables.specs.Decode.{record_at, edits_of}
use Rattle.clauses.specs.Clauses.{locks_pass, all_pass}
use Rattle.record_clauses.proofs.all_pass.Goals as goal

abbrev passes : Tables → ℕ → Bool
passes t r = locks_pass (edits_of t.counts t.words.now) (record_at t.counts t.words.now r)

pub returns : goal.returns
unfolding all_pass
returns c =
    c.all_records.ensures (passes c.args.t) (λ r b e k.
    let d : b ≡ passes r.tables r.number = search rules in d ∙ ap (λ t. passes t r.number) e)
