-- `slot_clauses::is_present` meets its contract. Rests on Reading and Steps of `clauses`.
use mathlib.Core.Path.{refl, ◌∙◌}
use borrow.Author.Tests.{eq-eqb, ne_eqb}
use Rattle.tables.specs.Views.{rec_in}
use Rattle.clauses.proofs.Reading.{present_is}
use Rattle.clauses.proofs.Steps.{and_no, and_on, or_yes, or_on}
use Rattle.slot_clauses.proofs.is_present.Goals as goal

pub returns-then-version_stands : goal.returns-then-version_stands
returns-then-version_stands c =
    c.if-version_stands.true ∙ or_yes _ c.if-version_stands.true
    ∙ present_is (rec_in c.args.r) c.args.p c.version_stands.ensures refl

pub returns-then-p-eq0 : goal.returns-then-p-eq0
returns-then-p-eq0 c =
    or_on c.if-version_stands.false (and_on (eq-eqb c.args.p 0 c.if-p-eq0.true) refl)
    ∙ present_is (rec_in c.args.r) c.args.p c.version_stands.ensures c.floor.ensures

pub returns-else-p-eq0 : goal.returns-else-p-eq0
returns-else-p-eq0 c =
    let n = ne_eqb c.args.p 0 c.if-p-eq0.false in
    n ∙ or_on c.if-version_stands.false (and_no _ n)
    ∙ present_is (rec_in c.args.r) c.args.p c.version_stands.ensures refl
