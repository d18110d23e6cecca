-- `locking::later_grant` meets its contract: the run from the first free point, or the judgement of the first. Rests on
-- Granting and Acting of `calls`.
use mathlib.Core.Path.{◌≡◌, sym, ap, ◌∙◌}
use Rattle.std.specs.Prelude.{Result, Err}
use Rattle.std.specs.Option.{ok_or}
use Rattle.std.specs.Result.{result_ok}
use Rattle.meaning.proofs.JudgeLocking.{proper}
use Rattle.tables.specs.Views.{store_in}
use Rattle.calls.proofs.Acting.{all_rise}
use Rattle.calls.proofs.Checks.{passed}
use Rattle.calls.proofs.Granting.{search_needs, later_judged, later_inside, later_taken}
use Rattle.locking.proofs.later_grant.Goals as goal

err_is : {A B : Type 0} {x y : B} → ◌≡◌ {A = Result A B} (Err x) (Err y) → x ≡ y
err_is e = cc

pub first_free-requires : goal.first_free-requires
first_free-requires c = all_rise _ _ c.requires.0 _ c.args.r.there

pub invariant_of-rest : goal.invariant_of-rest
invariant_of-rest c =
    let t = c.args.r.tables in
    record {
      order =
          later_inside t.counts t.words.now c.args.k c.args.r.number c.args.p.low c.args.p.high c.args.r.there _
          (sym (c.ok_or.ensures.ok_part ∙ ap result_ok c.in_ok-from.was) ∙ c.first_free.ensures);
      last = c.args.p.last;
    }

pub run-requires : goal.run-requires
run-requires c = search_needs c.requires.0 c.args.r.there c.requires.1

pub returns-in_err-from : goal.returns-in_err-from
returns-in_err-from c =
    let t = c.args.r.tables in
    let none = c.ok_or.ensures.ok_part ∙ ap result_ok c.in_err-from.was in
    passed c.from_residual.result c.from_residual.ensures.1
    ∙ ap Err (err_is (sym c.in_err-from.was ∙ c.ok_or.ensures.value ∙ ap (λ o. ok_or o c.args.b) none))
    ∙ later_judged t.counts t.words.now c.args.k c.args.r.number c.args.p.low c.args.p.high c.args.r.there _
    c.requires.2 (sym none ∙ c.first_free.ensures)

pub returns : goal.returns
returns c =
    let t = c.args.r.tables in
    c.run.ensures
    ∙ later_taken t.counts t.words.now c.args.k c.args.r.number c.args.p.low c.args.p.high c.args.r.there _
    (sym (c.ok_or.ensures.ok_part ∙ ap result_ok c.in_ok-from.was) ∙ c.first_free.ensures)
    (proper (store_in t) c.requires.0.store c.args.r.number)
