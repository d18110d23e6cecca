-- `purges::purge` meets its contract. Rests on PurgeActs, on Acting and Checks of `calls`.
use mathlib.Core.Path.{refl, ap, ◌∙◌}
use Rattle.std.specs.Prelude.{Err}
use Rattle.calls.proofs.Checks.{passed, record_out, record_refused, point_out, point_past}
use native.Mathlib.Omega.{arith}
use Rattle.calls.proofs.Acting.{has_header, ready}
use Rattle.purges.proofs.PurgeActs.{purge_refused, purge_bad_point, purge_row, purge_needs, purge_acts}
use Rattle.purges.proofs.purge.Goals as goal

pub counts_of-c-requires : goal.counts_of-c-requires
counts_of-c-requires c = has_header _ c.requires

pub returns-in_err-r : goal.returns-in_err-r
returns-in_err-r c =
    let r = record_refused _ _ c.record.ensures c.in_err-r.was in
    rw (passed c.from_residual.result c.from_residual.ensures.1 ∙ ap Err r.1)
    (purge_refused _ _ c.requires c.counts_of-c.ensures c.args.rec _ refl _ r.0)

pub returns-in_err-p : goal.returns-in_err-p
returns-in_err-p c =
    let r = record_out _ _ c.record.ensures c.in_ok-r.was in
    let p = point_past _ c.point.ensures c.in_err-p.was in
    rw (passed c.from_residual-in_err-p.result c.from_residual-in_err-p.ensures.1 ∙ ap Err p.1)
    (purge_bad_point _ _ c.requires c.counts_of-c.ensures c.args.rec _ refl r.0 _ p.0)

pub invariant_of-tables : goal.invariant_of-tables
invariant_of-tables c = record { fits = (ready _ c.requires _ c.counts_of-c.ensures).well.fits }

pub invariant_of-newest_at : goal.invariant_of-newest_at
invariant_of-newest_at c =
    let r = record_out _ _ c.record.ensures c.in_ok-r.was in
    let p = point_out _ _ c.point.ensures c.in_ok-p.was in
    record {
      there = purge_row _ _ c.requires c.counts_of-c.ensures c.args.rec _ refl r.0 _ _ p.2 p.1 _ r.1;
    }

pub newest_at-v-requires : goal.newest_at-v-requires
newest_at-v-requires c = let p = point_out _ _ c.point.ensures c.in_ok-p.was in omega (arith, p.1, p.2)

pub purge_to-requires : goal.purge_to-requires
purge_to-requires c =
    let r = record_out _ _ c.record.ensures c.in_ok-r.was in
    let p = point_out _ _ c.point.ensures c.in_ok-p.was in
    purge_needs _ _ c.requires c.counts_of-c.ensures c.args.rec _ refl r.0 _ _ p.2 p.1 _ r.1 _ c.newest_at-v.ensures

pub returns : goal.returns
returns c =
    let r = record_out _ _ c.record.ensures c.in_ok-r.was in
    let p = point_out _ _ c.point.ensures c.in_ok-p.was in
    purge_acts _ _ c.requires c.counts_of-c.ensures c.args.rec _ refl r.0 _ _ p.2 p.1 _ r.1 _ c.newest_at-v.ensures _ _
    c.purge_to.ensures
