-- `reading::read_new` meets its contract: below the floor, blocked, or what `read_taken_lem` makes. Rests on Reading.
use mathlib.Core.Path.{refl, ap, ◌∙◌}
use Rattle.std.specs.Prelude.{Err}
use native.Mathlib.Omega.{arith}
use Rattle.calls.proofs.Checks.{passed, floor_out, floor_refused}
use Rattle.calls.proofs.Granting.{search_needs, run_reads}
use Rattle.reading.proofs.Reading.{new_below, version_below, new_by_small, new_blocked, new_taken}
use Rattle.reading.proofs.read_new.Goals as goal

pub returns-in_err-above_floor : goal.returns-in_err-above_floor
returns-in_err-above_floor c =
    let f = floor_refused _ _ c.above_floor.ensures c.in_err-above_floor.was in
    rw (passed c.from_residual.result c.from_residual.ensures.1 ∙ ap Err f.1)
    (new_below _ _ c.requires.0 _ _ _ _ c.requires.2 _ refl f.0)

pub overflow_add-p : goal.overflow_add-p
overflow_add-p c =
    let l =
    version_below _ _ c.requires.0 c.args.k _ _ c.args.extent c.requires.2 _
    refl (floor_out _ _ c.above_floor.ensures c.in_ok-above_floor.was) _
    c.newest_below-v.ensures in
    omega (arith, c.requires.3)

pub invariant_of-p : goal.invariant_of-p
invariant_of-p c =
    let below =
    version_below _ _ c.requires.0 c.args.k _ _ c.args.extent c.requires.2 _ refl
    (floor_out _ _ c.above_floor.ensures c.in_ok-above_floor.was) _ c.newest_below-v.ensures in
    record { order = below; last = c.requires.3 }

pub run-requires : goal.run-requires
run-requires c = search_needs c.requires.0 c.requires.2 c.requires.1.low

pub judge-requires : goal.judge-requires
judge-requires c =
    let small =
    new_by_small _ _ c.requires.0 _ _ _ _ c.requires.2 _ refl
    (floor_out _ _ c.above_floor.ensures c.in_ok-above_floor.was) _
    c.newest_below-v.ensures _ (c.run.ensures ∙ run_reads _ _ _ _ _ _) _ c.in-Err.is in
    (c.requires.0, small)

pub read_taken-requires : goal.read_taken-requires
read_taken-requires c =
    (c.requires.0, c.requires.1, c.requires.2, c.requires.4)

pub returns-in-Err : goal.returns-in-Err
returns-in-Err c =
    new_blocked _ _ c.requires.0 _ _ _ _ c.requires.2 _ refl
    (floor_out _ _ c.above_floor.ensures c.in_ok-above_floor.was) _
    c.newest_below-v.ensures _ (c.run.ensures ∙ run_reads _ _ _ _ _ _) _ c.in-Err.is _ _
    c.judge.ensures

pub returns-in-Ok : goal.returns-in-Ok
returns-in-Ok c =
    new_taken _ _ c.requires.0 _ _ _ _ c.requires.2 _
    refl
    (floor_out _ _ c.above_floor.ensures c.in_ok-above_floor.was) _ c.newest_below-v.ensures _
    (c.run.ensures ∙ run_reads _ _ _ _ _ _) _ _ _ _
    c.in-Ok.is c.read_taken.ensures
