-- `commits::commit` meets its contract. Rests on CommitActs, on Acting and Checks of `calls`, on EndActs of `endings`.
use native.Mathlib.Omega.{arith}
use Rattle.calls.proofs.Acting.{has_header, ready, indexed_at}
use mathlib.Core.Path.{◌≡◌, sym, ap, ◌∙◌}
use mathlib.Core.Bool.{true}
use borrow.Author.Tests.{le-leb}
use Rattle.std.specs.Prelude.{Err}
use Rattle.meaning.specs.Ending.{good_pick}
use Rattle.meaning.proofs.Lists.{and_in}
use Rattle.calls.proofs.Checks.{passed, open_out, point_out, point_refused}
use Rattle.endings.proofs.Noted.{with_index}
use Rattle.endings.proofs.EndActs.{open_needs}
use Rattle.commits.proofs.CommitExits.{good_unnamed}
use Rattle.commits.proofs.CommitActs.{commit_refused, commit_bad_point, commit_acts}
use Rattle.commits.proofs.commit.Goals.{in-Named+in_ok-point, in_default}
use Rattle.commits.proofs.commit.Goals as goal

pub counts_of-c-requires : goal.counts_of-c-requires
counts_of-c-requires c = has_header _ c.requires.0

pub invariant_of-tables : goal.invariant_of-tables
invariant_of-tables c = record { fits = (ready _ c.requires.0 _ c.counts_of-c.ensures).well.fits }

pub returns-in_err-k : goal.returns-in_err-k
returns-in_err-k c =
    rw (passed c.from_residual.result c.from_residual.ensures.1)
    (commit_refused _ _ c.requires.0 c.counts_of-c.ensures _ _ _ c.open_slot.ensures c.in_err-k.was)

pub returns-in_err-point : goal.returns-in_err-point
returns-in_err-point c =
    let o = open_out _ _ c.open_slot.ensures c.in_ok-k.was in
    let p = point_refused _ _ c.point.ensures c.in_err-point.was in
    rw (passed c.from_residual-in_err-point.result c.from_residual-in_err-point.ensures.1 ∙ ap Err p.1)
    (commit_bad_point _ _ c.requires.0 c.counts_of-c.ensures _ _ _ o.0 o.1 (rw c.in-Named.is p.0))

pub invariant_of-index : goal.invariant_of-index
invariant_of-index c =
    let o = open_out _ _ c.open_slot.ensures c.in_ok-k.was in record { of_slot = omega (arith, o.2) }

pub commit_open-requires : goal.commit_open-requires
commit_open-requires c =
    let o = open_out _ _ c.open_slot.ensures c.in_ok-k.was in
    with_index (open_needs _ _ c.requires.0 c.counts_of-c.ensures _ o.0 o.1 _ o.2)
    (indexed_at _ _ c.counts_of-c.ensures c.requires.1)

pub returns : goal.returns
returns c =
    let o = open_out _ _ c.open_slot.ensures c.in_ok-k.was in
    let same : (c.match-pick.pick ≡ c.args.pick) × (good_pick c.args.pick ≡ true) =
    elim c.match-pick.branch [
      | in-Named+in_ok-point w ↦
          let p = point_out _ _ w.point.ensures w.in_ok-point.was in
          (w.pick-is ∙ sym w.in-Named.is, rw w.in-Named.is (and_in (le-leb _ _ p.0) (le-leb _ _ p.1)))
      | in_default w ↦ (w.pick-is, good_unnamed _ w.in_default.not-Named)
    ] in
    commit_acts _ _ c.requires.0 c.counts_of-c.ensures _ _ _ o.0 o.1 same.1 _ o.2 _ _
    (rw same.0 at c.commit_open.ensures)
