-- `commits::commit_open` meets its contract. Rests on CommitActs and on Acting of `calls`.
use Rattle.calls.proofs.Acting.{makes_as}
use Rattle.endings.proofs.Ended.{open_row}
use Rattle.commits.proofs.CommitActs.{search_needs, earliest_at, latest_at}
use Rattle.commits.proofs.commit_open.Goals as goal

pub invariant_of-slot : goal.invariant_of-slot
invariant_of-slot c = record { there = open_row c.args.c c.args.w.now c.args.index.slot c.requires.0 c.requires.1 }

pub invariant_of-set : goal.invariant_of-set
invariant_of-set c =
    let n = search_needs c.args.c c.args.w.now c.args.index.slot c.requires.0 c.requires.1 in
    record { rise = n.0; named = n.1 }

pub invariant_of-set-in-Latest : goal.invariant_of-set-in-Latest
invariant_of-set-in-Latest c =
    let n = search_needs c.args.c c.args.w.now c.args.index.slot c.requires.0 c.requires.1 in
    record { rise = n.0; named = n.1 }

pub commit_at_or_none-requires : goal.commit_at_or_none-requires
commit_at_or_none-requires c = (
  c.requires.0,
  c.requires.1,
  (earliest_at _ _ _ c.requires.0 c.requires.1 c.args.finish c.earliest-t.ensures).0,
  c.requires.2,
)

pub commit_at_or_none-requires-in-Latest : goal.commit_at_or_none-requires-in-Latest
commit_at_or_none-requires-in-Latest c = (
  c.requires.0,
  c.requires.1,
  (latest_at _ _ _ c.requires.0 c.requires.1 c.args.finish c.latest-t.ensures).0,
  c.requires.2,
)

pub commit_named-requires : goal.commit_named-requires
commit_named-requires c = (c.requires.0, c.requires.1, c.requires.2)

pub returns-in-Earliest : goal.returns-in-Earliest
returns-in-Earliest c =
    rw c.in-Earliest.is (makes_as _ _
    (earliest_at _ _ _ c.requires.0 c.requires.1 c.args.finish c.earliest-t.ensures).1
    c.commit_at_or_none.ensures)

pub returns-in-Latest : goal.returns-in-Latest
returns-in-Latest c =
    rw c.in-Latest.is (makes_as _ _
    (latest_at _ _ _ c.requires.0 c.requires.1 c.args.finish c.latest-t.ensures).1
    c.commit_at_or_none-in-Latest.ensures)

pub returns-in-Named : goal.returns-in-Named
returns-in-Named c = rw c.in-Named.is c.commit_named.ensures
