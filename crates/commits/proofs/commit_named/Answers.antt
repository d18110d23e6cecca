-- `commits::commit_named` meets its contract. Rests on CommitActs.
use mathlib.Core.Path.{sym, ◌∙◌}
use Rattle.endings.proofs.Ended.{open_row}
use Rattle.commits.proofs.CommitActs.{search_needs, named_common, named_in, named_none, named_out}
use Rattle.commits.proofs.commit_named.Goals as goal

pub invariant_of-slot : goal.invariant_of-slot
invariant_of-slot c = record { there = open_row c.args.c c.args.w.now c.args.index.slot c.requires.0 c.requires.1 }

pub invariant_of-set : goal.invariant_of-set
invariant_of-set c =
    let n = search_needs c.args.c c.args.w.now c.args.index.slot c.requires.0 c.requires.1 in
    record { rise = n.0; named = n.1 }

pub commit_at-requires : goal.commit_at-requires
commit_at-requires c = (
  c.requires.0,
  c.requires.1,
  named_common c.args.c c.args.w.now c.args.index.slot c.requires.0 c.requires.1 c.args.finish c.args.p c.from-x.result
      c.from-x.ensures c.contains.result c.contains.ensures c.if-contains.true,
  c.requires.2,
)

pub returns-then-contains : goal.returns-then-contains
returns-then-contains c =
    named_in c.args.c c.args.w.now c.args.index.slot c.requires.0 c.requires.1 c.args.finish c.args.p c.from-x.result
    c.from-x.ensures c.contains.result c.contains.ensures c.if-contains.true _ _ c.commit_at.ensures

pub no_point-requires : goal.no_point-requires
no_point-requires c = (
  c.requires.0,
  c.requires.1,
  c.requires.2,
)

pub returns-in-None : goal.returns-in-None
returns-in-None c =
    named_none c.args.c c.args.w.now c.args.index.slot c.requires.0 c.requires.1 c.args.finish c.args.p c.from-x.result
    c.from-x.ensures c.contains.result c.contains.ensures (sym c.in-None.is ∙ c.earliest.ensures)
    _ _ c.no_point.ensures

pub returns-in-Some : goal.returns-in-Some
returns-in-Some c =
    named_out c.args.c c.args.w.now c.args.index.slot c.requires.0 c.requires.1 c.args.finish c.args.p c.from-x.result
    c.from-x.ensures c.contains.result c.contains.ensures c.if-contains.false (sym c.in-Some.is ∙ c.earliest.ensures)
