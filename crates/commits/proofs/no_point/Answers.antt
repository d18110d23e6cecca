-- `commits::no_point` meets its contract. Rests on CommitActs.
use Rattle.commits.proofs.CommitActs.{none_done}
use Rattle.commits.proofs.no_point.Goals as goal

pub end_aborted-requires : goal.end_aborted-requires
end_aborted-requires c =
    (c.requires.0, c.requires.1, c.requires.2)

pub returns : goal.returns
returns c =
    none_done c.args.c c.args.w.now c.args.index.slot c.requires.0 c.requires.1 c.args.finish _ c.end_aborted.ensures
