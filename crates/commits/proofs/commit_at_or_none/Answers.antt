-- `commits::commit_at_or_none` meets its contract. Rests on nothing.
use Rattle.commits.proofs.commit_at_or_none.Goals as goal

pub commit_at-requires : goal.commit_at-requires
commit_at-requires c = (c.requires.0, c.requires.1, rw c.in-Some.is at c.requires.2, c.requires.3)

pub no_point-requires : goal.no_point-requires
no_point-requires c = (c.requires.0, c.requires.1, c.requires.3)

pub returns-in-Some : goal.returns-in-Some
returns-in-Some c = rw c.in-Some.is c.commit_at.ensures

pub returns-in-None : goal.returns-in-None
returns-in-None c = rw c.in-None.is c.no_point.ensures
