-- `zohetiwa_commit_at` meets its contract: it commits at the point named. Assumes nothing.
use Rattle.codes.proofs.Telling.{named_at}
use Rattle.exports.proofs.zohetiwa_commit_at.Goals as goal

pub returns : goal.returns
returns c = rw (named_at c.from.ensures) at c.commit.ensures
