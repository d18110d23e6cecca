-- `commit` meets its contract: the reply is that of the call, and it is told. Assumes nothing.
use Rattle.codes.proofs.Telling.{answered}
use Rattle.exports.proofs.commit.Goals as goal

pub returns : goal.returns
returns c = answered c.commit.ensures (rw (c.from.ensures, c.finish.ensures) at c.commit-reply.ensures)
