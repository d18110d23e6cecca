-- `zohetiwa_open` meets its contract: the reply is that of the call, and it is told. Assumes nothing.
use Rattle.codes.proofs.Telling.{answered}
use Rattle.exports.proofs.in_session.zohetiwa_open.Goals as goal

pub returns : goal.returns
returns c = answered c.done.ensures c.open-reply.ensures
