-- `zohetiwa_in_begin` meets its contract: the reply is that of the call, and it is told. Assumes nothing.
use Rattle.codes.proofs.Telling.{answered}
use Rattle.exports.proofs.in_session.zohetiwa_in_begin.Goals as goal

pub returns : goal.returns
returns c = answered c.begin.ensures c.begin-reply.ensures
