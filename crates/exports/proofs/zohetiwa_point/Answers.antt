-- `zohetiwa_point` meets its contract: the reply is that of the call, and it is told. Assumes nothing.
use Rattle.codes.proofs.Telling.{answered, made}
use Rattle.exports.proofs.zohetiwa_point.Goals as goal

pub returns : goal.returns
returns c =
    answered c.point.ensures
    (made c.from.ensures
    c.from-2.ensures c.point-reply.ensures)
