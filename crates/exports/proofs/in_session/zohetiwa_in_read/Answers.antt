-- `zohetiwa_in_read` meets its contract: the reply is that of the call, and it is told. Assumes nothing.
use Rattle.codes.proofs.Telling.{answered}
use Rattle.exports.proofs.in_session.zohetiwa_in_read.Goals as goal

pub returns : goal.returns
returns c =
    answered c.read.ensures (rw (
      c.from-h.ensures,
      c.from-upto.ensures,
      c.extent.ensures,
    ) at c.read-reply.ensures)
