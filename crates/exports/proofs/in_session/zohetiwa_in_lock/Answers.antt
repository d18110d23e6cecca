-- `zohetiwa_in_lock` meets its contract: the reply is that of the call, and it is told. Assumes nothing.
use Rattle.codes.proofs.Telling.{answered}
use Rattle.exports.proofs.in_session.zohetiwa_in_lock.Goals as goal

pub returns : goal.returns
returns c =
    answered c.lock.ensures (rw (
      c.from-h.ensures,
      c.from-from.ensures,
      c.from-to.ensures,
      c.extent.ensures,
    ) at c.lock-reply.ensures)
