-- `zohetiwa_in_abort` meets its contract: the reply is that of the call, and it is told. Assumes nothing.
use Rattle.codes.proofs.Telling.{answered}
use Rattle.exports.proofs.in_session.zohetiwa_in_abort.Goals as goal

pub returns : goal.returns
returns c =
    answered c.done.ensures (rw (
      c.from.ensures,
      c.finish.ensures,
    ) at c.abort-reply.ensures)
