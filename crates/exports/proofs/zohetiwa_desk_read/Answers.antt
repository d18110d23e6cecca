-- `zohetiwa_desk_read` meets its contract: the answer is that of the desk, and it is told. Rests on Telling of
-- `sessions`.
use Rattle.sessions.proofs.Telling.{reported}
use Rattle.exports.proofs.zohetiwa_desk_read.Goals as goal

pub returns : goal.returns
returns c =
    reported c.read.ensures (rw c.session_of.ensures at c.read_with-step.ensures)
