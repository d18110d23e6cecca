-- `zohetiwa_desk_write` meets its contract: the answer is that of the desk, and it is told. Rests on Telling of
-- `sessions`.
use Rattle.sessions.proofs.Telling.{reported}
use Rattle.exports.proofs.zohetiwa_desk_write.Goals as goal

pub returns : goal.returns
returns c =
    reported c.write.ensures (rw c.session_of.ensures at c.write_with-step.ensures)
