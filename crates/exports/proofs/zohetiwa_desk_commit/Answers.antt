-- `zohetiwa_desk_commit` meets its contract: the answer is that of the desk, and it is told. Rests on Telling of
-- `sessions`.
use Rattle.sessions.proofs.Telling.{reported}
use Rattle.exports.proofs.zohetiwa_desk_commit.Goals as goal

pub returns : goal.returns
returns c =
    reported c.commit.ensures (rw c.session_of.ensures at c.commit_with-step.ensures)
