-- `zohetiwa_desk_open` meets its contract: the answer is that of the desk, and it is told. Rests on Telling of
-- `sessions`.
use Rattle.sessions.proofs.Telling.{opened_as}
use Rattle.exports.proofs.zohetiwa_desk_open.Goals as goal

pub returns : goal.returns
returns c =
    opened_as c.open.ensures (rw (
      c.from.ensures,
      c.setting.ensures,
    ) at c.open-reply.ensures)
