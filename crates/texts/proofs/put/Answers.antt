-- `texts::put` meets its contract: one store is one byte appended.
-- Assumes nothing.
use Rattle.texts.proofs.Writes.{put_appends}
use Rattle.texts.proofs.put.Goals as goal

pub returns : goal.returns
returns c = put_appends c.args.out.now c.args.at c.args.b c.requires
