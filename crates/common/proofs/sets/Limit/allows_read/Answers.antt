-- A point from the first one on up to the last that was read is allowed. Rests on Common.
use Rattle.common.specs.Commit.{own_locks}
use Rattle.common.proofs.Common.{read_is}
use Rattle.common.proofs.sets.Limit.allows_read.Goals as goal

pub returns-then-self-p : goal.returns-then-self-p
returns-then-self-p c =
    read_is (own_locks c.args.self) c.args.self.access c.args.p c.requires c.if-self-p.true c.read_last.ensures
