-- A line prints its word and its numbers, which is what `shown` says. Assumes nothing.
use Rattle.std.proofs.Common.{arith}
use Rattle.texts.proofs.Decimal.{one_printed, two_printed, one_value_printed, two_value_printed}
use Rattle.replies.proofs.LineDisplay.fmt.Goals as goal

pub returns-in-Edit-clause-writes : goal.returns-in-Edit-clause-writes
returns-in-Edit-clause-writes g c =
    rw (c.in-Edit.is, one_printed _ c.in-Edit.h (omega arith))
    c.write.ensures.writes

pub returns-in-Locked-clause-writes : goal.returns-in-Locked-clause-writes
returns-in-Locked-clause-writes g c =
    rw (c.in-Locked.is, two_printed _ c.in-Locked.low c.in-Locked.high (omega arith) (omega arith))
    c.write-in-Locked.ensures.writes

pub returns-in-Read-clause-writes : goal.returns-in-Read-clause-writes
returns-in-Read-clause-writes g c =
    rw (c.in-Read.is, two_value_printed _ c.in-Read.tr c.in-Read.end c.in-Read.v (omega arith) (omega arith))
    c.write-in-Read.ensures.writes

pub returns-in-Own-clause-writes : goal.returns-in-Own-clause-writes
returns-in-Own-clause-writes g c =
    rw (c.in-Own.is, one_printed _ c.in-Own.v (omega arith))
    c.write-in-Own.ensures.writes

pub returns-in-Again-clause-writes : goal.returns-in-Again-clause-writes
returns-in-Again-clause-writes g c =
    rw (c.in-Again.is, one_value_printed _ c.in-Again.tr c.in-Again.v (omega arith))
    c.write-in-Again.ensures.writes

pub returns-in-Commit-clause-writes : goal.returns-in-Commit-clause-writes
returns-in-Commit-clause-writes g c =
    rw (c.in-Commit.is, one_printed _ c.in-Commit.p (omega arith))
    c.write-in-Commit.ensures.writes

pub returns-in-Purged-clause-writes : goal.returns-in-Purged-clause-writes
returns-in-Purged-clause-writes g c =
    rw (c.in-Purged.is, two_printed _ c.in-Purged.versions c.in-Purged.locks (omega arith) (omega arith))
    c.write-in-Purged.ensures.writes

pub returns-in-At-clause-writes : goal.returns-in-At-clause-writes
returns-in-At-clause-writes g c =
    rw (c.in-At.is, one_value_printed _ c.in-At.p c.in-At.v (omega arith))
    c.write-in-At.ensures.writes

pub returns-in-No-clause-writes : goal.returns-in-No-clause-writes
returns-in-No-clause-writes g c =
    rw (c.in-No.is, one_printed _ c.in-No.n (omega arith))
    c.write-in-No.ensures.writes

pub returns-in-Held-clause-writes : goal.returns-in-Held-clause-writes
returns-in-Held-clause-writes g c =
    rw (c.in-Held.is, one_printed _ c.in-Held.h (omega arith))
    c.write-in-Held.ensures.writes
