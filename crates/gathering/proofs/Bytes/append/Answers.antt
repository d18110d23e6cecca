-- `Bytes::append` meets its contract. Assumes nothing.
use Rattle.std.proofs.Common.{rules}
use Rattle.gathering.proofs.Taken.{appended}
use Rattle.gathering.proofs.Bytes.append.Goals as goal

pub returns : goal.returns
returns g c =
    rw (← c.self.view_is, c.copy_from_slice.ensures.after)
    (appended g.row.N c.self.inside.memory c.args.bytes.now _ c.self.inside.held c.min-n.result (search rules)
    c.self.invariant c.min-n.ensures)
