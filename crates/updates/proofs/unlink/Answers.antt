-- `updates::unlink` meets its contract. Rests on Steps (unlink-law).
use Rattle.chains.proofs.Cells.{heads_lie}
use Rattle.chains.proofs.Steps.{follows_row, unlink_ready, unlink_law}
use Rattle.updates.proofs.unlink.Goals as goal

pub link-next-requires : goal.link-next-requires
link-next-requires c = follows_row c.requires.0 c.requires.1

pub head_of-head-requires : goal.head_of-head-requires
head_of-head-requires c =
    (heads_lie c.requires.0.laid, c.requires.0.b_in)

pub relink-requires : goal.relink-requires
relink-requires c =
    unlink_ready c.requires.0
    c.requires.1

pub returns : goal.returns
returns c =
    unlink_law c.requires.0 c.requires.1 c.link-next.ensures
    c.head_of-head.ensures c.relink.ensures
