-- `chains::set_after` meets its contract: the head or the link word. Rests on Cells.
use Rattle.chains.proofs.Cells.{after_start, after_row}
use Rattle.chains.proofs.set_after.Goals as goal

pub returns-then-p-eq0 : goal.returns-then-p-eq0
returns-then-p-eq0 c =
    rw (after_start c.args.c.table
    c.args.c.heads
    c.args.a
    c.args.p c.if-p-eq0.true)
    c.set_head.ensures

pub returns-else-p-eq0 : goal.returns-else-p-eq0
returns-else-p-eq0 c =
    rw (after_row c.args.c.table
    c.args.c.heads
    c.args.a
    c.args.p c.if-p-eq0.false)
    c.put.ensures
