-- `endings::each::each_access` meets its contract. Rests on AccessLoop.
use Rattle.tables.specs.Layout.{access_heads}
use Rattle.endings.proofs.AccessLoop.{along_start, along_row, along_need, along_again, along_end}
use Rattle.endings.proofs.each.each_access.Goals as goal

pub first-requires : goal.first-requires
unfolding access_heads
first-requires g c = c.requires.1.high

pub loop-i-init : goal.loop-i-init
loop-i-init g c =
    along_start _ _ c.args.c c.args.w.now c.args.k _ c.requires.0 c.requires.1
    (rw (c.table.ensures, c.first.ensures) at c.new-walk.ensures) c.requires.2

pub turn-requires : goal.turn-requires
turn-requires g c =
    let m = rw (c.part.ensures.0, c.part.ensures.1) at c.in-Some.ensures in (
      c.loop-i.invariant.well,
      along_row _ _ _ c.loop-i.invariant m,
      c.requires.3.one _ _ _ (along_need _ _ _ c.loop-i.invariant m),
    )

pub loop-i-preserved : goal.loop-i-preserved
loop-i-preserved g c =
    along_again _ _ _ c.loop-i.invariant (rw (c.part.ensures.0, c.part.ensures.1) at c.in-Some.ensures)
    c.requires.3.next c.turn.ensures

-- Where the walk has ended no row is left,
-- and what it was to do along the rows
-- is done.
pub returns : goal.returns
returns g c = along_end _ _ _ c.loop-i.invariant (rw (c.part.ensures.0, c.part.ensures.1) at c.in_default.ensures)
