-- `format::link_rows` meets its contract. Rests on Laying.
use native.Mathlib.Omega.{arith}
use Rattle.format.proofs.Laying.{link_start, link_again, link_done, link_lies}
use Rattle.format.proofs.link_rows.Goals as goal

pub loop-i-init : goal.loop-i-init
loop-i-init c = link_start _ _

pub put-requires : goal.put-requires
put-requires c = (
  link_lies c.loop-i.invariant c.requires,
  record { low = omega arith; high = omega arith },
  c.requires.within,
)

pub loop-i-preserved : goal.loop-i-preserved
loop-i-preserved c = link_again _ c.loop-i.invariant (omega arith) c.next_free.ensures c.put.ensures

pub shape_of-w : goal.shape_of-w
shape_of-w c = c.loop-i.invariant.size

pub returns : goal.returns
returns c = link_done c.loop-i.invariant (omega arith)

pub returns-2 : goal.returns-2
returns-2 c = link_done (link_again _ c.loop-i.invariant (omega arith) c.next_free.ensures c.put.ensures) (omega arith)
