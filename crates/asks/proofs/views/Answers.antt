-- `asks::views` meets its contract: after i turns the first i asks are told. Rests on Viewing.
use native.Mathlib.Omega.{arith}
use Rattle.asks.proofs.Viewing.{view_start, ask_fits, reply_fits, view_again, view_done}
use Rattle.asks.proofs.views.Goals as goal

pub loop-i-init : goal.loop-i-init
loop-i-init c = view_start _ c.min-n.ensures

pub view_step-requires : goal.view_step-requires
view_step-requires c =
    let v = c.loop-i.invariant in
    (ask_fits v (omega arith), reply_fits v (omega arith))

pub loop-i-preserved : goal.loop-i-preserved
loop-i-preserved c =
    view_again c.loop-i.invariant
    (omega arith)
    (rw c.open-chart.ensures at c.view_step.ensures)

pub shape_of-replies : goal.shape_of-replies
shape_of-replies c = c.loop-i.invariant.told.size

pub returns : goal.returns
returns c = view_done c.loop-i.invariant (omega arith)
