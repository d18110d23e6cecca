-- `endings::each::each_access` meets its contract. The loop's invariant is Along. Rests on AccessLoop.
use Rattle.meaning.specs.Store.{edit_at}
use Rattle.tables.specs.Decode.{decode_at}
use Rattle.endings.specs.Steps.{along}
use Rattle.endings.proofs.AccessLoop.{Along}
use Rattle.endings.proofs.each.each_access.Given as goal

abbrev pub invariant-loop-i : goal.invariant-loop-i
invariant-loop-i g l =
    Along (g.S.Step.makes l.step) (g.S.Step.need l.step) l.c
    (along (g.S.Step.makes l.step) (edit_at (decode_at l.c l.initial.w) l.k).accesses (decode_at l.c l.initial.w))
    l.w l.walk

abbrev pub decreases-loop-i : goal.decreases-loop-i
decreases-loop-i g l = l.walk.left
