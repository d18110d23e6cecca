-- Answers for `endings::free_locks`. Rests on FreeLoop and on Says of `index`.
use native.Mathlib.Omega.{arith}
use Rattle.index.proofs.Says.{turn_within}
use Rattle.endings.proofs.FreeLoop.{free_start_lem, free_again, free_end}
use Rattle.endings.proofs.free_locks.Goals as goal

pub loop-i-init : goal.loop-i-init
loop-i-init c =
    free_start_lem _ _ _ _ _ c.requires.0 c.requires.1 c.requires.2 c.turns-i-end.ensures

pub turn-requires : goal.turn-requires
turn-requires c =
    turn_within _ _ c.args.c.records _ (omega (arith, c.loop-i-test.true, c.loop-i.invariant.count))

pub free_turn-requires : goal.free_turn-requires
free_turn-requires c = (
  c.loop-i.invariant.well,
  c.requires.1,
  c.loop-i.invariant.indexed,
)

pub loop-i-preserved : goal.loop-i-preserved
loop-i-preserved c =
    free_again _ _ _ _ _ _ _ _ _ c.loop-i.invariant c.loop-i-test.true c.turn.ensures c.free_turn.ensures

pub shape_of-w : goal.shape_of-w
shape_of-w c =
    omega (arith, c.loop-i.invariant.well.fits.size, c.requires.0.fits.size)

pub returns : goal.returns
returns c = free_end _ _ _ _ _ _ _ c.loop-i.invariant (omega arith)
