-- `index::wipe_listed` meets its contract. Rests on Says.
use mathlib.Core.Path.{◌∙◌}
use native.Mathlib.Omega.{arith}
use Rattle.index.specs.Index.{MARKS}
use Rattle.index.proofs.Says.{wipe_start, wipe_turns, wipe_again, wipe_end, turn_within}
use Rattle.index.proofs.wipe_listed.Goals as goal

pub loop-i-init : goal.loop-i-init
loop-i-init c = wipe_start _ _

pub turn-r-requires : goal.turn-r-requires
turn-r-requires c =
    turn_within _ _ MARKS _ (omega (
      arith,
      c.loop-i-test.true,
      c.turns-turns.ensures,
      wipe_turns _ _ _ _ c.requires.0 c.requires.1 c.loop-i.invariant MARKS,
    ))

pub unmark-requires : goal.unmark-requires
unmark-requires c = (c.loop-i.invariant.size ∙ c.requires.0, c.requires.1)

pub loop-i-preserved : goal.loop-i-preserved
loop-i-preserved c =
    wipe_again _ _ _ _ c.requires.0 c.requires.1 c.loop-i.invariant _ _ c.turn-r.ensures c.unmark.ensures

pub shape_of-ix : goal.shape_of-ix
shape_of-ix c = c.loop-i.invariant.size

pub returns : goal.returns
returns c = wipe_end _ _ _ _ _ c.loop-i.invariant (omega (arith, c.turns-turns.ensures))
