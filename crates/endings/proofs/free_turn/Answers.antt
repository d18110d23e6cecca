-- `endings::free_turn` meets its contract. Rests on FreeLoop and on Answers of `calls`.
use Rattle.calls.proofs.Answers.{on}
use native.Mathlib.Omega.{arith}
use Rattle.endings.proofs.FreeLoop.{freed_past, freed_silent, freed_one}
use mathlib.Core.Path.{refl}
use Rattle.endings.proofs.free_turn.Goals.{else-r-c-via-then-r-c+else-not-silent, else-r-c-via-else-r-c}
use Rattle.endings.proofs.free_turn.Goals as goal

pub silent-requires : goal.silent-requires
silent-requires c = omega (arith, c.if-r-c.true, c.requires.0.fits.ranged.records_high)

pub drop_owner-requires : goal.drop_owner-requires
drop_owner-requires c = (
  c.requires.0,
  c.if-r-c.true,
)

pub shape_of-w : goal.shape_of-w
shape_of-w c =
    omega (
      arith,
      c.drop_owner.ensures.well.fits.size,
      c.requires.0.fits.size,
    )

pub returns-then-not-silent : goal.returns-then-not-silent
returns-then-not-silent c =
    freed_one _ _ _ _ c.requires.0 c.requires.1 _ c.requires.2 _ _ c.if-r-c.true refl c.drop_owner.ensures

pub returns-else-r-c : goal.returns-else-r-c
returns-else-r-c c = elim c.else-r-c.branch [
  | else-r-c-via-then-r-c+else-not-silent w ↦
      freed_silent _ _ _ _ c.requires.0 c.requires.1 _ c.requires.2 (on w.silent.ensures w.if-not-silent.false)
  | else-r-c-via-else-r-c w ↦ freed_past _ _ _ _ c.requires.0 c.requires.1 _ c.requires.2 w.if-r-c.false
]
