-- `chains::at` meets its contract: the place of a row's word, within the slice. Rests on Cells (row-end).
use mathlib.Core.Path.{refl}
use native.Mathlib.Omega.{arith}
use Rattle.chains.specs.Table.{place}
use Rattle.chains.proofs.Cells.{row_end}
use Rattle.chains.proofs.at.Goals as goal

pub overflow_mul-result : goal.overflow_mul-result
overflow_mul-result c =
    omega (
      arith,
      row_end c.args.i c.args.t.count c.args.t.stride c.requires.1.low
          c.requires.1.high,
    )

pub overflow_add-result : goal.overflow_add-result
overflow_add-result c =
    omega (
      arith,
      row_end c.args.i c.args.t.count c.args.t.stride
          c.requires.1.low c.requires.1.high,
    )

pub overflow_add-result-2 : goal.overflow_add-result-2
overflow_add-result-2 c =
    omega (
      arith,
      row_end c.args.i c.args.t.count c.args.t.stride
          c.requires.1.low c.requires.1.high,
    )

pub returns : goal.returns
unfolding place
returns c = (
  refl,
  omega (
    arith,
    row_end c.args.i c.args.t.count
        c.args.t.stride c.requires.1.low c.requires.1.high,
  ),
)
