-- `chains::head_at` meets its contract: the place of a head word, within the slice. Rests on Cells (row-end).
use mathlib.Core.Path.{sym, ap, ◌∙◌}
use native.Mathlib.Omega.{arith}
use Rattle.chains.specs.Table.{head_cell}
use Rattle.chains.proofs.Cells.{row_end, head_free, head_later}
use Rattle.chains.proofs.head_at.Goals as goal

pub overflow_mul-result : goal.overflow_mul-result
overflow_mul-result c =
    omega (
      arith,
      row_end c.args.k c.args.h.owners c.args.h.step
          (omega arith) c.requires.3,
    )

pub overflow_add-result : goal.overflow_add-result
overflow_add-result c =
    omega (
      arith,
      row_end c.args.k c.args.h.owners
          c.args.h.step (omega arith) c.requires.3,
    )

pub returns-then-k-eq0 : goal.returns-then-k-eq0
returns-then-k-eq0 c = (sym (ap (head_cell c.args.h) c.if-k-eq0.true ∙ head_free _), c.requires.0)

pub returns-else-k-eq0 : goal.returns-else-k-eq0
returns-else-k-eq0 c = (
  sym (head_later _ _ (omega arith)),
  omega (
    arith,
    row_end c.args.k c.args.h.owners
        c.args.h.step (omega arith) c.requires.3,
  ),
)
