-- `open` meets its contract: the calls made at each return follow the program. Rests on Following and Leaves.
use native.Mathlib.Omega.{arith}
use mathlib.Core.Path.{sym, ap, ◌∙◌}
use Prim.Native.Nat.{ℕ, ◌+◌}
use Rattle.desk.proofs.Leaves.{good_start_fits}
use Rattle.desk.proofs.Following.{passed, open_begun, open_refused, open_bad}
use Rattle.desk.proofs.open.Goals as goal

pub returns-then-not-good_start : goal.returns-then-not-good_start
returns-then-not-good_start c =
    open_bad _ _ _ _ (sym c.good_start.ensures ∙ c.if-not-good_start.true) c.refuse_start.ensures

pub returns-in_err-handle : goal.returns-in_err-handle
returns-in_err-handle c =
    rw (passed c.from_residual.result c.from_residual.ensures.1)
    (open_refused _ _ _ (sym c.good_start.ensures ∙ c.if-not-good_start.false) _ c.begin.ensures _ c.in_err-handle.was)

pub overflow_add-from : goal.overflow_add-from
overflow_add-from c =
    omega (
      arith,
      c.from.ensures,
      good_start_fits _ _ (sym c.good_start.ensures ∙ c.if-not-good_start.false),
    )

pub returns : goal.returns
returns c =
    open_begun _ _ _ (sym c.good_start.ensures ∙ c.if-not-good_start.false) _ c.begin.ensures _ c.in_ok-handle.was
    c.from-2.result (c.from-2.ensures ∙ ap (λ (n : ℕ). n + c.args.width) c.from.ensures)
