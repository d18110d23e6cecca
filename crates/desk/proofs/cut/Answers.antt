-- `cut` meets its contract: the ends are those of the part within the lock. Rests on Leaves.
use native.Mathlib.Omega.{arith}
use mathlib.Core.Path.{refl, sym, ◌∙◌}
use Rattle.desk.proofs.Leaves.{cut_above, cut_empty, cut_left}
use Rattle.desk.proofs.cut.Goals as goal

pub returns-in_err-checked_add : goal.returns-in_err-checked_add
returns-in_err-checked_add c =
    c.from_residual.ensures
    ∙ cut_above c.args.s _ _
    (omega (arith, c.from-2.ensures, c.from-2.type_inv, c.from-4.ensures, c.in_err-checked_add.ensures))

pub returns-then-has_ended : goal.returns-then-has_ended
returns-then-has_ended c =
    cut_empty c.args.s _ _ _ _
    (c.from-5.ensures
    ∙ omega (arith, c.max-low.ensures, c.from-3.ensures, c.from-4.ensures, c.in_ok-checked_add.ensures))
    (c.from-6.ensures ∙ c.min-high.ensures ∙ rw (c.from.ensures, c.from-2.ensures) refl)
    (sym c.has_ended.ensures ∙ c.if-has_ended.true)

pub returns-else-has_ended : goal.returns-else-has_ended
returns-else-has_ended c =
    cut_left c.args.s _ _ _ _
    (c.from-5.ensures
    ∙ omega (arith, c.max-low.ensures, c.from-3.ensures, c.from-4.ensures, c.in_ok-checked_add.ensures))
    (c.from-6.ensures ∙ c.min-high.ensures ∙ rw (c.from.ensures, c.from-2.ensures) refl)
    (sym c.has_ended.ensures ∙ c.if-has_ended.false)
