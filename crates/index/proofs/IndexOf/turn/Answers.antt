-- `index::IndexOf::turn` meets its contract. Rests on Says.
use mathlib.Core.Path.{sym, ◌∙◌}
use native.Mathlib.Omega.{arith}
use Rattle.index.proofs.Says.{known_size, count_known, turn_known, turn_unknown}
use Rattle.index.proofs.IndexOf.turn.Goals as goal

pub overflow_add-result-then-known-2 : goal.overflow_add-result-then-known-2
overflow_add-result-then-known-2 c =
    omega (
      arith,
      c.requires (sym c.known.ensures ∙ c.if-known.true),
      count_known _ _
          (sym c.known.ensures ∙ c.if-known.true),
    )

pub offset_bounds-self-self : goal.offset_bounds-self-self
offset_bounds-self-self c =
    omega (
      arith,
      c.requires (sym c.known.ensures ∙ c.if-known.true),
      count_known _ _
          (sym c.known.ensures ∙ c.if-known.true),
    )

pub bounds-self-self : goal.bounds-self-self
bounds-self-self c =
    omega (
      arith,
      c.args.self.of_slot,
      c.requires (sym c.known.ensures ∙ c.if-known.true),
      count_known _ _ (sym c.known.ensures ∙ c.if-known.true),
      known_size _ _ (sym c.known.ensures ∙ c.if-known.true),
    )

pub returns-then-known : goal.returns-then-known
returns-then-known c = sym (turn_known _ _ (sym c.known.ensures ∙ c.if-known.true) _)

pub returns : goal.returns
returns c = sym (turn_unknown _ _ (sym c.known.ensures ∙ c.if-known.false) _)
