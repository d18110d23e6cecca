-- `index::IndexOf::turns` meets its contract. Rests on Says.
use mathlib.Core.Path.{sym, ◌∙◌}
use native.Mathlib.Omega.{arith}
use Rattle.index.proofs.Says.{known_size, turns_known, turns_unknown}
use Rattle.index.proofs.IndexOf.turns.Goals as goal

pub bounds-self-self : goal.bounds-self-self
bounds-self-self c =
    omega (arith, known_size _ _ (sym c.known.ensures ∙ c.if-known.true))

pub returns-then-known : goal.returns-then-known
returns-then-known c = sym (turns_known _ _ (sym c.known.ensures ∙ c.if-known.true) _)

pub returns : goal.returns
returns c = sym (turns_unknown _ _ (sym c.known.ensures ∙ c.if-known.false) _)
