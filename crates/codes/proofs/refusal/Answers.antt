-- `codes::refusal` meets its contract: 8 with the holder above it, the others bare. Assumes nothing.
use mathlib.Core.Path.{refl, ◌∙◌}
use borrow.Enum.Refused.{opened}
use Rattle.codes.proofs.Cases.{bare}
use Rattle.codes.proofs.refusal.Goals as goal

pub returns-in-Held : goal.returns-in-Held
returns-in-Held c =
    rw (c.from.ensures, c.number.ensures, c.in-Held.is) refl

pub returns : goal.returns
returns c = c.number-2.ensures ∙ bare c.args.r (opened c.in_default.in_default-own.keys2)
