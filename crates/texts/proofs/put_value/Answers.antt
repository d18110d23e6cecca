-- `texts::put_value` meets its contract: `-` for a never written value, else its decimal digits.
-- Assumes nothing.
use native.Mathlib.Omega.{arith}
use mathlib.Core.Path.{sym, ap, refl}
use Rattle.texts.specs.Parts.{value_text}
use Rattle.texts.proofs.Writes.{appended_as}
use Rattle.texts.proofs.Decimal.{decimal_long}
use Rattle.texts.proofs.put_value.Goals as goal

pub put_number-requires : goal.put_number-requires
put_number-requires c =
    let d = decimal_long c.in-Some.x (omega arith) in
    omega (arith, c.requires)

pub returns-in-None : goal.returns-in-None
unfolding value_text
returns-in-None c =
    appended_as c.put.ensures
    (sym (ap value_text c.in-None.is)) refl

pub returns-in-Some : goal.returns-in-Some
unfolding value_text
returns-in-Some c =
    appended_as c.put_number.ensures
    (sym (ap value_text c.in-Some.is)) refl
