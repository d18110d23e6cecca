-- `texts::put_one` meets its contract: the parts are appended one after another, and each has room.
-- Assumes nothing.
use native.Mathlib.Omega.{arith}
use Rattle.texts.specs.Parts.{one}
use Rattle.texts.proofs.Writes.{appended_then}
use Rattle.texts.proofs.Decimal.{decimal_long}
use Rattle.texts.proofs.put_one.Goals as goal

pub put_number-requires : goal.put_number-requires
put_number-requires c =
    let d =
    decimal_long c.args.n
    (omega (arith, c.ranges.n)) in
    omega (
      arith,
      c.requires,
      c.put_word-i.ensures.ends,
      c.put_word-i.ensures.long,
    )

pub returns : goal.returns
unfolding one
returns c =
    appended_then c.put_word-i.ensures
    c.put_number.ensures
