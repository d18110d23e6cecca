-- `texts::put_one_value` meets its contract: the parts are appended one after another, and each has room.
-- Assumes nothing.
use native.Mathlib.Omega.{arith}
use Rattle.texts.specs.Parts.{one_value}
use Rattle.texts.proofs.Writes.{appended_then}
use Rattle.texts.proofs.Decimal.{one_long}
use Rattle.texts.proofs.put_one_value.Goals as goal

pub put-j-requires : goal.put-j-requires
put-j-requires c =
    let d =
    one_long c.args.word.now
    c.args.n
    (omega (arith, c.ranges.n)) in
    omega (
      arith,
      c.requires,
      c.put_one-i.ensures.ends,
      c.put_one-i.ensures.long,
    )

pub put_value-requires : goal.put_value-requires
put_value-requires c =
    let d = one_long c.args.word.now c.args.n (omega (arith, c.ranges.n)) in
    omega (
      arith,
      c.requires,
      c.put_one-i.ensures.ends,
      c.put_one-i.ensures.long,
      c.put-j.ensures.ends,
      c.put-j.ensures.long,
    )

pub returns : goal.returns
unfolding one_value
returns c =
    appended_then c.put_one-i.ensures
    (appended_then c.put-j.ensures
    c.put_value.ensures)
