-- `texts::put_two_value` meets its contract: the parts are appended one after another, and each has room.
-- Assumes nothing.
use native.Mathlib.Omega.{arith}
use Rattle.texts.specs.Parts.{two_value}
use Rattle.texts.proofs.Writes.{appended_then}
use Rattle.texts.proofs.Decimal.{two_long}
use Rattle.texts.proofs.put_two_value.Goals as goal

pub put-j-requires : goal.put-j-requires
put-j-requires c =
    let d =
    two_long c.args.word.now
    c.args.n
    c.args.m
    (omega (arith, c.ranges.n))
    (omega (arith, c.ranges.m)) in
    omega (
      arith,
      c.requires,
      c.put_two-i.ensures.ends,
      c.put_two-i.ensures.long,
    )

pub put_value-requires : goal.put_value-requires
put_value-requires c =
    let d =
    two_long c.args.word.now c.args.n c.args.m (omega (arith, c.ranges.n))
    (omega (arith, c.ranges.m)) in
    omega (
      arith,
      c.requires,
      c.put_two-i.ensures.ends,
      c.put_two-i.ensures.long,
      c.put-j.ensures.ends,
      c.put-j.ensures.long,
    )

pub returns : goal.returns
unfolding two_value
returns c =
    appended_then c.put_two-i.ensures
    (appended_then c.put-j.ensures
    c.put_value.ensures)
