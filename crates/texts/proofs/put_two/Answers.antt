-- `texts::put_two` meets its contract: the parts are appended one after another, and each has room.
-- Assumes nothing.
use native.Mathlib.Omega.{arith}
use Rattle.texts.specs.Parts.{two}
use Rattle.texts.proofs.Writes.{appended_then}
use Rattle.texts.proofs.Decimal.{decimal_long, one_long}
use Rattle.texts.proofs.put_two.Goals as goal

pub put-j-requires : goal.put-j-requires
put-j-requires c =
    let d =
    one_long c.args.word.now
    c.args.n
    (omega (arith, c.ranges.n)) in
    omega (
      arith,
      c.requires,
      c.put_one-i.ensures.ends,
      c.put_one-i.ensures.long,
    )

pub put_number-requires : goal.put_number-requires
put_number-requires c =
    let d = one_long c.args.word.now c.args.n (omega (arith, c.ranges.n)) in
    let e = decimal_long c.args.m (omega (arith, c.ranges.m)) in
    omega (
      arith,
      c.requires,
      c.put_one-i.ensures.ends,
      c.put_one-i.ensures.long,
      c.put-j.ensures.ends,
      c.put-j.ensures.long,
    )

pub returns : goal.returns
unfolding two
returns c =
    appended_then c.put_one-i.ensures
    (appended_then c.put-j.ensures
    c.put_number.ensures)
