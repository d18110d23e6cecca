-- `texts::put_number`, which calls itself on n / 10, meets its contract. Assumes nothing.
use Rattle.std.proofs.Common.{refl, sym, ap, arith, length}
use Rattle.texts.proofs.Writes.{appended_as, appended_then}
use Rattle.texts.proofs.Decimal.{decimal_small, decimal_more, decimal_longer}
use Rattle.texts.proofs.+put_number.Goals as goal

pub put-requires : goal.put-requires
put-requires t c = let e = ap length (decimal_small c.args.n c.if-n-lt10.true) in omega (arith, c.requires)

pub returns-then-n-lt10 : goal.returns-then-n-lt10
returns-then-n-lt10 t c = appended_as c.put.ensures (sym (decimal_small c.args.n c.if-n-lt10.true)) refl

pub put_number-i-requires : goal.put_number-i-requires
put_number-i-requires t c =
    let e = decimal_longer c.args.n c.if-n-lt10.false in
    (omega (arith, c.decreases), omega (arith, c.requires))

pub put-requires-2 : goal.put-requires-2
put-requires-2 t c =
    let e = decimal_longer c.args.n c.if-n-lt10.false in
    omega (arith, c.requires, c.put_number-i.ensures.ends, c.put_number-i.ensures.long)

pub returns : goal.returns
returns t c =
    appended_as (appended_then c.put_number-i.ensures c.put-2.ensures)
    (sym (decimal_more c.args.n c.if-n-lt10.false)) refl
