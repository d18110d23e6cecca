-- `texts::Printed` prints its text: `-`, or the digits that the library prints. Assumes nothing.
use Rattle.std.proofs.Common.{arith}
use Rattle.texts.specs.Parts.{value_text}
use Rattle.texts.proofs.Decimal.{decimal_printed}
use Rattle.texts.proofs.PrintedDisplay.fmt.Goals as goal

pub returns-in-None-clause-writes : goal.returns-in-None-clause-writes
unfolding value_text
returns-in-None-clause-writes g c =
    rw c.in-None.is c.write_str.ensures.writes

pub returns-in-Some-clause-writes : goal.returns-in-Some-clause-writes
unfolding value_text
returns-in-Some-clause-writes g c =
    rw (c.in-Some.is, decimal_printed c.in-Some.x (omega arith)) c.write.ensures.writes
