-- The search of a lock in the way is `any` over the record's locks.
use mathlib.Core.Bool.{not, ◌&&◌}
use lib.Dec.{leb}
use borrow.Author.Tests.{tests}
use Rattle.std.proofs.Common.{rules}
use Rattle.types.specs.Limits.{SETTLED}
use Rattle.types.specs.declared.Lock.{Lock}
use Rattle.meaning.specs.Points.{is_owned}
use Rattle.tables.proofs.Chained.{any_rows}
use Rattle.endings.specs.Parts.{locked_below}
use Rattle.purges.proofs.locked_below.Goals as goal

pub returns : goal.returns
unfolding locked_below
returns c =
    any_rows (λ (l : Lock). not (is_owned SETTLED l) && leb l.low c.args.v) c.any.new.self c.any.ensures.ran
    c.locks.ensures (λ x b q k. search (rules, tests))
