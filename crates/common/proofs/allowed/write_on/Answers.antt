-- A lock passes where it is an own write lock that covers p. Rests on Chained of `tables` and on Free of `blocking`.
use mathlib.Core.Path.{◌∙◌}
use mathlib.Core.Bool.{◌&&◌}
use borrow.Author.Tests.{tests}
use Rattle.std.proofs.Common.{rules}
use Rattle.types.specs.declared.Lock.{Lock}
use Rattle.meaning.specs.Points.{covers}
use Rattle.blocking.specs.Search.{owns_write}
use Rattle.tables.proofs.Chained.{any_rows}
use Rattle.blocking.proofs.Free.{write_any}
use Rattle.common.proofs.allowed.write_on.Goals as goal

pub returns : goal.returns
returns c =
    any_rows (λ (l : Lock). owns_write c.args.k l && covers c.args.p l) c.any.new.self c.any.ensures.ran c.locks.ensures
    (λ x b q k. search (rules, tests))
    ∙ write_any _ _ _
