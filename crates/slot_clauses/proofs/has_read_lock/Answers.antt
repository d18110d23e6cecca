-- The search of the read lock is `any` over the record's locks.
use borrow.Author.Tests.{tests}
use Rattle.std.proofs.Common.{rules}
use Rattle.meaning.specs.Sound.{starts_read}
use Rattle.tables.proofs.Chained.{any_rows}
use Rattle.slot_clauses.proofs.has_read_lock.Goals as goal

pub returns : goal.returns
returns c =
    any_rows (starts_read c.args.k c.args.from) c.any.new.self c.any.ensures.ran c.locks.ensures
    (λ x b q k. search (rules, tests))
