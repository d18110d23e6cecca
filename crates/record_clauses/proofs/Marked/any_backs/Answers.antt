-- `record_clauses::Marked::any_backs` meets its contract: the rows are those of the record's chain, so that the marks
-- tell of each. Rests on Chained of `tables` and on Marks of `clauses`.
use mathlib.Core.Path.{◌∙◌, ap}
use borrow.Author.Tests.{tests}
use Rattle.std.proofs.Common.{rules}
use Rattle.std.proofs.lemmas.Iterator.Adapters.{serves_from_places}
use Rattle.std.proofs.lemmas.Iterator.Consumers.{YieldsList-from_first}
use Rattle.chains.specs.Walker.{rows_left}
use Rattle.meaning.specs.Lists.{any}
use Rattle.meaning.specs.Sound.{backs}
use Rattle.tables.specs.Decode.{lock_at, edits_of, lock_rows}
use Rattle.tables.proofs.Chained.{any_rows}
use Rattle.clauses.proofs.Marks.{locks_listed, row_among, any_locks}
use Rattle.record_clauses.proofs.Marked.any_backs.Goals as goal

pub any-requires-clause-callable : goal.any-requires-clause-callable
any-requires-clause-callable c =
    let r = c.args.self.record in
    serves_from_places (YieldsList-from_first (λ x. x) rows_left _ c.lock_rows.ensures) (λ i q k. search rules)
    (λ i k l e. let o = row_among (lock_rows r.tables.counts r.tables.words.now r.number) k i i l e in search rules)

pub returns : goal.returns
returns c =
    let r = c.args.self.record in
    let n = r.tables.counts in
    let w = r.tables.words.now in
    any_rows (λ i. backs (edits_of n w) r.number c.args.p (lock_at n w i)) c.any.new.self c.any.ensures.ran
    c.lock_rows.ensures (λ i b q k. search (rules, tests))
    ∙ any_locks (backs (edits_of n w) r.number c.args.p) (lock_at n w) (lock_rows n w r.number)
    ∙ ap (any (backs (edits_of n w) r.number c.args.p)) (locks_listed n w r.number)
