-- The test of all versions is `all` over them.
use borrow.Author.Tests.{tests}
use Rattle.std.proofs.Common.{rules}
use Rattle.tables.specs.Decode.{edits_of}
use Rattle.tables.specs.Views.{rec_in}
use Rattle.tables.proofs.Chained.{all_rows}
use Rattle.clauses.specs.Clauses.{is_backed}
use Rattle.record_clauses.proofs.Marked.versions_backed.Goals as goal

pub returns : goal.returns
returns c =
    let r = c.args.self.record in
    all_rows (is_backed (edits_of r.tables.counts r.tables.words.now) r.number (rec_in r))
    c.all.new.self c.all.ensures.ran c.versions.ensures (λ x b q k. search (rules, tests))
