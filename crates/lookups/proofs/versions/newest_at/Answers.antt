use mathlib.Core.Path.{◌∙◌}
use lib.Dec.{leb}
use borrow.Author.Tests.{tests}
use Rattle.std.proofs.Common.{rules}
use Rattle.types.specs.declared.Version.{Version}
use Rattle.meaning.specs.Store.{first, newest_at}
use Rattle.tables.proofs.Chained.{find_row}
use Rattle.lookups.proofs.versions.newest_at.Goals as goal

pub returns : goal.returns
unfolding newest_at
returns c =
    c.unwrap_or.ensures
    ∙ find_row (λ (v : Version). leb v.point c.args.p) c.find.new.self _ first c.find.ensures.ran c.versions.ensures
    (λ x b q k. search (rules, tests))
