use mathlib.Core.Path.{◌∙◌}
use lib.Dec.{eqb}
use borrow.Author.Tests.{tests}
use Rattle.std.proofs.Common.{rules}
use Rattle.types.specs.declared.Version.{Version}
use Rattle.meaning.specs.Store.{first, version_on}
use Rattle.tables.proofs.Chained.{find_row}
use Rattle.lookups.proofs.versions.version_on.Goals as goal

pub returns : goal.returns
unfolding version_on
returns c =
    c.unwrap_or.ensures
    ∙ find_row (λ (v : Version). eqb v.point c.args.p) c.find.new.self _ first c.find.ensures.ran c.versions.ensures
    (λ x b q k. search (rules, tests))
