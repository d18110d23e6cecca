use lib.Dec.{eqb}
use borrow.Author.Tests.{tests}
use Rattle.std.proofs.Common.{rules}
use Rattle.types.specs.declared.Version.{Version}
use Rattle.tables.proofs.Chained.{any_rows}
use Rattle.lookups.proofs.versions.version_stands.Goals as goal

pub returns : goal.returns
returns c =
    any_rows (λ (v : Version). eqb v.point c.args.p) c.any.new.self c.any.ensures.ran c.versions.ensures
    (λ x b q k. search (rules, tests))
