use mathlib.Core.Path.{◌∙◌}
use lib.Dec.{ltb}
use borrow.Author.Tests.{tests}
use Rattle.std.proofs.Common.{rules}
use Rattle.types.specs.declared.Version.{Version}
use Rattle.meaning.specs.Store.{first, newest_below}
use Rattle.tables.proofs.Chained.{find_row}
use Rattle.lookups.proofs.versions.newest_below.Goals as goal

pub returns : goal.returns
unfolding newest_below
returns c =
    c.unwrap_or.ensures
    ∙ find_row (λ (v : Version). ltb v.point c.args.m) c.find.new.self _ first c.find.ensures.ran c.versions.ensures
    (λ x b q k. search (rules, tests))
