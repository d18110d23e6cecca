-- `trims::cut_versions` meets its contract. Rests on Trims, and on Versions and Keeping of `changes`.
use lib.Dec.{ltb}
use borrow.Author.Tests.{tests}
use Rattle.std.proofs.Common.{rules}
use Rattle.types.specs.declared.Version.{Version}
use Rattle.changes.proofs.Versions.{version_ready}
use Rattle.changes.proofs.Keeping.{versions_keep}
use Rattle.trims.proofs.Trims.{cut_versions_law}
use Rattle.trims.proofs.cut_versions.Goals as goal

pub free_rows-requires-clause-ready : goal.free_rows-requires-clause-ready
free_rows-requires-clause-ready c = (c.requires.0.fits, c.requires.1, version_ready c.requires.0 c.requires.1)

pub free_rows-requires-clause-kept : goal.free_rows-requires-clause-kept
free_rows-requires-clause-kept c = versions_keep c.requires.0.fits

pub free_rows-requires-clause-tested : goal.free_rows-requires-clause-tested
free_rows-requires-clause-tested c = (λ (x : Version). ltb x.point c.args.v, λ x b q. search (rules, tests))

pub returns : goal.returns
returns c =
    cut_versions_law c.args.v c.requires.0 c.requires.1
    (c.free_rows.ensures (λ (x : Version). ltb x.point c.args.v) (λ x b q. search (rules, tests)))
