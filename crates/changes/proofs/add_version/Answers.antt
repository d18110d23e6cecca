-- `changes::add_version` meets its contract. Rests on Versions and on Rooms of `tables`.
use native.Mathlib.Omega.{arith}
use Rattle.tables.specs.Layout.{version_table}
use Rattle.tables.proofs.Rooms.{free_version}
use Rattle.changes.proofs.Versions.{version_ready, version_row, version_inserted_fits, add_version_law}
use Rattle.changes.proofs.Versions.{add_version_kept}
use Rattle.changes.proofs.add_version.Goals as goal

pub insert-requires : goal.insert-requires
unfolding version_table
insert-requires c =
    (c.requires.0.fits, c.requires.1, version_ready c.requires.0 c.requires.1, omega arith)

pub returns-in_default : goal.returns-in_default
returns-in_default c = absurd (free_version c.requires.0 c.requires.3 c.in_default.ensures.head)

pub put_version-requires : goal.put_version-requires
put_version-requires c =
    let k = c.in-Some.ensures in
    (version_inserted_fits c.requires.0 c.requires.1 k, version_row c.requires.0 c.requires.1 k)

pub returns : goal.returns
returns c =
    let P = c.requires in
    let k = c.in-Some.ensures in
    record {
      becomes =
          add_version_law P.0 P.1 k _ _ (omega (arith, P.2)) c.put_version.ensures;
      accesses = add_version_kept P.0 P.1 k _ _ c.put_version.ensures;
    }
