-- `soundness::word_clauses::chains_parted` meets its contract. Rests on Parts of `chains`, on Rows of `tables`.
use native.Mathlib.Omega.{arith}
use Rattle.chains.proofs.Parts.{can_check}
use Rattle.tables.specs.Layout.{version_table, lock_table, access_table}
use Rattle.tables.specs.Rows.{versions_laid, locks_laid, accesses_laid}
use Rattle.tables.specs.Words.{versions_parted, locks_parted, accesses_parted}
use Rattle.soundness.proofs.word_clauses.chains_parted.Goals as goal

pub partitions_ok-requires : goal.partitions_ok-requires
unfolding version_table lock_table access_table
partitions_ok-requires c =
    let fits = c.args.t.fits in
    let v = can_check (versions_laid _ _ fits) (omega (arith, fits.ranged.versions_high)) in
    let l = can_check (locks_laid _ _ fits) (omega (arith, fits.ranged.locks_high)) in
    let a = can_check (accesses_laid _ _ fits) (omega (arith, fits.ranged.accesses_high)) in
    rw (c.linked.ensures, c.linked-2.ensures, c.linked-3.ensures) (v, l, a)

pub returns : goal.returns
unfolding versions_parted locks_parted accesses_parted
returns c =
    rw (c.linked.ensures, c.linked-2.ensures, c.linked-3.ensures) at c.partitions_ok.ensures
