-- Versions and locks read the same where only head and link words differ. Rests on OneTable, Versions and Locks.
use Prim.Native.Nat.{ℕ}
use mathlib.Core.List.{List}
use native.Mathlib.Omega.{arith}
use Rattle.chains.proofs.Frames.{only_elsewhere}
use Rattle.types.specs.declared.Counts.{Counts}
use Rattle.tables.specs.Layout.{version_table, version_heads, lock_table, lock_heads, Fits}
use Rattle.tables.specs.Decode.{version_at, lock_at}
use Rattle.changes.specs.Freed.{RowsKept}
use Rattle.changes.proofs.OneTable.{versions_fit, locks_fit}
use Rattle.changes.proofs.Versions.{version_kept}
use Rattle.changes.proofs.Locks.{lock_kept}

module _ {c : Counts} {w : List ℕ} (f : Fits c w) where
  pub versions_keep : RowsKept (version_table c) (version_heads c) (version_at c) c w
  unfolding version_table
  versions_keep w' e = (versions_fit f (only_elsewhere (omega arith) e), version_kept f e)

  pub locks_keep : RowsKept (lock_table c) (lock_heads c) (lock_at c) c w
  unfolding lock_table
  locks_keep w' e = (locks_fit f (only_elsewhere (omega arith) e), λ i q. (lock_kept f e i q).0)
