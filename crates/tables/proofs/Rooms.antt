-- Room in the words of the meaning: where fewer rows are in use than the table has, the free chain is not empty; no
-- more rows are in use than the table has, and the decoded store has the counts of the words. Rests on Rooms of
-- `chains`.
use Prim.Native.Nat.{ℕ, suc, ◌<◌}
use mathlib.Core.Path.{◌≡◌, refl, ap, ◌∙◌}
use mathlib.Core.Bool.{true}
use mathlib.Core.List.{List, map}
use native.Mathlib.Omega.{arith}
use borrow.Author.Tests.{le-leb}
use lib.ListN.{length, length-map}
use Rattle.chains.specs.Table.{head_of, rows_of}
use Rattle.chains.specs.Partition.{used}
use Rattle.chains.proofs.Bounded.{sum_ext}
use Rattle.chains.proofs.Rooms.{free_row, free_used}
use Rattle.meaning.specs.Records.{good_counts}
use Rattle.meaning.specs.Store.{versions_used, locks_used, accesses_used, counts_of}
use Rattle.meaning.specs.Sound.{rows_fit}
use Rattle.meaning.proofs.Lists.{and_in}
use Rattle.types.specs.declared.Counts.{Counts}
use Rattle.tables.specs.Layout.{lock_table, lock_heads, version_table, version_heads, access_table, access_heads}
use Rattle.tables.specs.Decode.{version_at, lock_at, access_at, version_rows, lock_rows, access_rows, versions_of}
use Rattle.tables.specs.Decode.{locks_of, accesses_of, record_at, slot_at, records_of, edits_of, decode_at}
use Rattle.tables.specs.Words.{Well}
use Rattle.tables.proofs.Builds.{total_build}
use Rattle.tables.proofs.Decoded.{records_length, edits_length}
use Rattle.tables.proofs.Header.{ranged_good}

module _ (c : Counts) (w : List ℕ) where
  pub versions_used_lem : versions_used (decode_at c w) ≡ used (version_table c) (version_heads c) w
  unfolding versions_used decode_at records_of record_at versions_of version_rows used version_heads
  versions_used_lem = total_build c.records (record_at c w) (λ x. length x.versions)
      ∙ sum_ext (λ r. length (map (version_at c w) (rows_of (version_table c) (version_heads c) w (suc r))))
      (λ r. length (rows_of (version_table c) (version_heads c) w (suc r))) c.records
      (λ r l. length-map (rows_of (version_table c) (version_heads c) w (suc r)) (version_at c w))

  pub locks_used_lem : locks_used (decode_at c w) ≡ used (lock_table c) (lock_heads c) w
  unfolding locks_used decode_at records_of record_at locks_of lock_rows used lock_heads
  locks_used_lem = total_build c.records (record_at c w) (λ x. length x.locks)
      ∙ sum_ext (λ r. length (map (lock_at c w) (rows_of (lock_table c) (lock_heads c) w (suc r))))
      (λ r. length (rows_of (lock_table c) (lock_heads c) w (suc r))) c.records
      (λ r l. length-map (rows_of (lock_table c) (lock_heads c) w (suc r)) (lock_at c w))

  pub accesses_used_lem : accesses_used (decode_at c w) ≡ used (access_table c) (access_heads c) w
  unfolding accesses_used decode_at edits_of slot_at accesses_of access_rows used access_heads
  accesses_used_lem = total_build c.edits (λ i. slot_at c w (suc i)) (λ x. length x.accesses)
      ∙ sum_ext (λ k. length (map (access_at c w) (rows_of (access_table c) (access_heads c) w (suc k))))
      (λ k. length (rows_of (access_table c) (access_heads c) w (suc k))) c.edits
      (λ k l. length-map (rows_of (access_table c) (access_heads c) w (suc k)) (access_at c w))

  pub counts_decoded : counts_of (decode_at c w) ≡ c
  unfolding decode_at
  counts_decoded = rw (records_length c w, edits_length c w) refl

module _ {c : Counts} {w : List ℕ} (W : Well c w) where
  pub free_version : versions_used (decode_at c w) < c.versions → head_of (version_heads c) w 0 ≡ 0 → ⊥
  unfolding version_table
  free_version l = free_row (version_table c) (version_heads c) w W.versions_parted_lem
      (omega (arith, versions_used_lem c w))

  pub free_lock : locks_used (decode_at c w) < c.locks → head_of (lock_heads c) w 0 ≡ 0 → ⊥
  unfolding lock_table
  free_lock l = free_row (lock_table c) (lock_heads c) w W.locks_parted_lem (omega (arith, locks_used_lem c w))

  pub free_access : accesses_used (decode_at c w) < c.accesses → head_of (access_heads c) w 0 ≡ 0 → ⊥
  unfolding access_table
  free_access l = free_row (access_table c) (access_heads c) w W.accesses_parted_lem
      (omega (arith, accesses_used_lem c w))

  -- the clauses of soundness that well-formed words meet by themselves
  pub rows_fit_lem : rows_fit (decode_at c w) ≡ true
  unfolding rows_fit decode_at version_table lock_table access_table
  rows_fit_lem =
      and_in (le-leb (versions_used (decode_at c w)) c.versions
      (omega (arith, versions_used_lem c w, free_used (version_table c) (version_heads c) w W.versions_parted_lem)))
      (and_in (le-leb (locks_used (decode_at c w)) c.locks
      (omega (arith, locks_used_lem c w, free_used (lock_table c) (lock_heads c) w W.locks_parted_lem)))
      (and_in (le-leb (accesses_used (decode_at c w)) c.accesses
      (omega (arith, accesses_used_lem c w, free_used (access_table c) (access_heads c) w W.accesses_parted_lem)))
      refl))

  pub counts_good : good_counts (counts_of (decode_at c w)) ≡ true
  counts_good = ap good_counts (counts_decoded c w) ∙ ranged_good c W.fits.ranged
