-- The parts of the decoded store: record r and slot k are what the words say. Rests on Builds.
use Prim.Native.Nat.{ℕ, zero, suc, ◌<◌, ◌≤◌}
use mathlib.Core.Path.{◌≡◌, refl}
use mathlib.Core.List.{List, map}
use native.Mathlib.Omega.{arith}
use lib.ListN.{length}
use Rattle.std.proofs.lemmas.List.{length-map}
use Rattle.chains.specs.Walk.{IsRow, rows}
use Rattle.chains.specs.Table.{link, chain, head_of, rows_of}
use Rattle.chains.proofs.Walks.{rows_length}
use Rattle.meaning.specs.Store.{fresh_rec, fresh_edit, rec_of, edit_of, rec_at, edit_at}
use Rattle.types.specs.declared.Counts.{Counts}
use Rattle.tables.specs.Layout.{version_table, version_heads, lock_table, lock_heads, access_table, access_heads}
use Rattle.tables.specs.Decode.{record_at, slot_at, records_of, edits_of, decode_at, version_at, lock_at, access_at}
use Rattle.tables.specs.Decode.{versions_of, version_rows, locks_of, lock_rows, accesses_of, access_rows}
use Rattle.tables.proofs.Builds.{build_length, build_at}

few : {A : Type 0} (at : ℕ → A) (nx : ℕ → ℕ) (n h : ℕ) → length (map at (rows nx n n h)) ≤ n
few at nx n h = omega (arith, rows_length nx n n h, length-map (rows nx n n h) at)

module _ (c : Counts) (w : List ℕ) where
  pub rec_of_lem : (r : ℕ) → r < c.records → rec_of (records_of c w) r ≡ record_at c w r
  unfolding rec_of records_of
  rec_of_lem r l = build_at c.records (record_at c w) r fresh_rec l

  pub edit_of_lem : (k : ℕ) → IsRow c.edits k → edit_of (edits_of c w) k ≡ slot_at c w k
  unfolding edit_of edits_of
  edit_of_lem zero l = absurd (omega (arith, l.low))
  edit_of_lem (suc i) l = build_at c.edits (λ j. slot_at c w (suc j)) i fresh_edit (omega (arith, l.high))

  pub records_length : length (records_of c w) ≡ c.records
  unfolding records_of
  records_length = build_length c.records (record_at c w)

  pub edits_length : length (edits_of c w) ≡ c.edits
  unfolding edits_of
  edits_length = build_length c.edits (λ i. slot_at c w (suc i))

  -- the same of the store
  pub rec_at_lem : (r : ℕ) → r < c.records → rec_at (decode_at c w) r ≡ record_at c w r
  unfolding decode_at
  rec_at_lem r l = rec_of_lem r l

  pub edit_at_lem : (k : ℕ) → IsRow c.edits k → edit_at (decode_at c w) k ≡ slot_at c w k
  unfolding decode_at
  edit_at_lem k l = edit_of_lem k l

  pub decoded_records : (decode_at c w).records ≡ records_of c w
  unfolding decode_at
  decoded_records = refl

  pub decoded_edits : (decode_at c w).edits ≡ edits_of c w
  unfolding decode_at
  decoded_edits = refl

  -- a chain has no more rows than its table
  pub versions_few : (r : ℕ) → length (record_at c w r).versions ≤ c.versions
  unfolding record_at versions_of version_rows rows_of chain version_table
  versions_few r = few (version_at c w) (link (version_table c) w) c.versions (head_of (version_heads c) w (suc r))

  pub locks_few : (r : ℕ) → length (record_at c w r).locks ≤ c.locks
  unfolding record_at locks_of lock_rows rows_of chain lock_table
  locks_few r = few (lock_at c w) (link (lock_table c) w) c.locks (head_of (lock_heads c) w (suc r))

  pub accesses_few : (k : ℕ) → length (slot_at c w k).accesses ≤ c.accesses
  unfolding slot_at accesses_of access_rows rows_of chain access_table
  accesses_few k = few (access_at c w) (link (access_table c) w) c.accesses (head_of (access_heads c) w k)
