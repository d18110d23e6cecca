-- The number of rows that a loop frees: with the rows still on the chain it makes those that were there before, and so
-- it is the difference of the record's two lists. Rests on Versions, Locks and OneWord of `changes`.
use Prim.Native.Nat.{ℕ, suc, ◌+◌, ◌<◌}
use mathlib.Core.Path.{◌≡◌, ap, ◌∙◌}
use mathlib.Core.List.{List}
use native.Mathlib.Omega.{arith}
use lib.ListN.{length, length-map}
use Rattle.chains.specs.declared.Table.{Table}
use Rattle.chains.specs.declared.Heads.{Heads}
use Rattle.chains.specs.Table.{rows_of}
use Rattle.meaning.specs.Store.{Rec, Store, rec_at, with_locks}
use Rattle.types.specs.declared.Lock.{Lock}
use Rattle.types.specs.declared.Version.{Version}
use Rattle.types.specs.declared.Counts.{Counts}
use Rattle.tables.specs.Layout.{lock_table, lock_heads, version_table, version_heads}
use Rattle.tables.specs.Decode.{lock_at, lock_rows, locks_of, version_at, version_rows, versions_of, decode_at}
use Rattle.changes.specs.Becomes.{Becomes, with_versions, on_versions, on_locks}
use Rattle.trims.specs.Frees.{FreesVersions, FreesLocks}
use Rattle.changes.proofs.Versions.{versions_at}
use Rattle.changes.proofs.Locks.{locks_at}
use Rattle.changes.proofs.OneWord.{rec_there}

-- chain a has lost n rows since w₀
abbrev pub Lost : Table → Heads → List ℕ → ℕ → List ℕ → ℕ → Type 0
Lost t h w₀ a w n = n + length (rows_of t h w a) ≡ length (rows_of t h w₀ a)

version_rows_lem : (c : Counts) (r : ℕ) → r < c.records → (w : List ℕ)
    → length (rec_at (decode_at c w) r).versions ≡ length (rows_of (version_table c) (version_heads c) w (suc r))
unfolding versions_of version_rows
version_rows_lem c r l w = ap length (versions_at c w r l)
    ∙ length-map (rows_of (version_table c) (version_heads c) w (suc r)) (version_at c w)

lock_rows_lem : (c : Counts) (r : ℕ) → r < c.records → (w : List ℕ)
    → length (rec_at (decode_at c w) r).locks ≡ length (rows_of (lock_table c) (lock_heads c) w (suc r))
unfolding locks_of lock_rows
lock_rows_lem c r l w = ap length (locks_at c w r l)
    ∙ length-map (rows_of (lock_table c) (lock_heads c) w (suc r)) (lock_at c w)

module _ {c : Counts} (w : List ℕ) {w' : List ℕ} (r : ℕ) {n : ℕ} (l : r < c.records) where
  pub frees_versions : {f : List Version → List Version} → Lost (version_table c) (version_heads c) w (suc r) w' n
      → Becomes c w' (on_versions (decode_at c w) r f)
      → FreesVersions c w w' r f n
  frees_versions {f} e b =
      let x = rec_at (decode_at c w) r in
      let after : (rec_at (decode_at c w') r).versions ≡ f x.versions =
      ap (λ (s : Store). (rec_at s r).versions) b.means
      ∙ ap (λ (y : Rec). y.versions) (rec_there c w r (with_versions x (f x.versions)) l) in
      record {
        becomes = b;
        number = omega
            (arith, e, version_rows_lem c r l w, version_rows_lem c r l w', ap length after);
      }

  pub frees_locks : {f : List Lock → List Lock} → Lost (lock_table c) (lock_heads c) w (suc r) w' n
      → Becomes c w' (on_locks (decode_at c w) r f) → FreesLocks c w w' r f n
  frees_locks {f} e b =
      let x = rec_at (decode_at c w) r in
      let after : (rec_at (decode_at c w') r).locks ≡ f x.locks =
      ap (λ (s : Store). (rec_at s r).locks) b.means
      ∙ ap (λ (y : Rec). y.locks) (rec_there c w r (with_locks x (f x.locks)) l) in
      record { becomes = b; number = omega (arith, e, lock_rows_lem c r l w, lock_rows_lem c r l w', ap length after) }
