-- What a change that frees rows promises: what the words become, and how many rows were freed. Rests on Becomes of
-- `changes`.
use Rattle.std.specs.Prelude.{ℕ, ◌-◌, ◌≡◌, List, length}
use Rattle.meaning.specs.Store.{Store, rec_at}
use Rattle.types.specs.declared.Lock.{Lock}
use Rattle.types.specs.declared.Version.{Version}
use Rattle.types.specs.declared.Counts.{Counts}
use Rattle.tables.specs.Decode.{decode_at}
use Rattle.changes.specs.Becomes.{Becomes, on_versions, on_locks}

-- a change of the list xs by f that frees rows, n of them: as many as the list has fewer
pub record Frees {A : Type 0} (c : Counts) (w' : List ℕ) (s : Store) (f : List A → List A) (xs : List A)
    (n : ℕ) : Type 0 where
  pub becomes : Becomes c w' s
  pub number : n ≡ length xs - length (f xs)

-- of record r's versions, locks
abbrev pub FreesVersions : Counts → List ℕ → List ℕ → ℕ → (List Version → List Version) → ℕ → Type 0
FreesVersions c w w' r f n = Frees c w' (on_versions (decode_at c w) r f) f (rec_at (decode_at c w) r).versions n

abbrev pub FreesLocks : Counts → List ℕ → List ℕ → ℕ → (List Lock → List Lock) → ℕ → Type 0
FreesLocks c w w' r f n = Frees c w' (on_locks (decode_at c w) r f) f (rec_at (decode_at c w) r).locks n
