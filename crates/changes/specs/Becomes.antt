-- What a change promises: the words after it are well formed and mean this store. Rests on the crate `tables`.
use Rattle.std.specs.Prelude.{ℕ, ◌≡◌, List, Some}
use Rattle.meaning.specs.Store.{Rec, Edit, Store, with_rec, with_edit, with_locks, rec_at, edit_at}
use Rattle.types.specs.declared.Lock.{Lock}
use Rattle.types.specs.declared.Version.{Version}
use Rattle.types.specs.declared.Access.{Access}
use Rattle.types.specs.declared.Counts.{Counts}
use Rattle.chains.specs.Walk.{IsRow}
use Rattle.chains.specs.Table.{link}
use Rattle.tables.specs.Layout.{access_table}
use Rattle.tables.specs.Decode.{access_at, decode_at}
use Rattle.tables.specs.Words.{Well}

pub record Becomes (c : Counts) (w : List ℕ) (s : Store) : Type 0 where
  pub well : Well c w
  pub means : decode_at c w ≡ s

-- the version that a commit at a point leaves of a written value
abbrev pub version_of : ℕ → ℕ → Version
version_of point value = record { point = point; value = Some value; spare = 0 }

-- a record and a slot with one part changed
abbrev pub with_versions : Rec → List Version → Rec
with_versions x vs = record { versions = vs; locks = x.locks; floor = x.floor }

abbrev pub with_floor : Rec → ℕ → Rec
with_floor x v = record { versions = x.versions; locks = x.locks; floor = v }

abbrev pub with_accesses : Edit → List Access → Edit
with_accesses e as' = record { state = e.state; generation = e.generation; accesses = as'; point = e.point }

abbrev pub with_state : Edit → ℕ → Edit
with_state e v = record { state = v; generation = e.generation; accesses = e.accesses; point = e.point }

abbrev pub with_point : Edit → ℕ → Edit
with_point e v = record { state = e.state; generation = e.generation; accesses = e.accesses; point = v }

abbrev pub with_generation : Edit → ℕ → Edit
with_generation e g = record { state = e.state; generation = g; accesses = e.accesses; point = e.point }

-- a store with record r's versions, locks or floor changed, or slot k
abbrev pub on_versions : Store → ℕ → (List Version → List Version) → Store
on_versions s r f = with_rec s r (with_versions (rec_at s r) (f (rec_at s r).versions))

abbrev pub on_locks : Store → ℕ → (List Lock → List Lock) → Store
on_locks s r f = with_rec s r (with_locks (rec_at s r) (f (rec_at s r).locks))

abbrev pub on_edit : Store → ℕ → (Edit → Edit) → Store
on_edit s k f = with_edit s k (f (edit_at s k))

-- the access rows of w are those of w', with their links: a walk along a chain of accesses goes on as before
pub record AccessesKept (c : Counts) (w w' : List ℕ) : Type 0 where
  pub entry : (i : ℕ) → IsRow c.accesses i → access_at c w' i ≡ access_at c w i
  pub next : (i : ℕ) → IsRow c.accesses i → link (access_table c) w' i ≡ link (access_table c) w i

-- a change of versions or locks, made beside such a walk
pub record Beside (c : Counts) (w w' : List ℕ) (s : Store) : Type 0 where
  pub becomes : Becomes c w' s
  pub accesses : AccessesKept c w w'
