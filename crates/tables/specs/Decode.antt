-- What the words mean: the abstract store of the crate `meaning`. Rests on Layout and the chains of `chains`; total on
-- all words.
use Rattle.std.specs.Prelude.{ℕ, zero, suc, ◌/◌, ◌%◌, List, [], ◌∷◌, map, eqb, ◌≡◌, cond, Option, Some}
use Rattle.std.specs.List.{find}
use Rattle.chains.specs.Table.{field, rows_of}
use Rattle.meaning.specs.Store.{Rec, Edit, Store, is_of}
use Rattle.types.specs.declared.Version.{Version}
use Rattle.types.specs.declared.Lock.{Lock}
use Rattle.types.specs.declared.Access.{Access}
use Rattle.types.specs.declared.Pending.TheVariants.{Written, Unwritten}
use Rattle.types.specs.declared.Counts.{Counts}
use Rattle.tables.specs.Layout

-- f 0, .., f (n - 1)
unfoldable pub build : {A : Type 0} → ℕ → (ℕ → A) → List A
build zero f = []
build (suc n) f = f 0 ∷ build n (λ i. f (suc i))

module _ (c : Counts) (w : List ℕ) where
  -- the entry of a row
  unfoldable pub version_at : ℕ → Version
  version_at i =
      record {
        point = field (Layout.version_table c) w i Layout.V_POINT;
        value = Some (field (Layout.version_table c) w i Layout.V_VALUE);
        spare = field (Layout.version_table c) w i Layout.V_SPARE;
      }

  unfoldable pub lock_at : ℕ → Lock
  lock_at i =
      record {
        low = field (Layout.lock_table c) w i Layout.L_LOW;
        high = field (Layout.lock_table c) w i Layout.L_HIGH;
        mode = field (Layout.lock_table c) w i Layout.L_MODE % Layout.MODES;
        owner = field (Layout.lock_table c) w i Layout.L_MODE / Layout.MODES;
      }

  unfoldable pub access_at : ℕ → Access
  access_at i =
      record {
        rec = field (Layout.access_table c) w i Layout.A_RECORD;
        from = field (Layout.access_table c) w i Layout.A_FROM;
        value =
            cond (eqb (field (Layout.access_table c) w i Layout.A_WRITTEN) 1)
            (Written (field (Layout.access_table c) w i Layout.A_VALUE))
            (Unwritten (field (Layout.access_table c) w i Layout.A_VALUE));
      }

  -- the rows of a chain: record r's versions and locks, slot k's accesses
  unfoldable pub version_rows : ℕ → List ℕ
  version_rows r = rows_of (Layout.version_table c) (Layout.version_heads c) w (suc r)

  unfoldable pub lock_rows : ℕ → List ℕ
  lock_rows r = rows_of (Layout.lock_table c) (Layout.lock_heads c) w (suc r)

  unfoldable pub access_rows : ℕ → List ℕ
  access_rows k = rows_of (Layout.access_table c) (Layout.access_heads c) w k

  -- and their entries
  unfoldable pub versions_of : ℕ → List Version
  versions_of r = map version_at (version_rows r)

  unfoldable pub locks_of : ℕ → List Lock
  locks_of r = map lock_at (lock_rows r)

  unfoldable pub accesses_of : ℕ → List Access
  accesses_of k = map access_at (access_rows k)

  unfoldable pub floor_of : ℕ → ℕ
  floor_of r = field (Layout.record_table c) w (suc r) Layout.R_FLOOR

  -- record r, from 0, and slot k, from 1
  unfoldable pub record_at : ℕ → Rec
  record_at r = record { versions = versions_of r; locks = locks_of r; floor = floor_of r }

  unfoldable pub slot_at : ℕ → Edit
  slot_at k =
      record {
        state = field (Layout.slot_table c) w k Layout.S_STATE;
        generation = field (Layout.slot_table c) w k Layout.S_GENERATION;
        accesses = accesses_of k;
        point = field (Layout.slot_table c) w k Layout.S_POINT;
      }

  unfoldable pub records_of : List Rec
  records_of = build c.records record_at

  unfoldable pub edits_of : List Edit
  edits_of = build c.edits (λ i. slot_at (suc i))

  unfoldable pub decode_at : Store
  decode_at =
      record {
        records = records_of;
        edits = edits_of;
        version_rows = c.versions;
        lock_rows = c.locks;
        access_rows = c.accesses;
      }

  -- i is the row of slot k's access of record r, if it has one
  abbrev pub AccessRow : ℕ → ℕ → Option ℕ → Type 0
  AccessRow k r i = i ≡ find (λ j. is_of r (access_at j)) (access_rows k)
