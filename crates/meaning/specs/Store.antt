-- The abstract store: what the words of a sound slice mean. Row numbers, chains and free rows are left out.
-- Rests on Lists and on Limits, Values and Numbers of `types`; Version, Lock, Access, Value and Counts are its types.
use Rattle.std.specs.Prelude.{ℕ, zero, suc, Bool, false, not, List, [], length, get_or, set, replicate, leb, ltb, eqb}
use Rattle.std.specs.Prelude.{None, is_some}
use Rattle.std.specs.Option.{unwrap_or}
use Rattle.meaning.specs.Lists.{any, find, total, keep}
use Rattle.types.specs.Limits.{FREE}
pub use Rattle.types.specs.Values.{Value}
pub use Rattle.types.specs.Values.{Val, blank}
use Rattle.types.specs.Values.{pending_value}
use Rattle.types.specs.declared.Pending.TheVariants.{Unwritten}
pub use Rattle.types.specs.Numbers.{handle, slot_of, generation_of, next_generation}
pub use Rattle.types.specs.declared.Version.{Version}
pub use Rattle.types.specs.declared.Lock.{Lock}
pub use Rattle.types.specs.declared.Access.{Access}
pub use Rattle.types.specs.declared.Counts.{Counts}

-- Layout, record: "first version, first lock, floor". The paper's key: its versions from the newest, its locks, its
-- floor (low-water mark: versions below it are purged)
pub record Rec : Type 0 where
  pub versions : List Version
  pub locks : List Lock
  pub floor : ℕ

-- Layout, edit slot: "state ..., generation, first access, commit point (0 unless committed)". The slot of an edit, the
-- paper's transaction
pub record Edit : Type 0 where
  pub state : ℕ
  pub generation : ℕ
  pub accesses : List Access
  pub point : ℕ

-- Layout, header: "record, edit, version, lock, access counts". The first two are the lengths of the lists; the last
-- three are the numbers of rows of the tables
pub record Store : Type 0 where
  pub records : List Rec
  pub edits : List Edit
  pub version_rows : ℕ
  pub lock_rows : ℕ
  pub access_rows : ℕ

-- a record of a fresh store: "Point 0 belongs to the first, never written state"
abbrev pub fresh_rec : Rec
fresh_rec = record { versions = []; locks = []; floor = 0 }

-- "The generation is 0 to 65,535, 0 in a fresh store": a slot of a fresh store, free
abbrev pub fresh_edit : Edit
fresh_edit = record { state = FREE; generation = 0; accesses = []; point = 0 }

-- "Format writes the counts, free chains in rising order, and zero elsewhere": what these words mean
abbrev pub fresh : Counts → Store
fresh c =
    record {
      records = replicate c.records fresh_rec;
      edits = replicate c.edits fresh_edit;
      version_rows = c.versions;
      lock_rows = c.locks;
      access_rows = c.accesses;
    }

-- "its length fits its counts, and they are in range": the five counts of a store
abbrev pub counts_of : Store → Counts
counts_of s =
    record {
      records = length s.records;
      edits = length s.edits;
      versions = s.version_rows;
      locks = s.lock_rows;
      accesses = s.access_rows;
    }

-- "edit slot | 1 to 63, named from 1": the edit of a slot; slot 0 and those past the end read as free
unfoldable pub edit_of : List Edit → ℕ → Edit
edit_of es zero = fresh_edit
edit_of es (suc i) = get_or es i fresh_edit

-- the edits with e in slot k, for with_edit; slot 0 and those past the end are no slots, and nothing changes
unfoldable pub set_edit : List Edit → ℕ → Edit → List Edit
set_edit es zero e = es
set_edit es (suc i) e = set es i e

-- "record | 1 to 1,024, named from 0": the record r; those past the end read as fresh
unfoldable pub rec_of : List Rec → ℕ → Rec
rec_of rs r = get_or rs r fresh_rec

-- the edit of slot k of a store
abbrev pub edit_at : Store → ℕ → Edit
edit_at s k = edit_of s.edits k

-- the record r of a store
abbrev pub rec_at : Store → ℕ → Rec
rec_at s r = rec_of s.records r

-- the store with e in slot k, all else the same. A store is rebuilt only by this and with_records
unfoldable pub with_edit : Store → ℕ → Edit → Store
with_edit s k e =
    record {
      records = s.records;
      edits = set_edit s.edits k e;
      version_rows = s.version_rows;
      lock_rows = s.lock_rows;
      access_rows = s.access_rows;
    }

-- the store with these records, all else the same
unfoldable pub with_records : Store → List Rec → Store
with_records s rs =
    record {
      records = rs;
      edits = s.edits;
      version_rows = s.version_rows;
      lock_rows = s.lock_rows;
      access_rows = s.access_rows;
    }

-- the store with x for its record r, all else the same
abbrev pub with_rec : Store → ℕ → Rec → Store
with_rec s r x = with_records s (set s.records r x)

-- the record with these locks, its versions and its floor the same
abbrev pub with_locks : Rec → List Lock → Rec
with_locks x ls = record { versions = x.versions; locks = ls; floor = x.floor }

-- "slots in use": a slot is in use unless it is free
unfoldable pub in_use : List Edit → ℕ → Bool
in_use es k = not (eqb (edit_of es k).state FREE)

-- an access of record r; for access_of, names and Edits.with_access
abbrev pub is_of : ℕ → Access → Bool
is_of r a = eqb a.rec r

-- an access of r with nothing read and nothing written; for access_of, where the edit has none
abbrev pub no_access : ℕ → Access
no_access r = record { rec = r; from = 0; value = Unwritten blank }

-- "an edit names an existing record at most once in its accesses": its access of record r
unfoldable pub access_of : Edit → ℕ → Access
access_of e r = find (is_of r) (no_access r) e.accesses

-- the edit names record r in its accesses; else r is "a record new to the edit"
unfoldable pub names : Edit → ℕ → Bool
names e r = any (is_of r) e.accesses

-- Layout, access: "point read + 1 or 0": the record was read
abbrev pub has_read : Access → Bool
has_read a = ltb 0 a.from

-- Layout, access: "1 if written, value": the record was written, and what is to be written ("0 until written")
abbrev pub has_written : Access → Bool
has_written a = is_some (pending_value a.value)

abbrev pub written_value : Access → Val
written_value a = unwrap_or (pending_value a.value) blank

-- "each record written": the accesses of records written
abbrev pub written_of : Edit → List Access
written_of e = keep has_written e.accesses

-- version rows in use; "the free rows" of the version table are the others
unfoldable pub versions_used : Store → ℕ
versions_used s = total (λ x. length x.versions) s.records

-- lock rows in use
unfoldable pub locks_used : Store → ℕ
locks_used s = total (λ x. length x.locks) s.records

-- access rows in use
unfoldable pub accesses_used : Store → ℕ
accesses_used s = total (λ e. length e.accesses) s.edits

-- "Point 0 belongs to the first, never written state (the paper's #)."
abbrev pub first : Version
first = record { point = 0; value = None; spare = 0 }

-- "the newest version at or below p", or the first state; versions stand from the newest
unfoldable pub newest_at : List Version → ℕ → Version
newest_at vs p = find (λ v. leb v.point p) first vs

-- Read: "the version is the newest below m", or the first state
unfoldable pub newest_below : List Version → ℕ → Version
newest_below vs p = find (λ v. ltb v.point p) first vs

-- "gives the same version again": the version on point p, or the first state
unfoldable pub version_on : List Version → ℕ → Version
version_on vs p = find (λ v. eqb v.point p) first vs
