-- The layout of document 01. Every width and offset has its name here and nowhere else; src/lib.rt has the same names.
-- Rests on Table and Heads of the crate `chains`.
use Rattle.std.specs.Prelude.{ℕ, ◌+◌, ◌*◌, ◌≤◌, ◌≡◌, Bool, ◌&&◌, List, length, get_or, eqb}
use Rattle.chains.specs.declared.Table.{Table}
use Rattle.chains.specs.declared.Heads.{Heads}
use Rattle.types.specs.Limits.{MAX_RECORDS, MAX_EDITS, MAX_ROWS}
use Rattle.meaning.specs.Records.{good_counts}
use Rattle.types.specs.declared.Counts.{Counts}

-- "8 header words; then 3 for each record, 4 for each edit slot, 4 for each version row, 5 for each lock row, 5 for
-- each access row"
abbrev pub HEADER : ℕ
HEADER = 8

abbrev pub RECORD : ℕ
RECORD = 3

abbrev pub SLOT : ℕ
SLOT = 4

abbrev pub VERSION : ℕ
VERSION = 4

abbrev pub LOCK : ℕ
LOCK = 5

abbrev pub ACCESS : ℕ
ACCESS = 5

-- header: "record, edit, version, lock, access counts; first free version, lock, access row"
abbrev pub H_RECORDS : ℕ
H_RECORDS = 0

abbrev pub H_EDITS : ℕ
H_EDITS = 1

abbrev pub H_VERSIONS : ℕ
H_VERSIONS = 2

abbrev pub H_LOCKS : ℕ
H_LOCKS = 3

abbrev pub H_ACCESSES : ℕ
H_ACCESSES = 4

abbrev pub FREE_VERSION : ℕ
FREE_VERSION = 5

abbrev pub FREE_LOCK : ℕ
FREE_LOCK = 6

abbrev pub FREE_ACCESS : ℕ
FREE_ACCESS = 7

-- record: "first version, first lock, floor"
abbrev pub R_VERSION : ℕ
R_VERSION = 0

abbrev pub R_LOCK : ℕ
R_LOCK = 1

abbrev pub R_FLOOR : ℕ
R_FLOOR = 2

-- edit slot: "state, generation, first access, commit point"
abbrev pub S_STATE : ℕ
S_STATE = 0

abbrev pub S_GENERATION : ℕ
S_GENERATION = 1

abbrev pub S_ACCESS : ℕ
S_ACCESS = 2

abbrev pub S_POINT : ℕ
S_POINT = 3

-- version: "point, value, 0, next"
abbrev pub V_POINT : ℕ
V_POINT = 0

abbrev pub V_VALUE : ℕ
V_VALUE = 1

abbrev pub V_SPARE : ℕ
V_SPARE = 2

abbrev pub V_NEXT : ℕ
V_NEXT = 3

-- lock: "low, high, mode + 4 × owner slot, record, next"
abbrev pub L_LOW : ℕ
L_LOW = 0

abbrev pub L_HIGH : ℕ
L_HIGH = 1

abbrev pub L_MODE : ℕ
L_MODE = 2

abbrev pub L_RECORD : ℕ
L_RECORD = 3

abbrev pub L_NEXT : ℕ
L_NEXT = 4

abbrev pub MODES : ℕ
MODES = 4

-- access: "record, point read + 1 or 0, 1 if written, value, next"
abbrev pub A_RECORD : ℕ
A_RECORD = 0

abbrev pub A_FROM : ℕ
A_FROM = 1

abbrev pub A_WRITTEN : ℕ
A_WRITTEN = 2

abbrev pub A_VALUE : ℕ
A_VALUE = 3

abbrev pub A_NEXT : ℕ
A_NEXT = 4

-- where the parts begin, one after the other, and where they end
unfoldable pub slot_base : Counts → ℕ
slot_base c = HEADER + c.records * RECORD

unfoldable pub version_base : Counts → ℕ
version_base c = HEADER + c.records * RECORD + c.edits * SLOT

unfoldable pub lock_base : Counts → ℕ
lock_base c = HEADER + c.records * RECORD + c.edits * SLOT + c.versions * VERSION

unfoldable pub access_base : Counts → ℕ
access_base c = HEADER + c.records * RECORD + c.edits * SLOT + c.versions * VERSION + c.locks * LOCK

unfoldable pub size_of : Counts → ℕ
size_of c =
    HEADER + c.records * RECORD + c.edits * SLOT + c.versions * VERSION + c.locks * LOCK + c.accesses * ACCESS

-- The five parts as tables. Record r is row r + 1 of the first, slot k row k of the second; these two have no chains.
unfoldable pub record_table : Counts → Table
record_table c = record { base = HEADER; stride = RECORD; off = R_VERSION; count = c.records }

unfoldable pub slot_table : Counts → Table
slot_table c = record { base = slot_base c; stride = SLOT; off = S_ACCESS; count = c.edits }

unfoldable pub version_table : Counts → Table
version_table c = record { base = version_base c; stride = VERSION; off = V_NEXT; count = c.versions }

unfoldable pub lock_table : Counts → Table
lock_table c = record { base = lock_base c; stride = LOCK; off = L_NEXT; count = c.locks }

unfoldable pub access_table : Counts → Table
access_table c = record { base = access_base c; stride = ACCESS; off = A_NEXT; count = c.accesses }

-- the heads of their chains: record r's versions and locks are chain r + 1, slot k's accesses chain k
unfoldable pub version_heads : Counts → Heads
version_heads c = record { free = FREE_VERSION; first = HEADER + R_VERSION; step = RECORD; owners = c.records }

unfoldable pub lock_heads : Counts → Heads
lock_heads c = record { free = FREE_LOCK; first = HEADER + R_LOCK; step = RECORD; owners = c.records }

unfoldable pub access_heads : Counts → Heads
access_heads c = record { free = FREE_ACCESS; first = slot_base c + S_ACCESS; step = SLOT; owners = c.edits }

-- the counts that the header states
unfoldable pub counts_of : List ℕ → Counts
counts_of w =
    record {
      records = get_or w H_RECORDS 0;
      edits = get_or w H_EDITS 0;
      versions = get_or w H_VERSIONS 0;
      locks = get_or w H_LOCKS 0;
      accesses = get_or w H_ACCESSES 0;
    }

-- "its length fits its counts, and they are in range"
unfoldable pub header_ok : List ℕ → Bool
header_ok w = good_counts (counts_of w) && eqb (length w) (size_of (counts_of w))

-- counts in range, as plain facts
pub record Ranged (c : Counts) : Type 0 where
  pub records_low : 1 ≤ c.records
  pub records_high : c.records ≤ MAX_RECORDS
  pub edits_low : 1 ≤ c.edits
  pub edits_high : c.edits ≤ MAX_EDITS
  pub versions_low : 1 ≤ c.versions
  pub versions_high : c.versions ≤ MAX_ROWS
  pub locks_low : 1 ≤ c.locks
  pub locks_high : c.locks ≤ MAX_ROWS
  pub accesses_low : 1 ≤ c.accesses
  pub accesses_high : c.accesses ≤ MAX_ROWS

-- c are the counts of w, in range, and w has their length
pub record Fits (c : Counts) (w : List ℕ) : Type 0 where
  pub counts : counts_of w ≡ c
  pub ranged : Ranged c
  pub size : length w ≡ size_of c
