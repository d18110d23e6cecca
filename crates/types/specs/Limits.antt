-- The numbers of document 01, each named once: points, handles, counts, states and modes. Rests on nothing.
use Rattle.std.specs.Prelude.{ℕ}

-- "A clock reading is 0 to 2^40 − 1": one more than the last reading
abbrev pub READINGS : ℕ
READINGS = 1099511627776

-- "a seat number 0 to 63": one more than the last seat, and the factor in "reading × 64 + seat"
abbrev pub SEATS : ℕ
SEATS = 64

-- "points run from 0 to 70,368,744,177,663 (LAST)"
abbrev pub LAST : ℕ
LAST = 70368744177663

-- "An edit's handle is generation × 64 + slot": the factor, above every slot
abbrev pub SLOTS : ℕ
SLOTS = 64

-- "The generation is 0 to 65,535": one more than the last
abbrev pub GENERATIONS : ℕ
GENERATIONS = 65536

-- Layout, record: "1 to 1,024"
abbrev pub MAX_RECORDS : ℕ
MAX_RECORDS = 1024

-- Layout, edit slot: "1 to 63"
abbrev pub MAX_EDITS : ℕ
MAX_EDITS = 63

-- Layout, version, lock and access: "1 to 4,095"
abbrev pub MAX_ROWS : ℕ
MAX_ROWS = 4095

-- Layout, edit slot: state "0 free"
abbrev pub FREE : ℕ
FREE = 0

-- Layout, edit slot: state "1 open"
abbrev pub OPEN : ℕ
OPEN = 1

-- Layout, edit slot: state "2 committed"
abbrev pub COMMITTED : ℕ
COMMITTED = 2

-- Layout, edit slot: state "3 aborted"
abbrev pub ABORTED : ℕ
ABORTED = 3

-- Layout, lock: mode "1 read"
abbrev pub READ : ℕ
READ = 1

-- Layout, lock: mode "2 write"
abbrev pub WRITE : ℕ
WRITE = 2

-- "Owner 0 marks a settled lock."
abbrev pub SETTLED : ℕ
SETTLED = 0
