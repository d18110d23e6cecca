-- The calls Lock and Read; those that add a lock are over a way to keep locks, and the store's is `joined`. Rests on
-- Outcomes and Edits.
use Rattle.std.specs.Prelude.{ℕ, suc, ◌-◌, Bool, false, cond, ◌&&◌, leb, ltb}
use Rattle.types.specs.Limits.{LAST, READ, WRITE}
use Rattle.meaning.specs.Store.{blank, Version, Access, Rec, Store, slot_of, edit_at, rec_at, with_edit}
use Rattle.meaning.specs.Store.{with_rec, with_locks, access_of, has_read, newest_below, version_on}
use Rattle.meaning.specs.Points.{first_blocked, first_open, Keeping, joined}
use Rattle.types.specs.Replies.{locked, read, own, again}
use Rattle.meaning.specs.Outcomes.{Outcome, replies, Verdict, pass, or_else, needs, unless, for_open, has_record}
use Rattle.meaning.specs.Outcomes.{is_point, judge, access_room, lock_room}
use Rattle.meaning.specs.Edits.{with_access}
use Rattle.types.specs.declared.Extent.{Extent}
use Rattle.types.specs.declared.Extent.TheVariants.{All, Part}
use Rattle.types.specs.declared.Pending.TheVariants.{Unwritten}
use Rattle.meaning.specs.Store.{has_written, written_value}

-- "A wants all points or none, P takes a part." Where what is taken of low..high ends, if it starts at from
abbrev pub grant_end : Extent → ℕ → ℕ → Rec → ℕ → ℕ → ℕ
grant_end All mode k x from high = high
grant_end Part mode k x from high = first_blocked mode k x from high - 1

-- Lock: all of low..high, or "the run from the first free point": where it starts
abbrev pub lock_from : Extent → ℕ → Rec → ℕ → ℕ → ℕ
lock_from All k x low high = low
lock_from Part k x low high = first_open WRITE k x low high

-- "to just before the next blocked one, or to high": where what Lock takes ends
abbrev pub lock_end : Extent → ℕ → Rec → ℕ → ℕ → ℕ
lock_end w k x low high = grant_end w WRITE k x (lock_from w k x low high) high

-- Lock is granted. A "wants all points": none is blocked. P "takes a part": some point is not blocked
abbrev pub lock_granted : Extent → ℕ → Rec → ℕ → ℕ → Bool
lock_granted All k x low high = ltb high (first_blocked WRITE k x low high)
lock_granted Part k x low high = leb (first_open WRITE k x low high) high

-- Read is granted. A: no point is write-locked by another owner. P "needs at least tr + 1"
abbrev pub read_granted : Extent → ℕ → Rec → ℕ → ℕ → Bool
read_granted All k x low high = ltb high (first_blocked READ k x low high)
read_granted Part k x low high = ltb low (first_blocked READ k x low high)

-- slot k gets a lock on low..high of record r: "one lock for each grant"
unfoldable pub with_lock_by : Keeping → Store → ℕ → ℕ → ℕ → ℕ → ℕ → Store
with_lock_by K s r mode k low high =
    with_rec s r
    (with_locks (rec_at s r) (K.add (record { low = low; high = high; mode = mode; owner = k }) (rec_at s r).locks))

-- Lock: 9 or 8, 11
unfoldable pub lock_verdict : Store → ℕ → ℕ → ℕ → ℕ → Extent → Verdict
lock_verdict s k r low high w =
    or_else (lock_granted w k (rec_at s r) low high) (judge s r WRITE k (first_blocked WRITE k (rec_at s r) low high))
    (needs (lock_room s) 11 pass)

-- Lock: 2, 3, 5, 6, 7
unfoldable pub lock_checks : Store → ℕ → ℕ → ℕ → ℕ → Verdict
lock_checks s h r low high =
    for_open s h
    (needs (has_record s r) 5 (needs (leb low high && leb high LAST) 6 (needs (ltb (rec_at s r).floor low) 7 pass)))

-- "Lock write-locks low..high", reply `locked` low high: for slot k, once 2 to 7 are passed
unfoldable pub lock_wanted_by : Keeping → Store → ℕ → ℕ → ℕ → ℕ → Extent → Outcome
lock_wanted_by K s k r low high w =
    let from : ℕ = lock_from w k (rec_at s r) low high in
    let end : ℕ = lock_end w k (rec_at s r) low high in
    unless s (lock_verdict s k r low high w) (replies (with_lock_by K s r WRITE k from end) (locked from end))

-- "Lock write-locks low..high": the call, with all its checks
unfoldable pub locking_by : Keeping → ℕ → ℕ → ℕ → ℕ → Extent → Store → Outcome
locking_by K h r low high w s = unless s (lock_checks s h r low high) (lock_wanted_by K s (slot_of h) r low high w)

-- Read: "the version is the newest below m"
abbrev pub read_version : Store → ℕ → ℕ → Version
read_version s r m = newest_below (rec_at s r).versions m

-- Read: "at tr, and tr + 1..m is read-locked": tr + 1
abbrev pub read_from : Store → ℕ → ℕ → ℕ
read_from s r m = suc (read_version s r m).point

-- Read: m, or for P "stops before the first point write-locked by another owner": where the lock ends
abbrev pub read_end : Store → ℕ → ℕ → ℕ → Extent → ℕ
read_end s k r m w = grant_end w READ k (rec_at s r) (read_from s r m) m

-- Read: 7, 9 or 8, 10, 11
unfoldable pub read_verdict : Store → ℕ → ℕ → ℕ → Extent → Verdict
read_verdict s k r m w =
    needs (ltb (rec_at s r).floor m) 7
    (or_else (read_granted w k (rec_at s r) (read_from s r m) m)
    (judge s r READ k (first_blocked READ k (rec_at s r) (read_from s r m) m))
    (needs (access_room s k r) 10 (needs (lock_room s) 11 pass)))

-- Layout, access: "point read + 1": what a new read remembers, from being tr + 1
abbrev pub read_access : ℕ → ℕ → Access
read_access r from = record { rec = r; from = from; value = Unwritten blank }

-- Read: the store after a new read, with its lock and its access
unfoldable pub read_store_by : Keeping → Store → ℕ → ℕ → ℕ → ℕ → Store
read_store_by K s k r from end =
    with_edit (with_lock_by K s r READ k from end) k (with_access (edit_at s k) (read_access r from))

-- "Otherwise the version is the newest below m, at tr, and tr + 1..m is read-locked", reply `read` tr end value
unfoldable pub read_new_by : Keeping → Store → ℕ → ℕ → ℕ → Extent → Outcome
read_new_by K s k r m w =
    let v : Version = read_version s r m in
    let end : ℕ = read_end s k r m w in
    unless s (read_verdict s k r m w)
    (replies (read_store_by K s k r (read_from s r m) end) (read v.point end v.value))

-- "an own pending value is the answer if there is one. A record read before gives the same version again. Neither
-- locks."
unfoldable pub read_open_by : Keeping → Store → ℕ → ℕ → ℕ → Extent → Outcome
read_open_by K s k r m w =
    let a : Access = access_of (edit_at s k) r in
    let v : Version = version_on (rec_at s r).versions (a.from - 1) in
    cond (has_written a) (replies s (own (written_value a)))
    (cond (has_read a) (replies s (again (a.from - 1) v.value)) (read_new_by K s k r m w))

-- Read: 2, 3, 5, 6
unfoldable pub read_checks : Store → ℕ → ℕ → ℕ → Verdict
read_checks s h r m = for_open s h (needs (has_record s r) 5 (needs (is_point m) 6 pass))

-- "Read up to m": the call, with all its checks
unfoldable pub reading_by : Keeping → ℕ → ℕ → ℕ → Extent → Store → Outcome
reading_by K h r m w s = unless s (read_checks s h r m) (read_open_by K s (slot_of h) r m w)

-- the same with the store's way to keep locks
abbrev pub with_lock : Store → ℕ → ℕ → ℕ → ℕ → ℕ → Store
with_lock = with_lock_by joined

abbrev pub lock_wanted : Store → ℕ → ℕ → ℕ → ℕ → Extent → Outcome
lock_wanted = lock_wanted_by joined

abbrev pub locking : ℕ → ℕ → ℕ → ℕ → Extent → Store → Outcome
locking = locking_by joined

abbrev pub read_store : Store → ℕ → ℕ → ℕ → ℕ → Store
read_store = read_store_by joined

abbrev pub read_new : Store → ℕ → ℕ → ℕ → Extent → Outcome
read_new = read_new_by joined

abbrev pub read_open : Store → ℕ → ℕ → ℕ → Extent → Outcome
read_open = read_open_by joined

abbrev pub reading : ℕ → ℕ → ℕ → Extent → Store → Outcome
reading = reading_by joined
