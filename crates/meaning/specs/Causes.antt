-- The causes of the table "Sixteen ways to say no", one pointwise definition for each row and no computed search in
-- any. A call that a cause cannot concern has ⊥ there. Rests on Pointwise and the store; Order puts them in the order
-- of the checks.
use Rattle.std.specs.Prelude.{ℕ, suc, ◌≤◌, ◌<◌, ◌≡◌, ◌⊎◌, true, length}
use Rattle.meaning.specs.Lists.{◌∈◌}
use Rattle.types.specs.Limits.{LAST, READ, WRITE, SETTLED, FREE, OPEN, COMMITTED, ABORTED, MAX_RECORDS}
use Rattle.types.specs.Limits.{MAX_EDITS, MAX_ROWS}
use Rattle.meaning.specs.Store.{Version, Lock, Access, Counts, Store, slot_of, generation_of, edit_at, rec_at}
use Rattle.meaning.specs.Store.{accesses_used}
use Rattle.meaning.specs.Pointwise.{LeastBlocked, LockDenied, ReadDenied, InCommonSet, NewestIs}
use Rattle.types.specs.declared.Extent.{Extent}
use Rattle.types.specs.declared.Pick.TheVariants.{Earliest, Latest, Named}
use Rattle.types.specs.declared.Call.{Call}
use Rattle.types.specs.declared.Call.TheVariants as C
use Rattle.meaning.specs.Store.{has_written}

-- P of the handle of a call; for 2
abbrev pub OfHandle : Call → (ℕ → Type 0) → Type 0
OfHandle C.Begin P = ⊥
OfHandle (C.Write h r v) P = P h.0
OfHandle (C.Lock h r low high w) P = P h.0
OfHandle (C.Read h r m w) P = P h.0
OfHandle (C.Commit h pick f) P = P h.0
OfHandle (C.Abort h f) P = P h.0
OfHandle (C.Settle h) P = P h.0
OfHandle (C.Purge r b) P = ⊥
OfHandle (C.View r p) P = ⊥

-- P of the handle of a call that wants an open edit; for 3
abbrev pub OfOpen : Call → (ℕ → Type 0) → Type 0
OfOpen C.Begin P = ⊥
OfOpen (C.Write h r v) P = P h.0
OfOpen (C.Lock h r low high w) P = P h.0
OfOpen (C.Read h r m w) P = P h.0
OfOpen (C.Commit h pick f) P = P h.0
OfOpen (C.Abort h f) P = P h.0
OfOpen (C.Settle h) P = ⊥
OfOpen (C.Purge r b) P = ⊥
OfOpen (C.View r p) P = ⊥

-- P of the record of a call; for 5
abbrev pub OfRecord : Call → (ℕ → Type 0) → Type 0
OfRecord C.Begin P = ⊥
OfRecord (C.Write h r v) P = P r
OfRecord (C.Lock h r low high w) P = P r
OfRecord (C.Read h r m w) P = P r
OfRecord (C.Commit h pick f) P = ⊥
OfRecord (C.Abort h f) P = ⊥
OfRecord (C.Settle h) P = ⊥
OfRecord (C.Purge r b) P = P r
OfRecord (C.View r p) P = P r

-- 2 "no such edit: slot out of range or free, or another generation"
pub data NoSuchEdit (s : Store) (h : ℕ) : Type 0 where
  slot_zero : slot_of h ≡ 0 → NoSuchEdit s h
  slot_past : length s.edits < slot_of h → NoSuchEdit s h
  slot_free : (edit_at s (slot_of h)).state ≡ FREE → NoSuchEdit s h
  other_generation : ((edit_at s (slot_of h)).generation ≡ generation_of h → ⊥) → NoSuchEdit s h

-- 3 "edit has ended"
abbrev pub HasEnded : Store → ℕ → Type 0
HasEnded s h = ((edit_at s (slot_of h)).state ≡ COMMITTED) ⊎ ((edit_at s (slot_of h)).state ≡ ABORTED)

-- 4 "edit still open", for a Settle
abbrev pub StillOpen : Call → Store → Type 0
StillOpen C.Begin s = ⊥
StillOpen (C.Write h r v) s = ⊥
StillOpen (C.Lock h r low high w) s = ⊥
StillOpen (C.Read h r m w) s = ⊥
StillOpen (C.Commit h pick f) s = ⊥
StillOpen (C.Abort h f) s = ⊥
StillOpen (C.Settle h) s = (edit_at s (slot_of h.0)).state ≡ OPEN
StillOpen (C.Purge r b) s = ⊥
StillOpen (C.View r p) s = ⊥

-- 6 "point too large; low above high; m or commit point 0" (readings and seats are the call Point's)
abbrev pub BadPoint : Call → Type 0
BadPoint C.Begin = ⊥
BadPoint (C.Write h r v) = ⊥
BadPoint (C.Lock h r low high w) = (LAST < low.0) ⊎ ((LAST < high.0) ⊎ (high.0 < low.0))
BadPoint (C.Read h r m w) = (m.0 ≡ 0) ⊎ (LAST < m.0)
BadPoint (C.Commit h Earliest f) = ⊥
BadPoint (C.Commit h Latest f) = ⊥
BadPoint (C.Commit h (Named p) f) = (p.0 ≡ 0) ⊎ (LAST < p.0)
BadPoint (C.Abort h f) = ⊥
BadPoint (C.Settle h) = ⊥
BadPoint (C.Purge r b) = LAST < b.0
BadPoint (C.View r p) = LAST < p.0

-- "own or repeated reads": an own pending value, or a record read before
pub record Accessed (s : Store) (k r : ℕ) : Type 0 where
  pub access : Access
  pub member : access ∈ (edit_at s k).accesses
  pub names : access.rec ≡ r
  pub used : (has_written access ≡ true) ⊎ (0 < access.from)

-- "then own or repeated reads": a Read that `own` or `again` answers
abbrev pub OwnOrAgain : Call → Store → Type 0
OwnOrAgain C.Begin s = ⊥
OwnOrAgain (C.Write h r v) s = ⊥
OwnOrAgain (C.Lock h r low high w) s = ⊥
OwnOrAgain (C.Read h r m w) s = Accessed s (slot_of h.0) r
OwnOrAgain (C.Commit h pick f) s = ⊥
OwnOrAgain (C.Abort h f) s = ⊥
OwnOrAgain (C.Settle h) s = ⊥
OwnOrAgain (C.Purge r b) s = ⊥
OwnOrAgain (C.View r p) s = ⊥

-- 7 "low or m at or below the floor; view below it"
abbrev pub BelowFloor : Call → Store → Type 0
BelowFloor C.Begin s = ⊥
BelowFloor (C.Write h r v) s = ⊥
BelowFloor (C.Lock h r low high w) s = low.0 ≤ (rec_at s r).floor
BelowFloor (C.Read h r m w) s = m.0 ≤ (rec_at s r).floor
BelowFloor (C.Commit h pick f) s = ⊥
BelowFloor (C.Abort h f) s = ⊥
BelowFloor (C.Settle h) s = ⊥
BelowFloor (C.Purge r b) s = ⊥
BelowFloor (C.View r p) s = p.0 < (rec_at s r).floor

-- 13 "no free slot"
abbrev pub NoFreeSlot : Call → Store → Type 0
NoFreeSlot C.Begin s = (k : ℕ) → 1 ≤ k → k ≤ length s.edits → (edit_at s k).state ≡ FREE → ⊥
NoFreeSlot (C.Write h r v) s = ⊥
NoFreeSlot (C.Lock h r low high w) s = ⊥
NoFreeSlot (C.Read h r m w) s = ⊥
NoFreeSlot (C.Commit h pick f) s = ⊥
NoFreeSlot (C.Abort h f) s = ⊥
NoFreeSlot (C.Settle h) s = ⊥
NoFreeSlot (C.Purge r b) s = ⊥
NoFreeSlot (C.View r p) s = ⊥

-- P of the slot of a Commit; for `nopoint` (an empty common set) and 12 (fewer rows free than records written)
abbrev pub OfCommit : Call → (ℕ → Type 0) → Type 0
OfCommit C.Begin P = ⊥
OfCommit (C.Write h r v) P = ⊥
OfCommit (C.Lock h r low high w) P = ⊥
OfCommit (C.Read h r m w) P = ⊥
OfCommit (C.Commit h pick f) P = P (slot_of h.0)
OfCommit (C.Abort h f) P = ⊥
OfCommit (C.Settle h) P = ⊥
OfCommit (C.Purge r b) P = ⊥
OfCommit (C.View r p) P = ⊥

-- 14 "named point not in the common set"
abbrev pub NotCommon : Call → Store → Type 0
NotCommon C.Begin s = ⊥
NotCommon (C.Write h r v) s = ⊥
NotCommon (C.Lock h r low high w) s = ⊥
NotCommon (C.Read h r m w) s = ⊥
NotCommon (C.Commit h Earliest f) s = ⊥
NotCommon (C.Commit h Latest f) s = ⊥
NotCommon (C.Commit h (Named p) f) s = InCommonSet s.records (slot_of h.0) (edit_at s (slot_of h.0)) p.0 → ⊥
NotCommon (C.Abort h f) s = ⊥
NotCommon (C.Settle h) s = ⊥
NotCommon (C.Purge r b) s = ⊥
NotCommon (C.View r p) s = ⊥

-- 15 "an unsettled edit has a lock on the record at or below v", v the newest version at or below b, above the floor
pub record LockedBelow (s : Store) (r b : ℕ) : Type 0 where
  pub version : Version
  pub newest : NewestIs (rec_at s r).versions (suc b) version
  pub above : (rec_at s r).floor < version.point
  pub lock : Lock
  pub member : lock ∈ (rec_at s r).locks
  pub unsettled : lock.owner ≡ SETTLED → ⊥
  pub below : lock.low ≤ version.point

-- P of the record and the b of a Purge; for 15
abbrev pub OfPurge : Call → (ℕ → ℕ → Type 0) → Type 0
OfPurge C.Begin P = ⊥
OfPurge (C.Write h r v) P = ⊥
OfPurge (C.Lock h r low high w) P = ⊥
OfPurge (C.Read h r m w) P = ⊥
OfPurge (C.Commit h pick f) P = ⊥
OfPurge (C.Abort h f) P = ⊥
OfPurge (C.Settle h) P = ⊥
OfPurge (C.Purge r b) P = P r b.0
OfPurge (C.View r p) P = ⊥

-- "What blocks a call is judged at the least blocked point wanted (A), or the first (P, none taken)": Lock takes
-- nothing, and p is the least blocked point of low..high. P takes nothing where all is blocked, so that p is then the
-- first
pub record LockJudged (s : Store) (k r low high : ℕ) (w : Extent) (p : ℕ) : Type 0 where
  pub denied : LockDenied w k (rec_at s r) low high
  pub judged : LeastBlocked WRITE k (rec_at s r) low high p

-- The same of a Read of tr + 1..m: P takes nothing where tr + 1 is blocked, so that p is then the first
pub record ReadJudged (s : Store) (k r m : ℕ) (w : Extent) (p : ℕ) : Type 0 where
  pub version : Version
  pub newest : NewestIs (rec_at s r).versions m version
  pub denied : ReadDenied w k (rec_at s r) (suc version.point) m
  pub judged : LeastBlocked READ k (rec_at s r) (suc version.point) m p

-- P r mode k p of the record, the mode, the slot and the point judged; for 8 and 9
abbrev pub Judged : Call → Store → (ℕ → ℕ → ℕ → ℕ → Type 0) → Type 0
Judged C.Begin s P = ⊥
Judged (C.Write h r v) s P = ⊥
Judged (C.Lock h r low high w) s P =
    (p : ℕ) × LockJudged s (slot_of h.0) r low.0 high.0 w p × P r WRITE (slot_of h.0) p
Judged (C.Read h r m w) s P = (p : ℕ) × ReadJudged s (slot_of h.0) r m.0 w p × P r READ (slot_of h.0) p
Judged (C.Commit h pick f) s P = ⊥
Judged (C.Abort h f) s P = ⊥
Judged (C.Settle h) s P = ⊥
Judged (C.Purge r b) s P = ⊥
Judged (C.View r p) s P = ⊥

-- 10 "no access row": the record is new to the edit, and no row is free
pub record NoAccessRow (s : Store) (k r : ℕ) : Type 0 where
  pub unnamed : (a : Access) → a ∈ (edit_at s k).accesses → a.rec ≡ r → ⊥
  pub full : s.access_rows ≤ accesses_used s

-- P of the slot and the record of a call that needs "one access for a record new to the edit"; for 10
abbrev pub OfAccess : Call → (ℕ → ℕ → Type 0) → Type 0
OfAccess C.Begin P = ⊥
OfAccess (C.Write h r v) P = P (slot_of h.0) r
OfAccess (C.Lock h r low high w) P = ⊥
OfAccess (C.Read h r m w) P = P (slot_of h.0) r
OfAccess (C.Commit h pick f) P = ⊥
OfAccess (C.Abort h f) P = ⊥
OfAccess (C.Settle h) P = ⊥
OfAccess (C.Purge r b) P = ⊥
OfAccess (C.View r p) P = ⊥

-- P, of a call that needs "one lock for each grant"; for 11
abbrev pub OfGrant : Call → Type 0 → Type 0
OfGrant C.Begin P = ⊥
OfGrant (C.Write h r v) P = ⊥
OfGrant (C.Lock h r low high w) P = P
OfGrant (C.Read h r m w) P = P
OfGrant (C.Commit h pick f) P = ⊥
OfGrant (C.Abort h f) P = ⊥
OfGrant (C.Settle h) P = ⊥
OfGrant (C.Purge r b) P = ⊥
OfGrant (C.View r p) P = ⊥

-- 16 "count out of range": not from 1 to top
abbrev pub OutOfRange : ℕ → ℕ → Type 0
OutOfRange n top = (n ≡ 0) ⊎ (top < n)

-- 16 "format: count out of range", for the five counts; the length is judged in Laws.FormatRefusedForCause
pub data BadCounts (c : Counts) : Type 0 where
  records : OutOfRange c.records MAX_RECORDS → BadCounts c
  edits : OutOfRange c.edits MAX_EDITS → BadCounts c
  versions : OutOfRange c.versions MAX_ROWS → BadCounts c
  locks : OutOfRange c.locks MAX_ROWS → BadCounts c
  accesses : OutOfRange c.accesses MAX_ROWS → BadCounts c
