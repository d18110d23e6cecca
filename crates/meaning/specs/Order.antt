-- The order of the checks, which cause of a call is the first that stands, and what the reply then says. Rests on
-- Causes.
use Rattle.std.specs.Prelude.{ℕ, ◌+◌, ◌≤◌, ◌<◌, ◌≡◌, ◌⊎◌, false, List, [], ◌∷◌, length}
use Rattle.meaning.specs.Store.{Value, Store, edit_at, rec_at, written_of, versions_used, locks_used}
use Rattle.types.specs.Replies.{Reply, ok, edit, locked, read, own, again, commit, nopoint, purged, at}
use Rattle.types.specs.Replies.{refusing}
use Rattle.meaning.specs.Outcomes.{handle_at}
use Rattle.meaning.specs.Sound.{sound_store}
use Rattle.meaning.specs.Pointwise.{Frozen, LowestHolder, EmptyCommonSet}
use Rattle.meaning.specs.Causes.{OfHandle, OfOpen, OfRecord, OfCommit, OfPurge, OfAccess, OfGrant, NoFreeSlot}
use Rattle.meaning.specs.Causes.{NoSuchEdit, HasEnded, StillOpen, BadPoint, OwnOrAgain, BelowFloor, NotCommon}
use Rattle.meaning.specs.Causes.{LockedBelow, Judged, NoAccessRow}
use Rattle.types.specs.declared.Call.{Call}
use Rattle.types.specs.declared.Call.TheVariants as C

-- what ends the checks of a call: a refusal, "own or repeated reads", `nopoint`
pub data Item : Type 0 where
  unsound no_slot no_edit ended still_open no_record bad_point own_or_again below_floor empty_set
      not_common locked_below frozen
      held : Item
  no_access_row no_lock_row no_version_row : Item

-- "Checked in this order: 1, 13, 2, 3 or 4, 5, 6, then own or repeated reads, 7, `nopoint`, 14, 15, 9 or 8, 10, 11,
-- 12."
abbrev pub order : List Item
order =
    unsound
    ∷ no_slot
    ∷ no_edit
    ∷ ended
    ∷ still_open
    ∷ no_record
    ∷ bad_point
    ∷ own_or_again
    ∷ below_floor
    ∷ empty_set
    ∷ not_common
    ∷ locked_below
    ∷ frozen
    ∷ held
    ∷ no_access_row
    ∷ no_lock_row
    ∷ no_version_row
    ∷ []

-- the table's column "Cause": what it is for an item of the order to stand
abbrev pub Stands : Item → Call → Store → Type 0
Stands unsound c s = sound_store s ≡ false
Stands no_slot c s = NoFreeSlot c s
Stands no_edit c s = OfHandle c (NoSuchEdit s)
Stands ended c s = OfOpen c (HasEnded s)
Stands still_open c s = StillOpen c s
Stands no_record c s = OfRecord c (λ r. length s.records ≤ r)
Stands bad_point c s = BadPoint c
Stands own_or_again c s = OwnOrAgain c s
Stands below_floor c s = BelowFloor c s
Stands empty_set c s = OfCommit c (λ k. EmptyCommonSet s.records k (edit_at s k))
Stands not_common c s = NotCommon c s
Stands locked_below c s = OfPurge c (LockedBelow s)
Stands frozen c s = Judged c s (λ r mode k p. Frozen s r mode p)
Stands held c s = Judged c s (λ r mode k p. Unit {0})
Stands no_access_row c s = OfAccess c (NoAccessRow s)
Stands no_lock_row c s = OfGrant c (s.lock_rows ≤ locks_used s)
Stands no_version_row c s = OfCommit c (λ k. s.version_rows < versions_used s + length (written_of (edit_at s k)))

-- "Checked in this order": i stands, and none before it in the list
pub data First (c : Call) (s : Store) (i : Item) : List Item → Type 0 where
  here : {is : List Item} → Stands i c s → First c s i (i ∷ is)
  there : {j : Item} {is : List Item} → (Stands j c s → ⊥) → First c s i is → First c s i (j ∷ is)

-- none of the list stands
abbrev pub NoneStands : Call → Store → List Item → Type 0
NoneStands c s [] = Unit {0}
NoneStands c s (i ∷ is) = (Stands i c s → ⊥) × NoneStands c s is

-- "`no` number": the reply is refusal n
abbrev pub Refuses : ℕ → Reply → Type 0
Refuses n r = (more : List ℕ) × (r ≡ refusing n more)

-- the table's column "No", and the replies `own`, `again` and `nopoint`: what the reply is where an item is the first
abbrev pub Says : Item → Reply → Type 0
Says unsound r = Refuses 1 r
Says no_slot r = Refuses 13 r
Says no_edit r = Refuses 2 r
Says ended r = Refuses 3 r
Says still_open r = Refuses 4 r
Says no_record r = Refuses 5 r
Says bad_point r = Refuses 6 r
Says own_or_again r = ((v : ℕ) × (r ≡ own v)) ⊎ ((tr : ℕ) × ((v : Value) × (r ≡ again tr v)))
Says below_floor r = Refuses 7 r
Says empty_set r = r ≡ nopoint
Says not_common r = Refuses 14 r
Says locked_below r = Refuses 15 r
Says frozen r = Refuses 9 r
Says held r = Refuses 8 r
Says no_access_row r = Refuses 10 r
Says no_lock_row r = Refuses 11 r
Says no_version_row r = Refuses 12 r

-- "Replies": what a call replies where no item stands
abbrev pub Grants : Call → Reply → Type 0
Grants C.Begin r = (h : ℕ) × (r ≡ edit h)
Grants (C.Write h k v) r = r ≡ ok
Grants (C.Lock h k low high w) r = (a : ℕ) × ((b : ℕ) × (r ≡ locked a b))
Grants (C.Read h k m w) r = (tr : ℕ) × ((end : ℕ) × ((v : Value) × (r ≡ read tr end v)))
Grants (C.Commit h pick f) r = (p : ℕ) × (r ≡ commit p)
Grants (C.Abort h f) r = r ≡ ok
Grants (C.Settle h) r = r ≡ ok
Grants (C.Purge k b) r = (vs : ℕ) × ((ls : ℕ) × (r ≡ purged vs ls))
Grants (C.View k p) r = (q : ℕ) × ((v : Value) × (r ≡ at q v))

-- "A call gives only those that can concern it": the numbers of each call, besides 1
abbrev pub concerns : Call → List ℕ
concerns C.Begin = 13 ∷ []
concerns (C.Write h r v) = 2 ∷ 3 ∷ 5 ∷ 10 ∷ []
concerns (C.Lock h r low high w) = 2 ∷ 3 ∷ 5 ∷ 6 ∷ 7 ∷ 9 ∷ 8 ∷ 11 ∷ []
concerns (C.Read h r m w) = 2 ∷ 3 ∷ 5 ∷ 6 ∷ 7 ∷ 9 ∷ 8 ∷ 10 ∷ 11 ∷ []
concerns (C.Commit h pick f) = 2 ∷ 3 ∷ 6 ∷ 14 ∷ 12 ∷ []
concerns (C.Abort h f) = 2 ∷ 3 ∷ []
concerns (C.Settle h) = 2 ∷ 4 ∷ []
concerns (C.Purge r b) = 5 ∷ 6 ∷ 15 ∷ []
concerns (C.View r p) = 5 ∷ 6 ∷ 7 ∷ []

-- "held by the lowest slot": 8 names the lowest slot with a conflicting lock on the judged point
abbrev pub HeldByLowest : Call → Store → ℕ → Type 0
HeldByLowest c s h = Judged c s (λ r mode k p. (o : ℕ) × LowestHolder mode k (rec_at s r) p o × (h ≡ handle_at s o))
