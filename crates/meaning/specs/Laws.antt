-- The laws of the meaning, as statements: each computed definition is what document 01 says point by point, every call
-- keeps a sound store sound, and a call is refused only for the cause that the table names. The theorem of each is in
-- proofs/Laws, under the same name. Rests on Limits, Replies and Numbers of `types` and on Lists, Store, Points,
-- Locking, Ending, Records, Calls, Sound, SoundFacts, Pointwise, Causes and Order.
use Rattle.std.specs.Prelude.{ℕ, suc, ◌+◌, ◌*◌, ◌≤◌, ◌<◌, ◌≡◌, ◌⊎◌, ◌↔◌, Bool, true, false, List, [], ◌∷◌, length}
use Rattle.meaning.specs.Lists.{◌∈◌}
use Rattle.types.specs.Limits.{LAST, READINGS, SEATS, READ}
use Rattle.meaning.specs.Store.{Counts, Rec, Edit, Store, fresh, edit_at, rec_at, in_use, newest_at}
use Rattle.meaning.specs.Store.{newest_below, locks_used}
use Rattle.meaning.specs.Points.{first_blocked, in_common, earliest, latest}
use Rattle.types.specs.Replies.{refused, refusing}
use Rattle.meaning.specs.Locking.{lock_from, lock_end, lock_granted, read_granted, grant_end}
use Rattle.meaning.specs.Ending.{settled, no_common}
use Rattle.meaning.specs.Records.{good_counts, formatting}
use Rattle.types.specs.Numbers.{pointing}
use Rattle.meaning.specs.Calls.{act}
use Rattle.meaning.specs.Sound.{sound_store, versions_fall}
use Rattle.meaning.specs.SoundFacts.{SoundStore}
use Rattle.meaning.specs.Pointwise.{Proper, LeastBlocked, NoneBlocked, LockTakes, LockDenied, ReadTakes}
use Rattle.meaning.specs.Pointwise.{ReadDenied, InCommonSet, EmptyCommonSet, LeastCommon, GreatestCommon}
use Rattle.meaning.specs.Pointwise.{NewestIs}
use Rattle.meaning.specs.Causes.{BadCounts}
use Rattle.meaning.specs.Order.{Item, order, First, NoneStands, Says, Grants, Refuses, concerns, HeldByLowest}
use Rattle.types.specs.declared.Extent.{Extent}
use Rattle.types.specs.declared.Call.{Call}

-- (a) "the least blocked point wanted", for writers and readers
abbrev pub FirstBlockedIsLeast : Type 0
FirstBlockedIsLeast = (mode k : ℕ) (x : Rec) (low high : ℕ) → Proper x → low ≤ high
    → LeastBlocked mode k x low high (first_blocked mode k x low high)
    ⊎ ((first_blocked mode k x low high ≡ suc high) × NoneBlocked mode k x low high)

-- (a) "the run from the first free point to just before the next blocked one, or to high": Lock takes it, or all of
-- low..high with A, or is denied
abbrev pub LockTakesRun : Type 0
LockTakesRun = (w : Extent) (k : ℕ) (x : Rec) (low high : ℕ) → Proper x → low ≤ high
    → (lock_granted w k x low high ≡ true → LockTakes w k x low high (lock_from w k x low high)
    (lock_end w k x low high))
    × (lock_granted w k x low high ≡ false → LockDenied w k x low high)

-- (a) "P stops before the first point write-locked by another owner, but needs at least tr + 1"
abbrev pub ReadTakesRun : Type 0
ReadTakesRun = (w : Extent) (k : ℕ) (x : Rec) (low high : ℕ) → Proper x → low ≤ high
    → (read_granted w k x low high ≡ true → ReadTakes w k x low high (grant_end w READ k x low high))
    × (read_granted w k x low high ≡ false → ReadDenied w k x low high)

-- (b) "The common set has every point ...": membership is document 01's sentence
abbrev pub CommonSetIs : Type 0
CommonSetIs = (rs : List Rec) (k : ℕ) (e : Edit) (p : ℕ) → (in_common rs k e p ≡ true) ↔ InCommonSet rs k e p

-- (b) "at the earliest": its least member, or LAST + 1 exactly when the set is empty
abbrev pub EarliestIsLeast : Type 0
EarliestIsLeast = (rs : List Rec) (k : ℕ) (e : Edit)
    → LeastCommon rs k e (earliest rs k e) ⊎ ((earliest rs k e ≡ suc LAST) × EmptyCommonSet rs k e)

-- (b) "the latest": its greatest member, or 0 exactly when the set is empty
abbrev pub LatestIsGreatest : Type 0
LatestIsGreatest = (rs : List Rec) (k : ℕ) (e : Edit)
    → GreatestCommon rs k e (latest rs k e) ⊎ ((latest rs k e ≡ 0) × EmptyCommonSet rs k e)

-- (b) "An empty set": the search says so exactly when it is empty
abbrev pub NoCommonIsEmpty : Type 0
NoCommonIsEmpty = (s : Store) (k : ℕ) → (no_common s k ≡ true) ↔ EmptyCommonSet s.records k (edit_at s k)

-- (c) "the newest below m"
abbrev pub NewestBelowIs : Type 0
NewestBelowIs = (x : Rec) (m : ℕ) → versions_fall x ≡ true → NewestIs x.versions m (newest_below x.versions m)

-- (c) "the newest version at or below p"
abbrev pub NewestAtIs : Type 0
NewestAtIs = (x : Rec) (p : ℕ) → versions_fall x ≡ true → NewestIs x.versions (suc p) (newest_at x.versions p)

-- (d) settling never needs a row: no lock list grows, nor do the lock rows in use
abbrev pub SettlingNeedsNoRow : Type 0
SettlingNeedsNoRow = (s : Store) (k : ℕ) → sound_store s ≡ true → in_use s.edits k ≡ true
    → ((r : ℕ) → length (rec_at (settled s k) r).locks ≤ length (rec_at s r).locks)
    × (locks_used (settled s k) ≤ locks_used s)

-- (e) "A store is sound when": the clauses, read point by point
abbrev pub SoundIsFacts : Type 0
SoundIsFacts = (s : Store) → (sound_store s ≡ true) ↔ SoundStore s

-- (e) Format: the fresh store is sound
abbrev pub FreshIsSound : Type 0
FreshIsSound = (c : Counts) → good_counts c ≡ true → sound_store (fresh c) ≡ true

-- (e) "the store is sound after it": every call keeps a sound store sound
abbrev pub CallsKeepSound : Type 0
CallsKeepSound = (c : Call) (s : Store) → sound_store s ≡ true → sound_store (act c s).store ≡ true

-- (f) "All memory stays the same": a refusal leaves the store as it is
abbrev pub RefusalChangesNothing : Type 0
RefusalChangesNothing = (c : Call) (s : Store) → refused (act c s).reply ≡ true → (act c s).store ≡ s

-- (g) of a sound store the reply is what an item says exactly if that item is the first of the order that stands: for
-- a refusal, `no n` exactly if cause n stands and none before it
abbrev pub RefusedForCause : Type 0
RefusedForCause =
    (c : Call) (s : Store) → sound_store s ≡ true → (i : Item) → Says i (act c s).reply ↔ First c s i order

-- (g) granted whenever no cause stands, and only then
abbrev pub GrantedWithoutCause : Type 0
GrantedWithoutCause = (c : Call) (s : Store) → sound_store s ≡ true → Grants c (act c s).reply ↔ NoneStands c s order

-- (g) "A call gives only those that can concern it"
abbrev pub OnlyOwnNumbers : Type 0
OnlyOwnNumbers = (c : Call) (s : Store) (n : ℕ) → Refuses n (act c s).reply → n ∈ concerns c

-- (g) "held by the lowest slot": 8 carries the handle of the lowest slot with a conflicting lock on the judged point
abbrev pub HolderIsLowest : Type 0
HolderIsLowest =
    (c : Call) (s : Store) (h : ℕ) → sound_store s ≡ true → (act c s).reply ≡ refusing 8 (h ∷ []) → HeldByLowest c s h

-- (g) "Format gives 16 alone", and for its cause
abbrev pub FormatRefusedForCause : Type 0
FormatRefusedForCause = (fits : Bool) (c : Counts) (s : Store)
    → Refuses 16 (formatting fits c s).reply ↔ (BadCounts c ⊎ (fits ≡ false))

-- (g) 6 "reading, seat ... too large": Point, for its cause
abbrev pub PointRefusedForCause : Type 0
PointRefusedForCause = (reading seat : ℕ) → Refuses 6 (pointing reading seat) ↔ ((READINGS ≤ reading) ⊎ (SEATS ≤ seat))

-- "The paper's timestamp is that pair in lexicographic order": points order as the pairs of reading and seat do
abbrev pub PointsOrderAsPairs : Type 0
PointsOrderAsPairs = (r s q t : ℕ) → s < SEATS → t < SEATS
    → (r * SEATS + s < q * SEATS + t) ↔ ((r < q) ⊎ ((r ≡ q) × (s < t)))

-- "so points run from 0 to 70,368,744,177,663 (LAST)": the numbers up to LAST are those that a reading and a seat make
abbrev pub PointsRunToLast : Type 0
PointsRunToLast = (p : ℕ) → (p ≤ LAST) ↔ ((r : ℕ) × (s : ℕ) × (r < READINGS) × (s < SEATS) × (p ≡ r * SEATS + s))
