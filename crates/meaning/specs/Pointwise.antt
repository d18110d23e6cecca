-- What document 01 says of points, in its own words: which points are locked, blocked, free, in the common set, and
-- which version is the newest. No search is computed here; specs/Laws ties the computed definitions of Points and Store
-- to these. Rests on Store.
use Rattle.std.specs.Prelude.{ℕ, suc, ◌≤◌, ◌<◌, ◌≡◌, ◌⊎◌, true, List}
use Rattle.meaning.specs.Lists.{◌∈◌}
use Rattle.types.specs.Limits.{LAST, READ, WRITE, SETTLED}
use Rattle.meaning.specs.Store.{Version, Lock, Access, Rec, Edit, Store, rec_of, rec_at, first}
use Rattle.meaning.specs.Points.{lowest}
use Rattle.types.specs.declared.Extent.{Extent}
use Rattle.types.specs.declared.Extent.TheVariants.{All, Part}
use Rattle.meaning.specs.Store.{has_written}

-- "lies in an own write lock": the owner o has a lock of the mode m on the point p
pub record LockOn (ls : List Lock) (o m p : ℕ) : Type 0 where
  pub lock : Lock
  pub member : lock ∈ ls
  pub owned : lock.owner ≡ o
  pub moded : lock.mode ≡ m
  pub from : lock.low ≤ p
  pub upto : p ≤ lock.high

-- "under an own lock": the owner o has a lock, of either mode, on the point p
pub record HeldOn (ls : List Lock) (o p : ℕ) : Type 0 where
  pub lock : Lock
  pub member : lock ∈ ls
  pub owned : lock.owner ≡ o
  pub from : lock.low ≤ p
  pub upto : p ≤ lock.high

-- "A point is blocked if another owner has any lock on it"; for a reader, a write lock. The owner o blocks slot k at p
pub record BlockedBy (mode k : ℕ) (x : Rec) (p o : ℕ) : Type 0 where
  pub lock : Lock
  pub member : lock ∈ x.locks
  pub owned : lock.owner ≡ o
  pub other : o ≡ k → ⊥
  pub against : (mode ≡ WRITE) ⊎ (lock.mode ≡ WRITE)
  pub from : lock.low ≤ p
  pub upto : p ≤ lock.high

-- "A point is blocked": some owner blocks slot k at p
abbrev pub Blocked : ℕ → ℕ → Rec → ℕ → Type 0
Blocked mode k x p = (o : ℕ) × BlockedBy mode k x p o

-- "with low ≤ high": each lock of the record is a span of points, as in a sound store
abbrev pub Proper : Rec → Type 0
Proper x = (l : Lock) → l ∈ x.locks → l.low ≤ l.high

-- "the least blocked point wanted": p, of low..high
pub record LeastBlocked (mode k : ℕ) (x : Rec) (low high p : ℕ) : Type 0 where
  pub from : low ≤ p
  pub upto : p ≤ high
  pub blocked : Blocked mode k x p
  pub least : (q : ℕ) → low ≤ q → q < p → Blocked mode k x q → ⊥

-- no point of low..high is blocked
abbrev pub NoneBlocked : ℕ → ℕ → Rec → ℕ → ℕ → Type 0
NoneBlocked mode k x low high = (q : ℕ) → low ≤ q → q ≤ high → Blocked mode k x q → ⊥

-- "to just before the next blocked one, or to high": points from..end are not blocked, and end is high or the next one
-- is
pub record FreeRun (mode k : ℕ) (x : Rec) (high from end : ℕ) : Type 0 where
  pub some : from ≤ end
  pub upto : end ≤ high
  pub free : NoneBlocked mode k x from end
  pub next : (end ≡ high) ⊎ Blocked mode k x (suc end)

-- Lock, P: "the run from the first free point to just before the next blocked one, or to high"
pub record PartTaken (k : ℕ) (x : Rec) (low high from end : ℕ) : Type 0 where
  pub starts : low ≤ from
  pub skipped : (q : ℕ) → low ≤ q → q < from → Blocked WRITE k x q
  pub taken : FreeRun WRITE k x high from end

-- "A wants all points or none, P takes a part": Lock takes from..end of low..high
abbrev pub LockTakes : Extent → ℕ → Rec → ℕ → ℕ → ℕ → ℕ → Type 0
LockTakes All k x low high from end = (from ≡ low) × (end ≡ high) × NoneBlocked WRITE k x low high
LockTakes Part k x low high from end = PartTaken k x low high from end

-- Lock takes nothing. A: a point is blocked. P ("none taken"): every point is
abbrev pub LockDenied : Extent → ℕ → Rec → ℕ → ℕ → Type 0
LockDenied All k x low high = (p : ℕ) × LeastBlocked WRITE k x low high p
LockDenied Part k x low high = (q : ℕ) → low ≤ q → q ≤ high → Blocked WRITE k x q

-- Read takes low..end of tr + 1..m, here low..high. P "stops before the first point write-locked by another owner"
abbrev pub ReadTakes : Extent → ℕ → Rec → ℕ → ℕ → ℕ → Type 0
ReadTakes All k x low high end = (end ≡ high) × NoneBlocked READ k x low high
ReadTakes Part k x low high end = FreeRun READ k x high low end

-- Read takes nothing. A: a point is blocked. P "needs at least tr + 1", which is
abbrev pub ReadDenied : Extent → ℕ → Rec → ℕ → ℕ → Type 0
ReadDenied All k x low high = (p : ℕ) × LeastBlocked READ k x low high p
ReadDenied Part k x low high = Blocked READ k x low

-- "a version stands on it"
pub record VersionOn (x : Rec) (p : ℕ) : Type 0 where
  pub version : Version
  pub member : version ∈ x.versions
  pub stands : version.point ≡ p

-- "a settled lock there conflicts"
pub record SettledOn (mode : ℕ) (x : Rec) (p : ℕ) : Type 0 where
  pub lock : Lock
  pub member : lock ∈ x.locks
  pub owned : lock.owner ≡ SETTLED
  pub against : (mode ≡ WRITE) ⊎ (lock.mode ≡ WRITE)
  pub from : lock.low ≤ p
  pub upto : p ≤ lock.high

-- "frozen if a settled lock there conflicts or a version stands on it"
abbrev pub Frozen : Store → ℕ → ℕ → ℕ → Type 0
Frozen s r mode p = SettledOn mode (rec_at s r) p ⊎ VersionOn (rec_at s r) p

-- "held by the lowest slot"
pub record LowestHolder (mode k : ℕ) (x : Rec) (p o : ℕ) : Type 0 where
  pub holds : BlockedBy mode k x p o
  pub lowest : (j : ℕ) → BlockedBy mode k x p j → o ≤ j

-- "The common set has every point from 1 to LAST that lies in an own write lock for each written record and that, for
-- each record read at tr, lies above tr with every point from tr + 1 up to it under an own lock."
pub record InCommonSet (rs : List Rec) (k : ℕ) (e : Edit) (p : ℕ) : Type 0 where
  pub least : lowest e ≤ p
  pub last : p ≤ LAST
  pub written : (a : Access) → a ∈ e.accesses → has_written a ≡ true → LockOn (rec_of rs a.rec).locks k WRITE p
  pub above : (a : Access) (tr : ℕ) → a ∈ e.accesses → a.from ≡ suc tr → tr < p
  pub under : (a : Access) (tr q : ℕ) → a ∈ e.accesses → a.from ≡ suc tr → tr < q → q ≤ p
      → HeldOn (rec_of rs a.rec).locks k q

-- "An empty set"
abbrev pub EmptyCommonSet : List Rec → ℕ → Edit → Type 0
EmptyCommonSet rs k e = (p : ℕ) → InCommonSet rs k e p → ⊥

-- "at the earliest": the least point of the common set
pub record LeastCommon (rs : List Rec) (k : ℕ) (e : Edit) (p : ℕ) : Type 0 where
  pub common : InCommonSet rs k e p
  pub least : (q : ℕ) → InCommonSet rs k e q → p ≤ q

-- "the latest": the greatest point of the common set
pub record GreatestCommon (rs : List Rec) (k : ℕ) (e : Edit) (p : ℕ) : Type 0 where
  pub common : InCommonSet rs k e p
  pub greatest : (q : ℕ) → InCommonSet rs k e q → q ≤ p

-- "the newest below m": v is the newest version below the bound, or the never written state where there is none
pub data NewestIs (vs : List Version) (bound : ℕ) (v : Version) : Type 0 where
  none : v ≡ first → ((w : Version) → w ∈ vs → bound ≤ w.point) → NewestIs vs bound v
  one : v ∈ vs → v.point < bound → ((w : Version) → w ∈ vs → w.point < bound → w.point ≤ v.point)
      → NewestIs vs bound v
