-- Soundness as plain facts: what each clause of Sound says of every version, lock and access. Laws says that a store is
-- sound exactly if these hold. Rests on Sound and Pointwise.
use Rattle.std.specs.Prelude.{ℕ, suc, ◌≤◌, ◌<◌, ◌≡◌, ◌⊎◌, true, List, [], length}
use Rattle.meaning.specs.Lists.{◌∈◌, pairwise}
use Rattle.meaning.specs.Points.{no_later, apart_reads}
use Rattle.types.specs.Limits.{LAST, GENERATIONS, READ, WRITE, SETTLED, FREE, COMMITTED, ABORTED}
use Rattle.meaning.specs.Store.{Version, Lock, Access, Rec, Edit, Store, counts_of, edit_of, rec_of, edit_at, rec_at}
use Rattle.meaning.specs.Store.{access_of, versions_used, locks_used, accesses_used}
use Rattle.meaning.specs.Records.{good_counts}
use Rattle.meaning.specs.Sound.{versions_fall, names_once}
use Rattle.meaning.specs.Pointwise.{InCommonSet, VersionOn}
use Rattle.meaning.specs.Store.{has_written}

-- "of an edit that wrote the record and committed at that point": slot k, record r, point t
pub record WroteAt (es : List Edit) (k r t : ℕ) : Type 0 where
  pub state : (edit_of es k).state ≡ COMMITTED
  pub point : (edit_of es k).point ≡ t
  pub wrote : has_written (access_of (edit_of es k) r) ≡ true

-- "a write lock on its point, settled or of an edit that wrote the record and committed at that point"
pub record Backed (es : List Edit) (r p : ℕ) (ls : List Lock) : Type 0 where
  pub lock : Lock
  pub member : lock ∈ ls
  pub write : lock.mode ≡ WRITE
  pub from : lock.low ≤ p
  pub upto : p ≤ lock.high
  pub owner : (lock.owner ≡ SETTLED) ⊎ WroteAt es lock.owner r p

-- "locks lie in floor + 1..LAST with low ≤ high": this lock
pub record Span (floor : ℕ) (l : Lock) : Type 0 where
  pub above : floor < l.low
  pub some : l.low ≤ l.high
  pub last : l.high ≤ LAST

-- the clauses of record r, from "modes" to "each version above the floor has a write lock on its point"; the order of
-- rows, which no point shows, is said of the lists
pub record SoundRec (es : List Edit) (r : ℕ) (x : Rec) : Type 0 where
  pub mode : (l : Lock) → l ∈ x.locks → (l.mode ≡ READ) ⊎ (l.mode ≡ WRITE)
  pub falls : versions_fall x ≡ true
  pub low : (v : Version) → v ∈ x.versions → x.floor ≤ v.point
  pub high : (v : Version) → v ∈ x.versions → v.point ≤ LAST
  pub base : 0 < x.floor → VersionOn x x.floor
  pub nonzero : (v : Version) → v ∈ x.versions → 0 < v.point
  pub span : (l : Lock) → l ∈ x.locks → Span x.floor l
  pub owner : (l : Lock) → l ∈ x.locks → (l.owner ≡ SETTLED) ⊎ ((edit_of es l.owner).state ≡ FREE → ⊥)
  pub apart : (l m : Lock) → l ∈ x.locks → m ∈ x.locks → l.mode ≡ WRITE → (l.owner ≡ m.owner → ⊥) → (p : ℕ)
      → l.low ≤ p → p ≤ l.high → m.low ≤ p → p ≤ m.high → ⊥
  pub backed : (v : Version) → v ∈ x.versions → x.floor < v.point → Backed es r v.point x.locks
  pub rises : pairwise no_later x.locks ≡ true
  pub joined : pairwise apart_reads x.locks ≡ true

-- "a present version, or 0 under floor 0": tr
abbrev pub Present : Rec → ℕ → Type 0
Present x tr = VersionOn x tr ⊎ ((tr ≡ 0) × (x.floor ≡ 0))

-- "the edit has a read lock starting just after it": slot k, at from = tr + 1
pub record ReadStarts (k from : ℕ) (ls : List Lock) : Type 0 where
  pub lock : Lock
  pub member : lock ∈ ls
  pub owned : lock.owner ≡ k
  pub mode : lock.mode ≡ WRITE → ⊥
  pub starts : lock.low ≡ from

-- the clauses of slot k, from "states, generations, commit points" to "free slots have no accesses"
pub record SoundEdit (rs : List Rec) (k : ℕ) (e : Edit) : Type 0 where
  pub state : e.state ≤ ABORTED
  pub generation : e.generation < GENERATIONS
  pub point : (e.state ≡ COMMITTED → ⊥) → e.point ≡ 0
  pub existing : (a : Access) → a ∈ e.accesses → a.rec < length rs
  pub once : names_once e ≡ true
  pub present : (a : Access) (tr : ℕ) → a ∈ e.accesses → a.from ≡ suc tr → Present (rec_of rs a.rec) tr
  pub locked : (a : Access) (tr : ℕ) → a ∈ e.accesses → a.from ≡ suc tr
      → ReadStarts k (suc tr) (rec_of rs a.rec).locks
  pub common : e.state ≡ COMMITTED → InCommonSet rs k e e.point
  pub idle : e.state ≡ FREE → e.accesses ≡ []

-- "A store is sound when": the counts, rows in use are rows of the tables, every record, every slot
pub record SoundStore (s : Store) : Type 0 where
  pub counts : good_counts (counts_of s) ≡ true
  pub versions_fit : versions_used s ≤ s.version_rows
  pub locks_fit : locks_used s ≤ s.lock_rows
  pub accesses_fit : accesses_used s ≤ s.access_rows
  pub recs : (r : ℕ) → SoundRec s.edits r (rec_at s r)
  pub edits : (k : ℕ) → SoundEdit s.records k (edit_at s k)
