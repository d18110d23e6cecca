-- What the loops of Commit and Settle make of a store, one access or one record after the other. Rests on Ending of
-- `meaning`.
use Rattle.std.specs.Prelude.{ℕ, ◌+◌, ◌≤◌, ◌<◌, Bool, cond, List, [], ◌∷◌, eqb, length}
use Rattle.meaning.specs.Lists.{◌∈◌, keep, total, map_from}
use Rattle.types.specs.Limits.{READ, WRITE, COMMITTED}
use Rattle.types.specs.declared.Access.{Access}
use Rattle.meaning.specs.Store.{Rec, Store, edit_at, rec_at, with_rec, with_records, with_locks, has_read}
use Rattle.meaning.specs.Store.{versions_used}
use Rattle.meaning.specs.Store.{locks_used}
use Rattle.meaning.specs.Points.{leave_settled, drop_owner}
use Rattle.meaning.specs.Ending.{insert, new_version}
use Rattle.meaning.specs.Store.{has_written}

-- the record of an access changed as g says, for one access and for a list of them
unfoldable pub changed : (Access → Rec → Rec) → Access → Store → Store
changed g a s = with_rec s a.rec (g a (rec_at s a.rec))

unfoldable pub along : (Access → Rec → Rec) → List Access → Store → Store
along g [] s = s
along g (a ∷ acc) s = along g acc (changed g a s)

-- Commit at t: a written value becomes a version
unfoldable pub saved_rec : ℕ → Access → Rec → Rec
saved_rec t a x =
    record {
      versions = cond (has_written a) (insert (new_version a t) x.versions) x.versions;
      locks = x.locks;
      floor = x.floor;
    }

-- Settle of an edit committed at t: the settled locks that an access leaves
unfoldable pub left_rec : ℕ → Access → Rec → Rec
left_rec t a x =
    with_locks x (leave_settled (has_written a) WRITE t t (leave_settled (has_read a) READ a.from t x.locks))

-- Settle: a record loses slot k's locks; all records
unfoldable pub freed_rec : ℕ → Rec → Rec
freed_rec k x = with_locks x (drop_owner k x.locks)

unfoldable pub freed_all : ℕ → Store → Store
freed_all k s = with_records s (map_from 0 (λ r x. freed_rec k x) s.records)

-- what a slot leaves that ended in a state, at t: settled locks if it committed
unfoldable pub left_by : ℕ → ℕ → ℕ → Store → Store
left_by state t k s = cond (eqb state COMMITTED) (along (left_rec t) (edit_at s k).accesses s) s

-- What the loops need of the accesses to come: records that are there, and rows
abbrev pub Existing : List Rec → List Access → Type 0
Existing rs acc = (a : Access) → a ∈ acc → a.rec < length rs

abbrev pub wrote_of : Access → Bool
wrote_of a = has_written a

pub record SaveNeed (acc : List Access) (s : Store) : Type 0 where
  pub existing : Existing s.records acc
  pub room : versions_used s + length (keep wrote_of acc) ≤ s.version_rows

-- what a loop needs is there for the access at hand alone, and for those after it once that one is done
pub record OneByOne (g : Access → Rec → Rec) (P : List Access → Store → Type 0) : Type 0 where
  pub one : (a : Access) (acc : List Access) (s : Store) → P (a ∷ acc) s → P (a ∷ []) s
  pub next : (a : Access) (acc : List Access) (s : Store) → P (a ∷ acc) s → P acc (changed g a s)

-- the lock rows that an access leaves
abbrev pub mark : Bool → ℕ
mark b = cond b 1 0

abbrev pub rows_left : Access → ℕ
rows_left a = mark (has_read a) + mark (has_written a)

pub record LeaveNeed (acc : List Access) (s : Store) : Type 0 where
  pub existing : Existing s.records acc
  pub room : locks_used s + total rows_left acc ≤ s.lock_rows
