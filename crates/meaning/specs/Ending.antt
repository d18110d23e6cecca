-- The calls Commit, Abort and Settle, over a way to keep locks; the store's is `joined`. Rests on Outcomes and the
-- common set of Points.
use Rattle.std.specs.Prelude.{ℕ, Bool, true, not, cond, List, [], ltb, eqb, Some}
use Rattle.meaning.specs.Lists.{put_before, map_from}
use Rattle.types.specs.Limits.{LAST, READ, WRITE, FREE, COMMITTED, ABORTED}
use Rattle.meaning.specs.Store.{Version, Lock, Access, Rec, Edit, Store, slot_of, edit_at, with_edit}
use Rattle.meaning.specs.Store.{with_records, with_locks, access_of, has_read}
use Rattle.meaning.specs.Points.{Keeping, joined, drop_owner, in_common, earliest, latest}
use Rattle.types.specs.Replies.{ok, commit, nopoint}
use Rattle.meaning.specs.Outcomes.{Outcome, replies, Verdict, pass, needs, unless, knows, is_open, for_open}
use Rattle.meaning.specs.Outcomes.{is_point, version_room}
use Rattle.types.specs.declared.Pick.{Pick}
use Rattle.types.specs.declared.Pick.TheVariants.{Earliest, Latest, Named}
use Rattle.types.specs.declared.Finish.{Finish}
use Rattle.types.specs.declared.Finish.TheVariants as F
use Rattle.meaning.specs.Store.{has_written, written_value}

-- Layout, edit slot: state "2 committed, 3 aborted", "commit point": the same edit, ended
abbrev pub ended : Edit → ℕ → ℕ → Edit
ended e state point = record { state = state; generation = e.generation; accesses = e.accesses; point = point }

-- "its accesses and its slot become free": the slot afterwards; its generation stays, as the next begin raises it
abbrev pub freed : Edit → Edit
freed e = record { state = FREE; generation = e.generation; accesses = []; point = 0 }

-- "a settled read lock tr + 1..t for each record read and a settled write lock on t for each written": those left by
-- the access a, among the locks ls
abbrev pub locks_left_by : Keeping → Edit → Access → List Lock → List Lock
locks_left_by K e a ls =
    K.leave (has_written a) WRITE e.point e.point (K.leave (has_read a) READ a.from e.point ls)

-- "Settling leaves, for a committed edit at t, ...; all its other locks ... become free. An aborted edit leaves
-- nothing.": the locks of record r afterwards
unfoldable pub settled_locks_by : Keeping → ℕ → Edit → ℕ → List Lock → List Lock
settled_locks_by K k e r ls =
    cond (eqb e.state COMMITTED) (locks_left_by K e (access_of e r) (drop_owner k ls)) (drop_owner k ls)

-- settling, for the record r; its versions and its floor stay
abbrev pub settled_rec_by : Keeping → ℕ → Edit → ℕ → Rec → Rec
settled_rec_by K k e r x = with_locks x (settled_locks_by K k e r x.locks)

-- Settle, and the flag S: the store after settling slot k, its locks on records never accessed gone too
unfoldable pub settled_by : Keeping → Store → ℕ → Store
settled_by K s k =
    with_edit (with_records s (map_from 0 (settled_rec_by K k (edit_at s k)) s.records)) k (freed (edit_at s k))

-- "S settles at the end, K keeps the locks."
abbrev pub finished_by : Keeping → Finish → Store → ℕ → Store
finished_by K F.Settle s k = settled_by K s k
finished_by K F.Keep s k = s

-- "a version chain falls strictly in point": a version is put at its place in the list
abbrev pub insert : Version → List Version → List Version
insert v ws = put_before (λ w. ltb w.point v.point) v ws

-- "written values become versions at the point": the version that an access makes
abbrev pub new_version : Access → ℕ → Version
new_version a t = record { point = t; value = Some (written_value a); spare = 0 }

-- "all written values become versions at the point": record r afterwards
abbrev pub committed_rec : Edit → ℕ → ℕ → Rec → Rec
committed_rec e t r x =
    record {
      versions = cond (has_written (access_of e r)) (insert (new_version (access_of e r) t) x.versions) x.versions;
      locks = x.locks;
      floor = x.floor;
    }

-- Commit: the store after it, "all written values" of slot k saved at t and the edit ended
unfoldable pub committed : Store → ℕ → ℕ → Store
committed s k t =
    with_edit (with_records s (map_from 0 (committed_rec (edit_at s k) t) s.records)) k
    (ended (edit_at s k) COMMITTED t)

-- Abort, and "An empty set ends the edit as aborted": the store after it
unfoldable pub aborted : Store → ℕ → Store
aborted s k = with_edit s k (ended (edit_at s k) ABORTED 0)

-- 6: "point too large; ... commit point 0", for a named point
abbrev pub good_pick : Pick → Bool
good_pick Earliest = true
good_pick Latest = true
good_pick (Named p) = is_point p.0

-- "Commit at the earliest, the latest or a named point"
abbrev pub chosen : Store → ℕ → Pick → ℕ
chosen s k Earliest = earliest s.records k (edit_at s k)
chosen s k Latest = latest s.records k (edit_at s k)
chosen s k (Named p) = p.0

-- 14: "named point not in the common set"; only a named point can be outside it
abbrev pub allowed : Store → ℕ → Pick → Bool
allowed s k Earliest = true
allowed s k Latest = true
allowed s k (Named p) = in_common s.records k (edit_at s k) p.0

-- "An empty set": there is no earliest point
unfoldable pub no_common : Store → ℕ → Bool
no_common s k = ltb LAST (earliest s.records k (edit_at s k))

-- Commit: 14, 12
unfoldable pub commit_verdict : Store → ℕ → Pick → Verdict
commit_verdict s k pick = needs (allowed s k pick) 14 (needs (version_room s k) 12 pass)

-- "An empty set ends the edit as aborted, reply `nopoint`. Otherwise all written values become versions at the point."
-- "`nopoint` obeys the flag too."
unfoldable pub commit_open_by : Keeping → Store → ℕ → Pick → Finish → Outcome
commit_open_by K s k pick f =
    let t : ℕ = chosen s k pick in
    cond (no_common s k) (replies (finished_by K f (aborted s k) k) nopoint)
    (unless s (commit_verdict s k pick) (replies (finished_by K f (committed s k t) k) (commit t)))

-- Commit: 2, 3, 6
unfoldable pub commit_checks : Store → ℕ → Pick → Verdict
commit_checks s h pick = for_open s h (needs (good_pick pick) 6 pass)

-- "Commit at the earliest, the latest or a named point": the call, with all its checks
unfoldable pub committing_by : Keeping → ℕ → Pick → Finish → Store → Outcome
committing_by K h pick f s = unless s (commit_checks s h pick) (commit_open_by K s (slot_of h) pick f)

-- Abort: 2, 3
unfoldable pub abort_checks : Store → ℕ → Verdict
abort_checks s h = for_open s h pass

-- "Abort", with its flag: the call, with all its checks
unfoldable pub aborting_by : Keeping → ℕ → Finish → Store → Outcome
aborting_by K h f s = unless s (abort_checks s h) (replies (finished_by K f (aborted s (slot_of h)) (slot_of h)) ok)

-- Settle: 2, 4
unfoldable pub settle_checks : Store → ℕ → Verdict
settle_checks s h = needs (knows s h) 2 (needs (not (is_open s h)) 4 pass)

-- "Settle (of an ended edit)": the call, with all its checks
unfoldable pub settling_by : Keeping → ℕ → Store → Outcome
settling_by K h s = unless s (settle_checks s h) (replies (settled_by K s (slot_of h)) ok)

-- the same with the store's way to keep locks
abbrev pub locks_left : Edit → Access → List Lock → List Lock
locks_left = locks_left_by joined

abbrev pub settled_locks : ℕ → Edit → ℕ → List Lock → List Lock
settled_locks = settled_locks_by joined

abbrev pub settled_rec : ℕ → Edit → ℕ → Rec → Rec
settled_rec = settled_rec_by joined

abbrev pub settled : Store → ℕ → Store
settled = settled_by joined

abbrev pub finished : Finish → Store → ℕ → Store
finished = finished_by joined

abbrev pub commit_open : Store → ℕ → Pick → Finish → Outcome
commit_open = commit_open_by joined

abbrev pub committing : ℕ → Pick → Finish → Store → Outcome
committing = committing_by joined

abbrev pub aborting : ℕ → Finish → Store → Outcome
aborting = aborting_by joined

abbrev pub settling : ℕ → Store → Outcome
settling = settling_by joined
