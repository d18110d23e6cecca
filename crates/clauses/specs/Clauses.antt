-- The clauses of soundness as the check tests them: those of one lock, of a version after another, of one access and of
-- a slot's words. The laws that these are the clauses of document 01 are in proofs/. Rests on specs/Sound of the crate
-- `meaning`.
use Rattle.std.specs.Prelude.{ℕ, suc, ◌≤◌, ◌≡◌, Bool, true, not, ◌&&◌, ◌||◌, List, [], ◌∷◌, length, get_or, set, leb}
use Rattle.std.specs.Prelude.{ltb, eqb}
use Rattle.meaning.specs.Lists.{any, all, all_from}
use Rattle.types.specs.Limits.{LAST, MAX_RECORDS, READ, WRITE, SETTLED}
use Rattle.meaning.specs.Store.{Rec, Edit, rec_of, in_use}
use Rattle.types.specs.declared.Version.{Version}
use Rattle.types.specs.declared.Lock.{Lock}
use Rattle.types.specs.declared.Access.{Access}
use Rattle.meaning.specs.Points.{is_owned}
use Rattle.meaning.specs.Sound.{backs, is_present, starts_read, state_listed, generation_listed, point_listed}
use Rattle.meaning.specs.Sound.{free_idle}
use Rattle.meaning.specs.Sound.{sound_rec, sound_edit}
use Rattle.types.specs.declared.Counts.{Counts}
use Rattle.chains.specs.Lists.{all_to}
use Rattle.tables.specs.Decode.{record_at, records_of, edits_of}
use Rattle.sweeps.specs.declared.Swept.{Swept}
use Rattle.sweeps.specs.Sweep.{swept_now, passing, no_swept}

-- one lock of a record with this floor: its mode, its span and its owner
abbrev pub mode_listed : Lock → Bool
mode_listed l = eqb l.mode READ || eqb l.mode WRITE

abbrev pub span_lies : ℕ → Lock → Bool
span_lies floor l = ltb floor l.low && (leb l.low l.high && leb l.high LAST)

abbrev pub owner_used : List Edit → Lock → Bool
owner_used es l = is_owned SETTLED l || in_use es l.owner

unfoldable pub lock_sound : List Edit → ℕ → Lock → Bool
lock_sound es floor l = span_lies floor l && (mode_listed l && owner_used es l)

-- the same in a pass along a record's locks that keeps s of those behind it, and how the lock stands to them
unfoldable pub lock_now : List Edit → ℕ → Swept → Lock → Bool
lock_now es floor s l = lock_sound es floor l && swept_now s l

-- a version's point lies below the one before it, at or above the floor, and is not 0
unfoldable pub falls_below : ℕ → ℕ → ℕ → Bool
falls_below floor top p = ltb p top && (leb floor p && ltb 0 p)

-- the versions from here on, after one at top: each falls, and the last stands at the floor if that is above 0
abbrev pub ends_on : ℕ → ℕ → Bool
ends_on floor top = eqb floor 0 || eqb top floor

unfoldable pub falls_to : ℕ → ℕ → List Version → Bool
falls_to floor top [] = ends_on floor top
falls_to floor top (v ∷ vs) = falls_below floor top v.point && falls_to floor v.point vs

unfoldable pub versions_sound : Rec → Bool
versions_sound x = leb x.floor LAST && falls_to x.floor (suc LAST) x.versions

-- a version at or below the floor, or with a lock that backs it
unfoldable pub is_backed : List Edit → ℕ → Rec → Version → Bool
is_backed es r x v = leb v.point x.floor || any (backs es r v.point) x.locks

-- the clauses of a record whose locks pass
abbrev pub record_rest : List Edit → ℕ → Rec → Bool
record_rest es r x = versions_sound x && all (is_backed es r x) x.versions

-- a record read, its point + 1, or 0 where it was not: its read lock, then the version
abbrev pub read_of : Rec → ℕ → ℕ → Bool
read_of x k from = not (ltb 0 from) || any (starts_read k from) x.locks && is_present x from

unfoldable pub read_sound : List Rec → ℕ → Access → Bool
read_sound rs k a = read_of (rec_of rs a.rec) k a.from

-- the accesses of slot k from here on: each names a record that exists and has no stamp k yet, and its read is in order
unfoldable pub accesses_sound : List Rec → ℕ → List ℕ → List Access → Bool
accesses_sound rs k m [] = true
accesses_sound rs k m (a ∷ rest) =
    ltb a.rec (length rs)
    && (not (eqb (get_or m a.rec 0) k) && (read_sound rs k a && accesses_sound rs k (set m a.rec k) rest))

-- the words of a slot
unfoldable pub slot_listed : Edit → Bool
slot_listed e = state_listed e && (generation_listed e && (point_listed e && free_idle e))

-- one stamp for each record, none above k
pub record Stamps (k : ℕ) (m : List ℕ) : Type 0 where
  pub size : length m ≡ MAX_RECORDS
  pub upto : (i : ℕ) → get_or m i 0 ≤ k

-- all records, and all slots
unfoldable pub records_sound : Counts → List ℕ → Bool
records_sound c w = all_from 0 (sound_rec (edits_of c w)) (records_of c w)

unfoldable pub slots_sound : Counts → List ℕ → Bool
slots_sound c w = all_from 1 (sound_edit (records_of c w)) (edits_of c w)

-- the locks of a record pass, and those of all records
abbrev pub locks_pass : List Edit → Rec → Bool
locks_pass es x = passing (lock_now es x.floor) no_swept x.locks

unfoldable pub all_pass : Counts → List ℕ → Bool
all_pass c w = all_to c.records (λ r. locks_pass (edits_of c w) (record_at c w r))
