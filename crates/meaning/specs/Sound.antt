-- "A store is sound when": one definition for each clause that speaks of the meaning, in the order of document 01.
-- (That the length fits the counts, that every row is on one chain, that lock rows name their record and that written
-- marks are 0 or 1 are clauses on the words.) Rests on Store and Points.
use Rattle.std.specs.Prelude.{ℕ, suc, Bool, false, not, ◌&&◌, ◌||◌, List, [], ◌∷◌, length, leb, ltb, eqb}
use Rattle.meaning.specs.Lists.{every, all, any, pairwise, all_from}
use Rattle.types.specs.Limits.{LAST, GENERATIONS, READ, WRITE, SETTLED, FREE, COMMITTED, ABORTED}
use Rattle.meaning.specs.Store.{Version, Lock, Rec, Edit, Store, counts_of, edit_of, rec_of, in_use, access_of}
use Rattle.meaning.specs.Store.{has_read, versions_used, locks_used, accesses_used}
use Rattle.meaning.specs.Points.{is_write, is_owned, covers, meets, in_common, no_later, apart_reads}
use Rattle.meaning.specs.Records.{good_counts}
use Rattle.meaning.specs.Store.{has_written}

-- "every row is on exactly one chain": what the meaning shows of it, rows in use are rows of the table
unfoldable pub rows_fit : Store → Bool
rows_fit s =
    every
    (leb (versions_used s) s.version_rows ∷ leb (locks_used s) s.lock_rows ∷ leb (accesses_used s) s.access_rows
    ∷ [])

-- "states ... are among those listed": 0 to 3
unfoldable pub state_listed : Edit → Bool
state_listed e = leb e.state ABORTED

-- "generations ... are among those listed": 0 to 65,535
unfoldable pub generation_listed : Edit → Bool
generation_listed e = ltb e.generation GENERATIONS

-- "commit points ... are among those listed": 0 unless committed
unfoldable pub point_listed : Edit → Bool
point_listed e = eqb e.state COMMITTED || eqb e.point 0

-- "modes are among those listed": read or write
unfoldable pub modes_listed : Rec → Bool
modes_listed x = all (λ l. eqb l.mode READ || eqb l.mode WRITE) x.locks

-- "a version chain falls strictly in point"
unfoldable pub versions_fall : Rec → Bool
versions_fall x = pairwise (λ v w. ltb w.point v.point) x.versions

-- a version chain "lies in floor..LAST"
unfoldable pub versions_lie : Rec → Bool
versions_lie x = all (λ v. leb x.floor v.point && leb v.point LAST) x.versions

-- the last version of a list stands at p; for versions_end
abbrev pub ends_at : ℕ → List Version → Bool
ends_at p [] = false
ends_at p (v ∷ []) = eqb v.point p
ends_at p (v ∷ w ∷ vs) = ends_at p (w ∷ vs)

-- a version chain "ends at the floor if that is above 0"
unfoldable pub versions_end : Rec → Bool
versions_end x = eqb x.floor 0 || ends_at x.floor x.versions

-- "no row has point 0"
unfoldable pub none_at_zero : Rec → Bool
none_at_zero x = all (λ v. ltb 0 v.point) x.versions

-- "locks lie in floor + 1..LAST with low ≤ high"
unfoldable pub locks_lie : Rec → Bool
locks_lie x = all (λ l. ltb x.floor l.low && (leb l.low l.high && leb l.high LAST)) x.locks

-- "owners are 0 or slots in use"
unfoldable pub owners_in_use : List Edit → Rec → Bool
owners_in_use es x = all (λ l. is_owned SETTLED l || in_use es l.owner) x.locks

-- "no write lock shares a point with a lock of another owner": so for these two
unfoldable pub agree : Lock → Lock → Bool
agree l m = is_owned l.owner m || (not (is_write l || is_write m) || not (meets l.low l.high m))

-- "no write lock shares a point with a lock of another owner"
unfoldable pub writes_apart : Rec → Bool
writes_apart x = pairwise agree x.locks

-- document 02, M-105: "each record's locks in rising order of low point ..., equal low points in any order"
unfoldable pub locks_rise : Rec → Bool
locks_rise x = pairwise no_later x.locks

-- "join settled read rows that overlap or adjoin": of two there is a point between them
unfoldable pub reads_joined : Rec → Bool
reads_joined x = pairwise apart_reads x.locks

-- "of an edit that wrote the record and committed at that point": slot k, record r, point t
unfoldable pub wrote_at : List Edit → ℕ → ℕ → ℕ → Bool
wrote_at es k r t =
    eqb (edit_of es k).state COMMITTED && (eqb (edit_of es k).point t && has_written (access_of (edit_of es k) r))

-- "a write lock on its point, settled or of an edit that wrote the record and committed at that point": this lock, for
-- point p of record r
unfoldable pub backs : List Edit → ℕ → ℕ → Lock → Bool
backs es r p l = is_write l && (covers p l && (is_owned SETTLED l || wrote_at es l.owner r p))

-- "each version above the floor has a write lock on its point, settled or of an edit that wrote the record ..."
unfoldable pub versions_backed : List Edit → ℕ → Rec → Bool
versions_backed es r x = all (λ v. leb v.point x.floor || any (backs es r v.point) x.locks) x.versions

-- "an edit names an existing record ... in its accesses"
unfoldable pub names_existing : List Rec → Edit → Bool
names_existing rs e = all (λ a. ltb a.rec (length rs)) e.accesses

-- "at most once in its accesses"
unfoldable pub names_once : Edit → Bool
names_once e = pairwise (λ a b. not (eqb a.rec b.rec)) e.accesses

-- "a present version, or 0 under floor 0": the point from − 1
unfoldable pub is_present : Rec → ℕ → Bool
is_present x from = any (λ v. eqb (suc v.point) from) x.versions || eqb from 1 && eqb x.floor 0

-- "a point read is a present version, or 0 under floor 0"
unfoldable pub reads_present : List Rec → Edit → Bool
reads_present rs e = all (λ a. not (has_read a) || is_present (rec_of rs a.rec) a.from) e.accesses

-- "a read lock starting just after it": this lock of slot k; from is the point read + 1
unfoldable pub starts_read : ℕ → ℕ → Lock → Bool
starts_read k from l = is_owned k l && (not (is_write l) && eqb l.low from)

-- "the edit has a read lock starting just after it"
unfoldable pub reads_locked : List Rec → ℕ → Edit → Bool
reads_locked rs k e =
    all (λ a. not (has_read a) || any (starts_read k a.from) (rec_of rs a.rec).locks) e.accesses

-- "a committed edit's point is in its common set"
unfoldable pub point_common : List Rec → ℕ → Edit → Bool
point_common rs k e = not (eqb e.state COMMITTED) || in_common rs k e e.point

-- "free slots have no accesses"
unfoldable pub free_idle : Edit → Bool
free_idle e = not (eqb e.state FREE) || eqb (length e.accesses) 0

-- the clauses of record r, over the edits es
unfoldable pub sound_rec : List Edit → ℕ → Rec → Bool
sound_rec es r x =
    every
    (modes_listed x
    ∷ versions_fall x
    ∷ versions_lie x
    ∷ versions_end x
    ∷ none_at_zero x
    ∷ locks_lie x
    ∷ owners_in_use es x
    ∷ writes_apart x
    ∷ versions_backed es r x
    ∷ locks_rise x
    ∷ reads_joined x
    ∷ [])

-- the clauses of slot k, over the records rs
unfoldable pub sound_edit : List Rec → ℕ → Edit → Bool
sound_edit rs k e =
    every
    (state_listed e
    ∷ generation_listed e
    ∷ point_listed e
    ∷ names_existing rs e
    ∷ names_once e
    ∷ reads_present rs e
    ∷ reads_locked rs k e
    ∷ point_common rs k e
    ∷ free_idle e
    ∷ [])

-- "A store is sound when": all clauses that speak of the meaning
unfoldable pub sound_store : Store → Bool
sound_store s =
    every
    (good_counts (counts_of s)
    ∷ rows_fit s
    ∷ all_from 0 (sound_rec s.edits) s.records
    ∷ all_from 1 (sound_edit s.records) s.edits
    ∷ [])
