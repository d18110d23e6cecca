-- Points under locks, found from the ends of the lock rows: no definition here steps from point to point. The pointwise
-- reading of each is a law (specs/Laws). Rests on Store.
use Rattle.std.specs.Prelude.{ℕ, suc, ◌-◌, max, Bool, not, cond, ◌&&◌, ◌||◌, List, [], ◌∷◌, map, ◌++◌, leb, ltb, eqb}
use Rattle.meaning.specs.Lists.{all, any, keep, put_before, least, greatest}
use Rattle.types.specs.Limits.{LAST, SLOTS, READ, WRITE, SETTLED}
use Rattle.meaning.specs.Store.{Lock, Access, Rec, Edit, Store, rec_of, rec_at, has_read}
use Rattle.meaning.specs.Store.{has_written}

-- Layout, lock: "mode (1 read, 2 write)": a write lock
abbrev pub is_write : Lock → Bool
is_write l = eqb l.mode WRITE

-- Layout, lock: "owner slot": a lock of owner k; for k = 0 a settled one
abbrev pub is_owned : ℕ → Lock → Bool
is_owned k l = eqb l.owner k

-- "has any lock on it": the lock lies over point p
abbrev pub covers : ℕ → Lock → Bool
covers p l = leb l.low p && leb p l.high

-- "shares a point": the lock shares a point with low..high
abbrev pub meets : ℕ → ℕ → Lock → Bool
meets low high l = leb l.low high && leb low l.high

-- "under an own lock": one of these locks lies over point p
unfoldable pub covered : List Lock → ℕ → Bool
covered ls p = any (covers p) ls

-- "an own lock": the locks of owner k
unfoldable pub own : ℕ → List Lock → List Lock
own k ls = keep (is_owned k) ls

-- "an own write lock": the write locks among these
unfoldable pub writes : List Lock → List Lock
writes ls = keep is_write ls

-- the least point of low..high under one of the locks, or high + 1; for first_blocked
unfoldable pub first_covered : List Lock → ℕ → ℕ → ℕ
first_covered ls low high = least (suc high) (map (λ l. max low l.low) (keep (meets low high) ls))

-- the least point of low..high under none of the locks, or high + 1: it is low or just after one of the locks; for
-- first_open and the common set
unfoldable pub first_free : List Lock → ℕ → ℕ → ℕ
first_free ls low high =
    least (suc high) (keep (λ p. leb low p && not (covered ls p)) (low ∷ map (λ l. suc l.high) ls))

-- what a lock is to another owner: for a writer "any lock", for a reader a "point write-locked by another owner"
unfoldable pub conflicts : ℕ → Lock → Bool
conflicts mode l = eqb mode WRITE || is_write l

-- "A point is blocked if another owner has any lock on it" (for a reader: a write lock): this lock blocks slot k
unfoldable pub blocks : ℕ → ℕ → Lock → Bool
blocks mode k l = not (is_owned k l) && conflicts mode l

-- the locks of a record that block slot k
unfoldable pub blockers : ℕ → ℕ → Rec → List Lock
blockers mode k x = keep (blocks mode k) x.locks

-- "the least blocked point wanted": of low..high, or high + 1
abbrev pub first_blocked : ℕ → ℕ → Rec → ℕ → ℕ → ℕ
first_blocked mode k x low high = first_covered (blockers mode k x) low high

-- Lock, P: "the first free point" of low..high, or high + 1
abbrev pub first_open : ℕ → ℕ → Rec → ℕ → ℕ → ℕ
first_open mode k x low high = first_free (blockers mode k x) low high

-- "frozen if a settled lock there conflicts or a version stands on it"
unfoldable pub frozen : Store → ℕ → ℕ → ℕ → Bool
frozen s r mode p =
    any (λ l. is_owned SETTLED l && conflicts mode l && covers p l) (rec_at s r).locks
    || any (λ v. eqb v.point p) (rec_at s r).versions

-- "else held by the lowest slot"
unfoldable pub holder : ℕ → ℕ → Rec → ℕ → ℕ
holder mode k x p = least SLOTS (map (λ l. l.owner) (keep (covers p) (blockers mode k x)))

-- A record's locks are changed only by add_lock, leave_settled, drop_owner and trim_to. Document 02, M-105: "Keep each
-- record's locks in rising order of low point, and join settled read rows that overlap or adjoin."

-- l starts no later than m
abbrev pub no_later : Lock → Lock → Bool
no_later l m = leb l.low m.low

-- a row at its place in that order: before the first that starts at its low point or later
abbrev pub put_lock : Lock → List Lock → List Lock
put_lock l ls = put_before (no_later l) l ls

-- Lock "write-locks low..high", Read: "tr + 1..m is read-locked": one row more
unfoldable pub add_lock : Lock → List Lock → List Lock
add_lock l ls = put_lock l ls

-- Layout: "Owner 0 marks a settled lock": one of a mode on low..high, and whether a lock is a settled read lock
abbrev pub settled_lock : ℕ → ℕ → ℕ → Lock
settled_lock mode low high = record { low = low; high = high; mode = mode; owner = SETTLED }

abbrev pub is_settled_read : Lock → Bool
is_settled_read l = is_owned SETTLED l && eqb l.mode READ

-- a settled read lock that overlaps low..high or adjoins it: there is no point between them
abbrev pub touches : ℕ → ℕ → Lock → Bool
touches low high l = is_settled_read l && (leb l.low (suc high) && leb low (suc l.high))

-- low..high and every row that touches it, as one row
abbrev pub joined_row : ℕ → ℕ → List Lock → Lock
joined_row low high ls =
    settled_lock READ
    (least low (map (λ l. l.low) (keep (touches low high) ls)))
    (greatest high (map (λ l. l.high) (keep (touches low high) ls)))

-- that row in place of those which it takes in
abbrev pub join_read : ℕ → ℕ → List Lock → List Lock
join_read low high ls = put_lock (joined_row low high ls) (keep (λ l. not (touches low high l)) ls)

-- two settled read locks have a point between them
abbrev pub apart_reads : Lock → Lock → Bool
apart_reads l m =
    not (is_settled_read l && is_settled_read m) || (ltb (suc l.high) m.low || ltb (suc m.high) l.low)

-- "Settling leaves ... a settled read lock ... and a settled write lock": one of them, where b says so; a read lock is
-- joined
unfoldable pub leave_settled : Bool → ℕ → ℕ → ℕ → List Lock → List Lock
leave_settled b mode low high ls =
    cond b (cond (eqb mode READ) (join_read low high ls) (put_lock (settled_lock mode low high) ls)) ls

-- the ways to keep a record's locks: how a row joins them, and how a settled one does
pub record Keeping : Type 0 where
  pub add : Lock → List Lock → List Lock
  pub leave : Bool → ℕ → ℕ → ℕ → List Lock → List Lock

-- the store's; and document 01's by itself, a row in front, to compare it with (OldTable)
abbrev pub joined : Keeping
joined = record { add = add_lock; leave = leave_settled }

abbrev pub plain : Keeping
plain = record { add = λ l ls. l ∷ ls; leave = λ b mode low high ls. cond b (settled_lock mode low high ∷ ls) ls }

-- "all its other locks ... become free": the locks of owner k go
unfoldable pub drop_owner : ℕ → List Lock → List Lock
drop_owner k ls = keep (λ l. not (is_owned k l)) ls

-- "rows left empty": a settled lock with no point above v
abbrev pub emptied : ℕ → Lock → Bool
emptied v l = is_owned SETTLED l && leb l.high v

-- a lock without its points up to v
abbrev pub cut : ℕ → Lock → Lock
cut v l = record { low = max l.low (suc v); high = l.high; mode = l.mode; owner = l.owner }

-- "settled locks lose their points up to v": this lock afterwards
abbrev pub trimmed : ℕ → Lock → Lock
trimmed v l = cond (is_owned SETTLED l) (cut v l) l

-- Purge: "settled locks lose their points up to v, rows left empty go"
unfoldable pub trim_to : ℕ → List Lock → List Lock
trim_to v ls = map (trimmed v) (keep (λ l. not (emptied v l)) ls)

-- own locks of slot k on the record of an access; for the common set
unfoldable pub own_on : List Rec → ℕ → Access → List Lock
own_on rs k a = own k (rec_of rs a.rec).locks

-- "lies in an own write lock for each written record": this access allows p; ls are the own locks on its record
abbrev pub allows_write : List Lock → Access → ℕ → Bool
allows_write ls a p = not (has_written a) || covered (writes ls) p

-- "for each record read at tr, lies above tr with every point from tr + 1 up to it under an own lock": this access
-- allows p
abbrev pub allows_read : List Lock → Access → ℕ → Bool
allows_read ls a p = not (has_read a) || leb a.from p && ltb p (first_free ls a.from LAST)

-- the access allows p, as written and as read
unfoldable pub allows : List Rec → ℕ → ℕ → Access → Bool
allows rs k p a = allows_write (own_on rs k a) a p && allows_read (own_on rs k a) a p

-- "every point from 1": the least point that an edit may commit at
abbrev pub lowest : Edit → ℕ
lowest e = 1

-- "The common set has every point from 1 to LAST that": p is in the common set of the edit e of slot k, over the
-- records rs
unfoldable pub in_common : List Rec → ℕ → Edit → ℕ → Bool
in_common rs k e p = leb (lowest e) p && leb p LAST && all (allows rs k p) e.accesses

-- where the least of the common set can be: at the lowest, just after a point read, at the low end of an own write lock
abbrev pub low_ends : List Rec → ℕ → ℕ → List Access → List ℕ
low_ends rs k p [] = p ∷ []
low_ends rs k p (a ∷ acc) = a.from ∷ map (λ l. l.low) (writes (own_on rs k a)) ++ low_ends rs k p acc

-- where the greatest can be: at LAST, at the end of what is covered from tr + 1, at the high end of an own write lock
abbrev pub high_ends : List Rec → ℕ → List Access → List ℕ
high_ends rs k [] = LAST ∷ []
high_ends rs k (a ∷ acc) =
    (first_free (own_on rs k a) a.from LAST - 1) ∷ map (λ l. l.high) (writes (own_on rs k a)) ++ high_ends rs k acc

-- Commit "at the earliest": the least of the common set, or LAST + 1 if it is empty
unfoldable pub earliest : List Rec → ℕ → Edit → ℕ
earliest rs k e = least (suc LAST) (keep (in_common rs k e) (low_ends rs k (lowest e) e.accesses))

-- Commit at "the latest": the greatest of the common set, or 0 if it is empty
unfoldable pub latest : List Rec → ℕ → Edit → ℕ
latest rs k e = greatest 0 (keep (in_common rs k e) (high_ends rs k e.accesses))
