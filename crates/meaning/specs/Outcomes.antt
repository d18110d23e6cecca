-- What a call comes to: a reply and the store after it; how its checks stand in order; the tests behind the refusals.
-- Rests on Store and Points and on Replies of `types`.
use Rattle.std.specs.Prelude.{ℕ, ◌+◌, Bool, true, false, cond, ◌&&◌, ◌||◌, List, [], ◌∷◌, length, leb, ltb, eqb}
use Rattle.types.specs.Limits.{LAST, OPEN}
use Rattle.meaning.specs.Store.{Store, handle, slot_of, generation_of, edit_at, rec_at, in_use, names, written_of}
use Rattle.meaning.specs.Store.{versions_used, locks_used, accesses_used}
use Rattle.meaning.specs.Points.{frozen, holder}
use Rattle.types.specs.Replies.{Reply, refusing}

-- "its reply and the meaning of the lent store afterwards"
pub record Outcome : Type 0 where
  pub reply : Reply
  pub store : Store

-- a reply with the store after it
abbrev pub replies : Store → Reply → Outcome
replies s r = record { reply = r; store = s }

-- whether a call is refused: "Each carries its number; 8 also the holder's handle" (what is printed after the number)
pub data Verdict : Type 0 where
  pass : Verdict
  refuse : ℕ → List ℕ → Verdict

-- "Checked in this order": refused as r says unless the test holds; else as v says
abbrev pub or_else : Bool → Verdict → Verdict → Verdict
or_else true r v = v
or_else false r v = r

-- "Checked in this order": refused with n unless the test holds; else as v says
abbrev pub needs : Bool → ℕ → Verdict → Verdict
needs b n v = or_else b (refuse n []) v

-- "All memory stays the same": a refused call leaves the store as it is
abbrev pub unless : Store → Verdict → Outcome → Outcome
unless s pass o = o
unless s (refuse n more) o = replies s (refusing n more)

-- 2: "slot out of range or free, or another generation"; a slot out of range reads as free
unfoldable pub knows : Store → ℕ → Bool
knows s h = in_use s.edits (slot_of h) && eqb (edit_at s (slot_of h)).generation (generation_of h)

-- 3 "edit has ended", 4 "edit still open": it is open
unfoldable pub is_open : Store → ℕ → Bool
is_open s h = eqb (edit_at s (slot_of h)).state OPEN

-- 2, 3, and then as v says; for the calls that want an open edit
abbrev pub for_open : Store → ℕ → Verdict → Verdict
for_open s h v = needs (knows s h) 2 (needs (is_open s h) 3 v)

-- 5: "no such record"
unfoldable pub has_record : Store → ℕ → Bool
has_record s r = ltb r (length s.records)

-- 6: "point too large; ... m or commit point 0": a point from 1, for a read and a commit
abbrev pub is_point : ℕ → Bool
is_point p = leb 1 p && leb p LAST

-- "8 also the holder's handle": the handle of the edit in slot k
abbrev pub handle_at : Store → ℕ → ℕ
handle_at s k = handle (edit_at s k).generation k

-- "frozen if ..., else held by the lowest slot": 9 or 8, by what blocks slot k at the point p of record r
unfoldable pub judge : Store → ℕ → ℕ → ℕ → ℕ → Verdict
judge s r mode k p =
    cond (frozen s r mode p) (refuse 9 []) (refuse 8 (handle_at s (holder mode k (rec_at s r) p) ∷ []))

-- 10: "one access for a record new to the edit"
unfoldable pub access_room : Store → ℕ → ℕ → Bool
access_room s k r = names (edit_at s k) r || ltb (accesses_used s) s.access_rows

-- 11: "one lock for each grant"
unfoldable pub lock_room : Store → Bool
lock_room s = ltb (locks_used s) s.lock_rows

-- 12: "one version for each record written"
unfoldable pub version_room : Store → ℕ → Bool
version_room s k = leb (versions_used s + length (written_of (edit_at s k))) s.version_rows
