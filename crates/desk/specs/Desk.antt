-- The planning desk (M-101): opening, read, write and commit, each as a program of calls of the store. The program is
-- the definition: what a call answers and leaves is `play` of it (Programs of `layers`). Rests on Programs and Cases.
use Rattle.std.specs.Prelude.{ℕ, suc, ◌+◌, ◌-◌, min, max, ◌≡◌, Bool, true, false, cond, ◌&&◌, List, [], leb, ltb}
use Rattle.std.specs.Prelude.{Option, Some, None, Result, Ok, Err}
use Rattle.types.specs.Limits.{LAST}
use Rattle.types.specs.Values.{Val}
use Rattle.types.specs.Replies.{Reply, refusing, refused, of_refusal}
use Rattle.types.specs.declared.Call.TheVariants as C
use Rattle.types.specs.declared.Extent.TheVariants.{Part}
use Rattle.types.specs.declared.Finish.TheVariants.{Settle}
use Rattle.types.specs.declared.Pick.TheVariants.{Named}
use Rattle.types.specs.declared.Point.{Point}
use Rattle.types.specs.declared.Refusal.{Refusal}
use Rattle.store.specs.Promises.{Shows}
use Rattle.layers.specs.Programs.{Program, answer, ask, look, Look, shown, slot, view}
use Rattle.desk.specs.Replies.{Opening, opened, declined, emptied, After, says}
use Rattle.desk.specs.Cases.{on_edit, on_locked, on_read, ends_edit, says_one}
use Rattle.desk.specs.declared.Setting.{Setting}
use Rattle.desk.specs.declared.Setting.TheVariants.{Earliest, Latest}
use Rattle.desk.specs.declared.Session.{Session}

-- Sessions.

abbrev pub point_at : ℕ → Point
point_at p = record { 0 = p }

-- the session with another interval
abbrev pub between : Session → ℕ → ℕ → Session
between s low high =
    record {
      handle = s.handle;
      low = point_at low;
      high = point_at high;
      width = s.width;
      setting = s.setting;
    }

-- a session has ended if its interval has no point
unfoldable pub ended : Session → Bool
ended s = ltb s.high.0 s.low.0

-- the session once its edit has ended
abbrev pub closed : Session → Session
closed s = between s 1 0

-- "the part of it within the lock"
abbrev pub within : Session → ℕ → ℕ → Session
within s low high = between s (max s.low.0 low) (min s.high.0 high)

-- the same as the code has it: nothing, or a session
unfoldable pub cut_to : Session → ℕ → ℕ → Option Session
cut_to s low high = cond (ended (within s low high)) None (Some (within s low high))

-- "Commit names the earliest or the latest point of the interval left, by a setting"
abbrev pub end_of : Setting → Point → Point → Point
end_of Earliest low high = low
end_of Latest low high = high

unfoldable pub named : Session → Point
named s = end_of s.setting s.low s.high

-- "t 0, or t + width above LAST, is 6"
unfoldable pub good_start : ℕ → ℕ → Bool
good_start t width = leb 1 t && leb t LAST && leb width (LAST - t)

-- "A desk edit has a working interval t to t + width."
abbrev pub starting : ℕ → ℕ → Setting → ℕ → Session
starting t width setting h =
    record {
      handle = record { 0 = h };
      low = point_at t;
      high = point_at (t + width);
      width = width;
      setting = setting;
    }

-- Opening.

-- at a bad point: 1 and 13 as the store says them, then 6
abbrev pub start_reply : Reply → Reply
start_reply q = cond (refused q) q (refusing 6 [])

abbrev pub refuse_start : Program Opening
refuse_start = look slot (λ q. answer (declined (start_reply q)))

abbrev pub begin : ℕ → ℕ → Setting → Program Opening
begin t width setting =
    ask C.Begin (λ q. answer (on_edit q (declined q) (λ h. opened (starting t width setting h))))

unfoldable pub desk_open : ℕ → ℕ → Setting → Program Opening
desk_open t width setting = cond (good_start t width) (begin t width setting) refuse_start

-- Read, write and commit.

-- "an ended session gives 3, after 1"; 1 is learnt from a View
abbrev pub ended_reply : Reply → Reply
ended_reply q = cond (says_one q) (refusing 1 []) (refusing 3 [])

abbrev pub refuse_ended : Session → Program After
refuse_ended s = look (view 0 0) (λ q. answer (says s (ended_reply q)))

abbrev pub unless_ended : Session → Program After → Program After
unless_ended s p = cond (ended s) (refuse_ended s) p

-- "Left empty, it aborts and settles the edit, and the desk is told."
abbrev pub empty : Session → Program After
empty s = ask (C.Abort s.handle Settle) (λ q. answer (record { session = closed s; report = emptied }))

-- a granted read with the reply q, after which the session would be `next`
abbrev pub shrink : Session → Reply → Session → Program After
shrink s q next = cond (ended next) (empty s) (answer (says next q))

-- "The interval shrinks to what was granted: for a read, the part of it within the lock": tr + 1 to end
abbrev pub once_read : Session → Reply → Program After
once_read s q = on_read q (answer (says s q)) (λ tr end. shrink s q (within s (suc tr) end))

-- "A read asks up to the interval's end with P"
unfoldable pub desk_read : Session → ℕ → Program After
desk_read s rec = unless_ended s (ask (C.Read s.handle rec s.high Part) (once_read s))

-- "and then stores the value"; "where a write's lock was granted and its value met 10, lock and shrunken interval
-- remain"
abbrev pub once_locked : Session → ℕ → Val → Reply → Program After
once_locked s rec v q =
    on_locked q (answer (says s q))
    (λ low high. ask (C.Write s.handle rec v) (λ r. answer (says (between s low high) r)))

-- "a write locks the interval with P"
unfoldable pub desk_write : Session → ℕ → Val → Program After
desk_write s rec v = unless_ended s (ask (C.Lock s.handle rec s.low s.high Part) (once_locked s rec v))

-- "Commit names ... a point ... and settles"
unfoldable pub desk_commit : Session → Program After
desk_commit s =
    unless_ended s
    (ask (C.Commit s.handle (Named (named s)) Settle) (λ q. answer (says (cond (ends_edit q) (closed s) s) q)))

-- the calls that take a session
pub data DeskCall : Type 0 where
  read : ℕ → DeskCall
  write : ℕ → Val → DeskCall
  commit : DeskCall

abbrev pub program : DeskCall → Session → Program After
program (read rec) s = desk_read s rec
program (write rec v) s = desk_write s rec v
program commit s = desk_commit s

-- a refusal that is made of what a look shows: of an ended session (`ended_reply`), of a bad start (`start_reply`)
pub record ByLook (l : Look) (of : Reply → Reply) (w : List ℕ) (r : Refusal) : Type 0 where
  pub seen : Reply
  pub shows : Shows (shown l) w seen
  pub is : of_refusal r ≡ of seen

-- whether a session goes on, or the refusal of one that has ended
abbrev pub GoesOn : Session → List ℕ → Result (Unit {0}) Refusal → Type 0
GoesOn s w (Ok x) = ended s ≡ false
GoesOn s w (Err r) = (ended s ≡ true) × ByLook (view 0 0) ended_reply w r
