-- The replies of document 01, and which of them each case of the code's answers is. Rests on Values and the types
-- of src/lib.rt.
use Rattle.std.specs.Prelude.{ℕ, Bool, true, false, List, [], ◌∷◌, Option, Some, None, Result, Ok, Err}
use Rattle.types.specs.Values.{Val, Value}
use Rattle.types.specs.declared.Refusal.{Refusal}
use Rattle.types.specs.declared.Refusal.TheVariants.{Unsound, NoEdit, EditEnded, EditOpen, NoRecord, BadPoint}
use Rattle.types.specs.declared.Refusal.TheVariants.{BelowFloor, Held, Frozen, NoAccessRow, NoLockRow}
use Rattle.types.specs.declared.Refusal.TheVariants.{NoVersionRow, NoSlot, NotCommon, LockedBelow, BadFormat}
use Rattle.types.specs.declared.Point.{Point}
use Rattle.types.specs.declared.Handle.{Handle}
use Rattle.types.specs.declared.Span.{Span}
use Rattle.types.specs.declared.Found.{Found}
use Rattle.types.specs.declared.Found.TheVariants as Fd
use Rattle.types.specs.declared.Freed.{Freed}
use Rattle.types.specs.declared.Seen.{Seen}
use Rattle.types.specs.declared.Granted.{Granted}
use Rattle.types.specs.declared.Granted.TheVariants as Gr

-- "Replies: `ok`; `edit` handle; `locked` low high; `read` tr end value; `own` value; `again` tr value; `commit` point;
-- `nopoint`; `purged` versions locks; `at` point value; `no` number (8: then the handle)." A refusal carries its number
-- and what is printed after it; `point` is the answer of the call Point
pub data Reply : Type 0 where
  ok : Reply
  edit : ℕ → Reply
  locked : ℕ → ℕ → Reply
  read : ℕ → ℕ → Value → Reply
  own : Val → Reply
  again : ℕ → Value → Reply
  commit : ℕ → Reply
  nopoint : Reply
  purged : ℕ → ℕ → Reply
  at : ℕ → Value → Reply
  point : ℕ → Reply
  refusing : ℕ → List ℕ → Reply

-- "Sixteen ways to say no": the reply is one of them
abbrev pub refused : Reply → Bool
refused ok = false
refused (edit h) = false
refused (locked low high) = false
refused (read tr end v) = false
refused (own v) = false
refused (again tr v) = false
refused (commit p) = false
refused nopoint = false
refused (purged vs ls) = false
refused (at p v) = false
refused (point p) = false
refused (refusing n more) = true

-- "Each carries its number": the table's first column
abbrev pub number : Refusal → ℕ
number Unsound = 1
number NoEdit = 2
number EditEnded = 3
number EditOpen = 4
number NoRecord = 5
number BadPoint = 6
number BelowFloor = 7
number (Held h) = 8
number Frozen = 9
number NoAccessRow = 10
number NoLockRow = 11
number NoVersionRow = 12
number NoSlot = 13
number NotCommon = 14
number LockedBelow = 15
number BadFormat = 16

-- "8 also the holder's handle": what is printed after the number
abbrev pub details : Refusal → List ℕ
details Unsound = []
details NoEdit = []
details EditEnded = []
details EditOpen = []
details NoRecord = []
details BadPoint = []
details BelowFloor = []
details (Held h) = h.0 ∷ []
details Frozen = []
details NoAccessRow = []
details NoLockRow = []
details NoVersionRow = []
details NoSlot = []
details NotCommon = []
details LockedBelow = []
details BadFormat = []

-- "`no` number (8: then the handle)"
abbrev pub of_refusal : Refusal → Reply
of_refusal r = refusing (number r) (details r)

-- What a call gives as the reply of its kind, and an error as the refusal
abbrev pub of_result : {A : Type 0} → (A → Reply) → Result A Refusal → Reply
of_result given (Ok x) = given x
of_result given (Err r) = of_refusal r

-- Point: the point made, or a refusal
abbrev pub of_point : Result Point Refusal → Reply
of_point = of_result (λ p. point p.0)

-- Format, Write, Abort and Settle: `ok`, or a refusal
abbrev pub of_done : Result (Unit {0}) Refusal → Reply
of_done = of_result (λ _. ok)

-- Begin: "`edit` handle", or a refusal
abbrev pub of_begin : Result Handle Refusal → Reply
of_begin = of_result (λ h. edit h.0)

-- Lock: "`locked` low high", or a refusal
abbrev pub of_lock : Result Span Refusal → Reply
of_lock = of_result (λ s. locked s.low.0 s.high.0)

-- Read: "`read` tr end value; `own` value; `again` tr value", or a refusal
abbrev pub of_found : Found → Reply
of_found (Fd.Read tr end v) = read tr.0 end.0 v
of_found (Fd.Own v) = own v
of_found (Fd.Again tr v) = again tr.0 v

abbrev pub of_read : Result Found Refusal → Reply
of_read = of_result of_found

-- Commit: "`commit` point; `nopoint`", or a refusal
abbrev pub of_picked : Option Point → Reply
of_picked (Some p) = commit p.0
of_picked None = nopoint

abbrev pub of_commit : Result (Option Point) Refusal → Reply
of_commit = of_result of_picked

-- Purge: "`purged` versions locks", or a refusal
abbrev pub of_purge : Result Freed Refusal → Reply
of_purge = of_result (λ f. purged f.versions f.locks)

-- View: "`at` point value", or a refusal
abbrev pub of_view : Result Seen Refusal → Reply
of_view = of_result (λ s. at s.point.0 s.value)

-- a call of any kind: that of its kind
abbrev pub of_granted : Granted → Reply
of_granted Gr.Done = ok
of_granted (Gr.Edit h) = edit h.0
of_granted (Gr.Locked s) = locked s.low.0 s.high.0
of_granted (Gr.Read f) = of_found f
of_granted (Gr.Commit p) = of_picked p
of_granted (Gr.Purged f) = purged f.versions f.locks
of_granted (Gr.At s) = at s.point.0 s.value

abbrev pub of_answer : Result Granted Refusal → Reply
of_answer = of_result of_granted
