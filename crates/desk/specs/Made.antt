-- Which calls of the store a call of the desk is, in a list of calls, and what they replied. Demand 3 and charts speak
-- of that list (Serial of `layers`): what a desk is told is what the list has. The theorem of each law is in
-- proofs/Made, under the same name. Rests on Desk.
use Rattle.std.specs.Prelude.{ℕ, ◌≡◌, true, false, List, [], ◌∷◌}
use Rattle.types.specs.Values.{Val}
use Rattle.types.specs.Replies.{Reply}
use Rattle.types.specs.Replies as R
use Rattle.types.specs.declared.Call.{Call}
use Rattle.types.specs.declared.Call.TheVariants as C
use Rattle.types.specs.declared.Extent.TheVariants.{Part}
use Rattle.types.specs.declared.Finish.TheVariants.{Settle}
use Rattle.types.specs.declared.Pick.TheVariants.{Named}
use Rattle.types.specs.Values.{Value}
use Rattle.layers.specs.Serial.{Layer}
use Rattle.desk.specs.Replies.{Opening, opened, declined, Report, told, emptied, After}
use Rattle.desk.specs.Desk.{ended, named, desk_open, DeskCall, read, write, commit, program}
use Rattle.desk.specs.declared.Setting.{Setting}
use Rattle.desk.specs.declared.Session.{Session}

-- a call of a session that has not ended, by what the desk is told: the reply of its Read, of its Write or of its
-- Commit, or that of a Lock that was refused
pub data Made (s : Session) : DeskCall → Report → List Call → List Reply → Type 0 where
  reads : {rec : ℕ} {q : Reply} → Made s (read rec) (told q) (C.Read s.handle rec s.high Part ∷ []) (q ∷ [])
  empties : {rec tr end : ℕ} {v : Value} {q : Reply}
      → Made s (read rec) emptied
      (C.Read s.handle rec s.high Part ∷ C.Abort s.handle Settle ∷ [])
      (R.read tr end v ∷ q ∷ [])
  writes : {rec low high : ℕ} {v : Val} {q : Reply}
      → Made s (write rec v) (told q)
      (C.Lock s.handle rec s.low s.high Part ∷ C.Write s.handle rec v ∷ [])
      (R.locked low high ∷ q ∷ [])
  no_lock : {rec n : ℕ} {v : Val} {more : List ℕ}
      → Made s (write rec v) (told (R.refusing n more))
      (C.Lock s.handle rec s.low s.high Part ∷ [])
      (R.refusing n more ∷ [])
  commits : {q : Reply} → Made s commit (told q) (C.Commit s.handle (Named (named s)) Settle ∷ []) (q ∷ [])

abbrev pub DeskCallsMade : Type 0
DeskCallsMade = (c : DeskCall) (s : Session) (w w' : List ℕ) (a : After) → ended s ≡ false
    → (l : Layer (program c s) w w' a) → Made s c a.report l.calls l.replies

-- an ended session makes no call
abbrev pub EndedMakesNone : Type 0
EndedMakesNone = (c : DeskCall) (s : Session) (w w' : List ℕ) (a : After) → ended s ≡ true
    → (l : Layer (program c s) w w' a) → (l.calls ≡ []) × (l.replies ≡ [])

-- opening is a Begin, or no call
pub data Begun : Opening → List Call → List Reply → Type 0 where
  begun : {s : Session} → Begun (opened s) (C.Begin ∷ []) (R.edit s.handle.0 ∷ [])
  refused : {q : Reply} → Begun (declined q) (C.Begin ∷ []) (q ∷ [])
  none : {q : Reply} → Begun (declined q) [] []

abbrev pub OpeningMade : Type 0
OpeningMade = (t width : ℕ) (setting : Setting) (w w' : List ℕ) (o : Opening)
    → (l : Layer (desk_open t width setting) w w' o) → Begun o l.calls l.replies
