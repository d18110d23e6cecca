-- What the contracts of the desk's functions imply of the session's numbers: statements, which proofs/Laws proves.
-- Rests on Sessions, and on Desk and Laws of `desk`.
use Rattle.std.specs.Prelude.{ℕ, ◌≡◌, List, length}
use Rattle.layers.specs.Serial.{Layer}
use Rattle.desk.specs.Replies.{opened, emptied}
use Rattle.desk.specs.Desk.{desk_open, DeskCall, read, program}
use Rattle.desk.specs.declared.Setting.{Setting}
use Rattle.desk.specs.declared.Session.{Session}
use Rattle.sessions.specs.Sessions.{WORDS, EMPTIED, session_of, with_interval, Reports, Opens}

-- the contract of the function of a call
abbrev pub Contract : DeskCall → List ℕ → List ℕ → ℕ → List ℕ → List ℕ → List ℕ → List ℕ → Type 0
Contract c words words' code held left session session' =
    Reports (Layer (program c (session_of session)) words words') code held left session session'

-- the numbers after a call are those of the session after it
abbrev pub NumbersAreSession : Type 0
NumbersAreSession = (c : DeskCall) (words words' : List ℕ) (code : ℕ) (held left session session' : List ℕ)
    → length session ≡ WORDS
    → (r : Contract c words words' code held left session session') → session_of session' ≡ r.after.session

abbrev pub OpenedAreSession : Type 0
OpenedAreSession = (t width : ℕ) (setting : Setting) (words words' : List ℕ) (code : ℕ) (session session' : List ℕ)
    → length session ≡ WORDS → (o : Opens (Layer (desk_open t width setting) words words') code session session')
    → (s : Session) → o.opening ≡ opened s → session_of session' ≡ s

-- 30 is for an emptied session alone
abbrev pub EmptiedIsAlone : Type 0
EmptiedIsAlone = (rec : ℕ) (words words' : List ℕ) (code : ℕ) (held left session session' : List ℕ)
    → (r : Contract (read rec) words words' code held left session session') → code ≡ EMPTIED
    → r.after.report ≡ emptied

-- a session that a call leaves as it was keeps its numbers: with the laws of refusals, a refusal leaves them
abbrev pub SameSessionSameNumbers : Type 0
SameSessionSameNumbers = (session : List ℕ) → length session ≡ WORDS
    → with_interval session (session_of session) ≡ session
