-- Histories that show that the claim is not empty: the session of document 01, and two edits that commit at one point.
-- The theorems are in proofs/Examples, under the same names. Rests on Statement.
use Rattle.std.specs.Prelude.{ℕ, ◌≡◌, List, [], ◌∷◌, Some, None}
use Rattle.std.proofs.Math.Option.{some, none}
use Rattle.meaning.specs.Store.{fresh}
use Rattle.types.specs.Limits.{LAST}
use Rattle.types.specs.Replies.{ok, at}
use Rattle.meaning.specs.Records.{viewing}
use Rattle.meaning.specs.Calls.{Line, format, call, run, after}
use Rattle.meaning.specs.Session.{session, session_replies}
use Rattle.types.specs.declared.Counts.{Counts}
use Rattle.types.specs.declared.Handle.{Handle}
use Rattle.types.specs.declared.Point.{Point}
use Rattle.types.specs.declared.Extent.TheVariants.{All}
use Rattle.types.specs.declared.Pick.TheVariants.{Named}
use Rattle.types.specs.declared.Finish.TheVariants.{Settle}
use Rattle.types.specs.declared.Call.{Call}
use Rattle.types.specs.declared.Call.TheVariants as C
use Rattle.serial.specs.Serializable as H
use Rattle.serial.specs.Serializable.{Seq, ε, ◌▸◌, History, edit_of, plain_end, CommitOrder}
use Rattle.history.specs.Statement.{SerialStore, replied}

-- the edits that committed, by the place of their Begin, with their commit points, in list order
abbrev pub commits_of : {X : Type 0} → History X → Seq (ℕ × ℕ)
commits_of ε = ε
commits_of (l ▸ H.begun h) = commits_of l
commits_of (l ▸ H.call h (H.wrote k v)) = commits_of l
commits_of (l ▸ H.call h (H.read k a x)) = commits_of l
commits_of (l ▸ H.call h (H.commits t)) = commits_of l ▸ (edit_of l h, t)
commits_of (l ▸ H.other) = commits_of l

-- an order of a list of calls, and the plain run in it
pub record Serial (counts : Counts) (cs : List Call) (o : Seq ℕ) : Type 0 where
  pub order : CommitOrder (replied counts cs) o
  pub serial : SerialStore counts.records (replied counts cs) (after cs (fresh counts)) o

-- the session without its Format
abbrev calls_in : List Line → List Call
calls_in [] = []
calls_in (format c ∷ ls) = calls_in ls
calls_in (call c ∷ ls) = c ∷ calls_in ls

abbrev pub session_counts : Counts
session_counts = record { records = 2; edits = 2; versions = 4; locks = 8; accesses = 8 }

unfoldable pub session_calls : List Call
unfolding session
session_calls = calls_in session

-- edit 2 commits at 7 and then edit 1 at 6; the third edit, the eighth call, does not
abbrev pub SessionCommits : Type 0
SessionCommits = (ok ∷ run session_calls (fresh session_counts) ≡ session_replies)
    × (commits_of (replied session_counts session_calls) ≡ ε ▸ (2, 7) ▸ (1, 6))

-- so the plain run takes edit 1 first, and ends with 501 and never written, as View at LAST replies
abbrev pub SessionSerial : Type 0
SessionSerial = Serial session_counts session_calls (ε ▸ 1 ▸ 2)
    × (plain_end (replied session_counts session_calls) (ε ▸ 1 ▸ 2) 0 ≡ some 501)
    × (plain_end (replied session_counts session_calls) (ε ▸ 1 ▸ 2) 1 ≡ none)

abbrev pub SessionViews : Type 0
SessionViews = ((viewing 0 LAST (after session_calls (fresh session_counts))).reply ≡ at 7 (Some 501))
    × ((viewing 1 LAST (after session_calls (fresh session_counts))).reply ≡ at 0 None)

abbrev pub on : ℕ → Handle
on h = record { 0 = h }

abbrev pub to : ℕ → Point
to p = record { 0 = p }

-- two edits read record 0 up to 5, write a record each, and commit at 5
abbrev pub equal_counts : Counts
equal_counts = record { records = 3; edits = 2; versions = 2; locks = 4; accesses = 4 }

unfoldable pub equal_calls : List Call
equal_calls =
    C.Begin
    ∷ C.Begin
    ∷ C.Read (on 65) 0 (to 5) All
    ∷ C.Read (on 66) 0 (to 5) All
    ∷ C.Lock (on 65) 1 (to 5) (to 5) All
    ∷ C.Lock (on 66) 2 (to 5) (to 5) All
    ∷ C.Write (on 65) 1 10
    ∷ C.Write (on 66) 2 20
    ∷ C.Commit (on 65) (Named (to 5)) Settle
    ∷ C.Commit (on 66) (Named (to 5)) Settle
    ∷ []

abbrev pub EqualCommits : Type 0
EqualCommits = commits_of (replied equal_counts equal_calls) ≡ ε ▸ (1, 5) ▸ (2, 5)

-- "for every order of equal points"
abbrev pub EqualSerial : Type 0
EqualSerial = Serial equal_counts equal_calls (ε ▸ 1 ▸ 2) × Serial equal_counts equal_calls (ε ▸ 2 ▸ 1)

-- both end with the same values
abbrev pub EqualEnds : Seq ℕ → Type 0
EqualEnds o = (plain_end (replied equal_counts equal_calls) o 0 ≡ none)
    × (plain_end (replied equal_counts equal_calls) o 1 ≡ some 10)
    × (plain_end (replied equal_counts equal_calls) o 2 ≡ some 20)
