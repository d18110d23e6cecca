-- The session of document 01 and two edits with one commit point, computed, and what the claim says of them. Rests on
-- Theorem and CommitList.
use Prim.Native.Nat.{ℕ}
use mathlib.Core.Path.{◌≡◌, refl}
use mathlib.Core.Bool.{true}
use mathlib.Core.List.{List}
use Rattle.meaning.specs.Records.{good_counts}
use Rattle.meaning.specs.Calls.{opened}
use Rattle.meaning.specs.Session.{session, session_replies}
use Rattle.types.specs.declared.Counts.{Counts}
use Rattle.types.specs.declared.Call.{Call}
use Rattle.serial.specs.Serializable.{Seq, ε, ◌▸◌, CommitOrder}
use Rattle.history.specs.Statement.{replied}
use Rattle.history.specs.Examples.{Serial, session_counts, session_calls, SessionCommits, SessionSerial}
use Rattle.history.specs.Examples.{SessionViews, equal_counts, equal_calls, EqualCommits, EqualSerial, EqualEnds}
use Rattle.history.proofs.Theorem.{store_serializable}
use Rattle.history.proofs.CommitList.{in_order}

serial_in : (counts : Counts) (cs : List Call) → good_counts counts ≡ true → (o : Seq ℕ)
    → CommitOrder (replied counts cs) o → Serial counts cs o
serial_in counts cs g o order = record { order = order; serial = store_serializable counts cs g o order }

pub session_good : good_counts session_counts ≡ true
unfolding good_counts
session_good = refl

pub session_commits : SessionCommits
unfolding opened session session_replies session_calls
session_commits = (refl, refl)

pub session_serial : SessionSerial
unfolding opened session session_calls
session_serial = (
  serial_in session_counts session_calls session_good (ε ▸ 1 ▸ 2)
      (in_order (replied session_counts session_calls) (ε ▸ (2, 7) ▸ (1, 6)) (ε ▸ (1, 6) ▸ (2, 7)) session_commits.1
      refl),
  refl,
  refl,
)

pub session_views : SessionViews
unfolding opened session session_calls
session_views = (refl, refl)

pub equal_good : good_counts equal_counts ≡ true
unfolding good_counts
equal_good = refl

pub equal_commits : EqualCommits
unfolding opened equal_calls
equal_commits = refl

pub equal_serial : EqualSerial
equal_serial = (
  serial_in equal_counts equal_calls equal_good (ε ▸ 1 ▸ 2)
      (in_order (replied equal_counts equal_calls) (ε ▸ (1, 5) ▸ (2, 5)) (ε ▸ (1, 5) ▸ (2, 5)) equal_commits refl),
  serial_in equal_counts equal_calls equal_good (ε ▸ 2 ▸ 1)
      (in_order (replied equal_counts equal_calls) (ε ▸ (1, 5) ▸ (2, 5)) (ε ▸ (2, 5) ▸ (1, 5)) equal_commits refl),
)

pub equal_ends : EqualEnds (ε ▸ 1 ▸ 2) × EqualEnds (ε ▸ 2 ▸ 1)
unfolding opened equal_calls
equal_ends = ((refl, refl, refl), (refl, refl, refl))
