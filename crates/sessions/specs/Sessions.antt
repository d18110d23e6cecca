-- A desk's session as five numbers that the caller lends, and what a caller from another language hears of a desk.
-- Rests on Codes of `codes`, and on Replies and Desk of `desk`.
use Rattle.std.specs.Prelude.{ℕ, ◌≡◌, List, [], ◌∷◌, get_or, set}
use Rattle.codes.specs.Codes.{code_of, numbers_of, flag_of}
use Rattle.desk.specs.Replies.{Opening, opened, declined, Report, told, emptied, After}
use Rattle.desk.specs.Desk.{point_at}
use Rattle.desk.specs.declared.Setting.{Setting}
use Rattle.desk.specs.declared.Setting.TheVariants.{Earliest, Latest}
use Rattle.desk.specs.declared.Session.{Session}

-- how many numbers a session is, and what stands where
abbrev pub WORDS : ℕ
WORDS = 5

abbrev pub HANDLE : ℕ
HANDLE = 0

abbrev pub LOW : ℕ
LOW = 1

abbrev pub HIGH : ℕ
HIGH = 2

abbrev pub WIDTH : ℕ
WIDTH = 3

abbrev pub LATEST : ℕ
LATEST = 4

-- the setting as a number: 0 names the earliest point, any other number the latest
abbrev pub setting_of : ℕ → Setting
setting_of n = flag_of n Earliest Latest

abbrev pub number_of : Setting → ℕ
number_of Earliest = 0
number_of Latest = 1

-- every five numbers are a session
unfoldable pub session_of : List ℕ → Session
session_of xs =
    record {
      handle = record { 0 = get_or xs HANDLE 0 };
      low = point_at (get_or xs LOW 0);
      high = point_at (get_or xs HIGH 0);
      width = get_or xs WIDTH 0;
      setting = setting_of (get_or xs LATEST 0);
    }

-- "The desk's session record is updated in place by each call": the interval, and no other number
unfoldable pub with_interval : List ℕ → Session → List ℕ
with_interval xs s = set (set xs LOW s.low.0) HIGH s.high.0

-- opening sets all five
unfoldable pub session_numbers : Session → List ℕ
session_numbers s = s.handle.0 ∷ s.low.0 ∷ s.high.0 ∷ s.width ∷ number_of s.setting ∷ []

-- `emptied` is no refusal: its number is above theirs, and below that of `nopoint`
abbrev pub EMPTIED : ℕ
EMPTIED = 30

abbrev pub code_of_report : Report → ℕ
code_of_report (told q) = code_of q
code_of_report emptied = EMPTIED

-- what the lent numbers hold after the report: `emptied` leaves them
abbrev pub numbers_of_report : Report → List ℕ → List ℕ
numbers_of_report (told q) held = numbers_of q held
numbers_of_report emptied held = held

-- a call of a desk told by a number, lent numbers and the session's numbers
pub record TellsAfter (a : After) (code : ℕ) (held left session session' : List ℕ) : Type 0 where
  pub number : code ≡ code_of_report a.report
  pub values : left ≡ numbers_of_report a.report held
  pub interval : session' ≡ with_interval session a.session

-- an opening: 0 and the session, or the number of a refusal, which leaves the session's numbers
abbrev pub code_of_opening : Opening → ℕ
code_of_opening (opened s) = 0
code_of_opening (declined q) = code_of q

abbrev pub session_after : Opening → List ℕ → List ℕ
session_after (opened s) held = session_numbers s
session_after (declined q) held = held

pub record TellsOpening (o : Opening) (code : ℕ) (session session' : List ℕ) : Type 0 where
  pub number : code ≡ code_of_opening o
  pub set : session' ≡ session_after o session

-- the contracts of the functions: each tells an answer for which the promise of its call holds
pub record Reports (Promise : After → Type 0) (code : ℕ) (held left session session' : List ℕ) : Type 0 where
  pub after : After
  pub kept : Promise after
  pub told : TellsAfter after code held left session session'

pub record Opens (Promise : Opening → Type 0) (code : ℕ) (session session' : List ℕ) : Type 0 where
  pub opening : Opening
  pub kept : Promise opening
  pub told : TellsOpening opening code session session'
