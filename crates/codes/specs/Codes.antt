-- What a C caller hears of a reply: one number, and the numbers that it lends. Rests on the replies of `types`.
use Rattle.std.specs.Prelude.{ℕ, ◌+◌, ◌*◌, ◌%◌, ◌≡◌, cond, eqb, List, [], ◌∷◌, Some, None}
use Rattle.types.specs.Limits.{GENERATIONS, SLOTS}
use Rattle.types.specs.Replies.{Reply, ok, edit, locked, read, own, again, commit, nopoint, purged, at, point}
use Rattle.types.specs.Replies.{refusing}
use Rattle.types.specs.declared.Extent.{Extent}
use Rattle.types.specs.declared.Extent.TheVariants.{All, Part}
use Rattle.types.specs.declared.Finish.{Finish}
use Rattle.types.specs.declared.Finish.TheVariants.{Settle, Keep}
use Rattle.types.specs.declared.Pick.{Pick}
use Rattle.types.specs.declared.Pick.TheVariants.{Named}
use Rattle.types.specs.declared.Counts.{Counts}
use Rattle.types.specs.Values.{Value}

-- a handle is below 65,536 × 64; a refusal's number is below 32
abbrev pub HANDLES : ℕ
HANDLES = GENERATIONS * SLOTS

abbrev pub CODES : ℕ
CODES = 32

-- `nopoint` is no refusal: its number is the last below CODES, above theirs
abbrev pub NOPOINT : ℕ
NOPOINT = 31

-- the number of a refusal with what is printed after it: the holder's handle stands above the number
abbrev pub code_with : ℕ → List ℕ → ℕ
code_with n [] = n
code_with n (h ∷ more) = h % HANDLES * CODES + n

-- the number returned: 0 for granted
abbrev pub code_of : Reply → ℕ
code_of ok = 0
code_of (edit h) = 0
code_of (locked low high) = 0
code_of (read tr end v) = 0
code_of (own v) = 0
code_of (again tr v) = 0
code_of (commit p) = 0
code_of nopoint = NOPOINT
code_of (purged vs ls) = 0
code_of (at p v) = 0
code_of (point p) = 0
code_of (refusing n more) = code_with n more

-- a value as two numbers: 1 and its bits, or 0 and 0 if never written
abbrev pub mark_of : Value → ℕ
mark_of None = 0
mark_of (Some x) = 1

abbrev pub bits_of : Value → ℕ
bits_of None = 0
bits_of (Some x) = x

-- which of its three replies a granted Read has
abbrev pub NEW : ℕ
NEW = 1

abbrev pub OWN : ℕ
OWN = 2

abbrev pub AGAIN : ℕ
AGAIN = 3

-- what the lent numbers hold after the reply, by what they held: the reply's values, with 0 for one that the reply
-- lacks; a refusal and `nopoint` leave them
abbrev pub numbers_of : Reply → List ℕ → List ℕ
numbers_of ok held = held
numbers_of (edit h) held = h ∷ []
numbers_of (locked low high) held = low ∷ high ∷ []
numbers_of (read tr end v) held = NEW ∷ tr ∷ end ∷ mark_of v ∷ bits_of v ∷ []
numbers_of (own v) held = OWN ∷ 0 ∷ 0 ∷ 1 ∷ v ∷ []
numbers_of (again tr v) held = AGAIN ∷ tr ∷ 0 ∷ mark_of v ∷ bits_of v ∷ []
numbers_of (commit p) held = p ∷ []
numbers_of nopoint held = held
numbers_of (purged vs ls) held = vs ∷ ls ∷ []
numbers_of (at p v) held = p ∷ mark_of v ∷ bits_of v ∷ []
numbers_of (point p) held = p ∷ []
numbers_of (refusing n more) held = held

-- a reply told by a number and lent numbers
pub record Tells (r : Reply) (code : ℕ) (held left : List ℕ) : Type 0 where
  pub number : code ≡ code_of r
  pub values : left ≡ numbers_of r held

-- the contract of every function: it tells the reply for which the promise of its call holds
pub record Answers (Promise : Reply → Type 0) (code : ℕ) (held left : List ℕ) : Type 0 where
  pub reply : Reply
  pub kept : Promise reply
  pub told : Tells reply code held left

-- the flags as numbers: 0 is the first of two, A and S, any other number the second, P and K
abbrev pub flag_of : {A : Type 0} → ℕ → A → A → A
flag_of n zero other = cond (eqb n 0) zero other

abbrev pub extent_of : ℕ → Extent
extent_of n = flag_of n All Part

abbrev pub finish_of : ℕ → Finish
finish_of n = flag_of n Settle Keep

-- a named point and five counts, from the numbers of a call
abbrev pub named : ℕ → Pick
named p = Named (record { 0 = p })

abbrev pub counts : ℕ → ℕ → ℕ → ℕ → ℕ → Counts
counts rs es vs ls xs = record { records = rs; edits = es; versions = vs; locks = ls; accesses = xs }
