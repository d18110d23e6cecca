-- Calls and replies as words: the call of a row of words, and the row of words of a reply. Rests on Codes of the crate
-- `codes`.
use Rattle.std.specs.Prelude.{ℕ, zero, suc, ◌+◌, ◌*◌, List, [], ◌∷◌, ◌++◌, get_or}
use Rattle.types.specs.Replies.{Reply}
use Rattle.types.specs.declared.Handle.{Handle}
use Rattle.types.specs.declared.Point.{Point}
use Rattle.types.specs.declared.Pick.TheVariants.{Earliest, Latest}
use Rattle.types.specs.declared.Call.{Call}
use Rattle.types.specs.declared.Call.TheVariants as C
use Rattle.codes.specs.Codes.{code_of, numbers_of, extent_of, finish_of, named}

-- a call is its kind and five numbers, a reply its code and as many
abbrev pub NUMBERS : ℕ
NUMBERS = 5

abbrev pub CALL_WORDS : ℕ
CALL_WORDS = suc NUMBERS

abbrev pub REPLY_WORDS : ℕ
REPLY_WORDS = suc NUMBERS

abbrev pub handle_of : ℕ → Handle
handle_of h = record { 0 = h }

abbrev pub point_of : ℕ → Point
point_of p = record { 0 = p }

-- the calls by their kinds from 0 on, with their numbers in the order of a script line
abbrev pub kinds : ℕ → ℕ → ℕ → ℕ → ℕ → List Call
kinds first second third fourth fifth =
    C.Begin
    ∷ C.Write (handle_of first) second third
    ∷ C.Lock (handle_of first) second (point_of third) (point_of fourth) (extent_of fifth)
    ∷ C.Read (handle_of first) second (point_of third) (extent_of fourth)
    ∷ C.Commit (handle_of first) Earliest (finish_of second)
    ∷ C.Commit (handle_of first) Latest (finish_of second)
    ∷ C.Commit (handle_of first) (named second) (finish_of third)
    ∷ C.Abort (handle_of first) (finish_of second)
    ∷ C.Settle (handle_of first)
    ∷ C.Purge first (point_of second)
    ∷ []

-- any other kind is View, which changes nothing
unfoldable pub call_of : ℕ → ℕ → ℕ → ℕ → ℕ → ℕ → Call
call_of kind first second third fourth fifth =
    get_or (kinds first second third fourth fifth) kind (C.View first (point_of second))

abbrev pub word_at : List ℕ → ℕ → ℕ
word_at list i = get_or list i 0

-- the call of a row
abbrev pub call_of_row : List ℕ → Call
call_of_row row =
    call_of (word_at row 0) (word_at row 1) (word_at row 2) (word_at row 3) (word_at row 4) (word_at row 5)

-- call i of a list, and the first n calls
unfoldable pub call_at : List ℕ → ℕ → Call
call_at list i =
    let at = i * CALL_WORDS in
    call_of (word_at list at) (word_at list (at + 1)) (word_at list (at + 2)) (word_at list (at + 3))
    (word_at list (at + 4))
    (word_at list (at + 5))

abbrev pub calls_of : List ℕ → ℕ → List Call
calls_of list zero = []
calls_of list (suc n) = calls_of list n ++ (call_at list n ∷ [])

-- n numbers: those of the list, then 0
abbrev pub padded : ℕ → List ℕ → List ℕ
padded zero xs = []
padded (suc n) [] = 0 ∷ padded n []
padded (suc n) (x ∷ xs) = x ∷ padded n xs

-- the row of a reply: its code and n numbers
abbrev pub row_of : ℕ → Reply → List ℕ
row_of n q = code_of q ∷ padded n (numbers_of q [])

abbrev pub rows_of : ℕ → List Reply → List ℕ
rows_of n [] = []
rows_of n (q ∷ qs) = row_of n q ++ rows_of n qs
