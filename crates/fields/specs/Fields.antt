-- A script line as fields, and what a field may be: a number, or one letter. "one call a line, numbers in decimal,
-- single spaces". Rests on the type Command of src/lib.rt.
use Rattle.std.specs.Prelude.{ℕ, ◌+◌, ◌-◌, ◌*◌, Bool, true, false, cond, ◌&&◌, List, [], ◌∷◌, leb, eqb, Option, None}
use Rattle.texts.specs.Text.{SPACE, LARGEST}
use Rattle.fields.specs.declared.Command.{Command}

-- the command that a line is, if it is one
abbrev pub Parsed : Type 0
Parsed = Option Command

-- what a line of another form is
abbrev pub Malformed : Parsed
Malformed = None

-- the bytes before the first space, and the fields after it: two spaces in a row have an empty field between them
unfoldable pub first : List ℕ → List ℕ
first [] = []
first (b ∷ bs) = cond (eqb b SPACE) [] (b ∷ first bs)

unfoldable pub others : List ℕ → List (List ℕ)
others [] = []
others (b ∷ bs) = cond (eqb b SPACE) (first bs ∷ others bs) (others bs)

abbrev pub fields : List ℕ → List (List ℕ)
fields bs = first bs ∷ others bs

-- a number is a run of one or more digits, leading zeros among them, whose value is at most 2^64 - 1
abbrev pub is_digit : ℕ → Bool
is_digit b = leb 48 b && leb b 57

unfoldable pub digits : List ℕ → Bool
digits [] = true
digits (b ∷ bs) = is_digit b && digits bs

-- the value of the digits after a number n
unfoldable pub value : ℕ → List ℕ → ℕ
value n [] = n
value n (b ∷ bs) = value (n * 10 + (b - 48)) bs

abbrev pub nonempty : List ℕ → Bool
nonempty [] = false
nonempty (b ∷ bs) = true

abbrev pub is_number : List ℕ → Bool
is_number f = nonempty f && digits f && leb (value 0 f) LARGEST

-- what follows from a number as the next field, and from the fields after it
unfoldable pub number : List (List ℕ) → (ℕ → List (List ℕ) → Parsed) → Parsed
number [] next = Malformed
number (f ∷ fs) next = cond (is_number f) (next (value 0 f) fs) Malformed

-- what follows from a field of one byte, or from any other
unfoldable pub letter_or : List (List ℕ) → Parsed → (ℕ → List (List ℕ) → Parsed) → Parsed
letter_or [] other next = other
letter_or ([] ∷ fs) other next = other
letter_or ((b ∷ []) ∷ fs) other next = next b fs
letter_or ((b ∷ c ∷ bs) ∷ fs) other next = other

-- no field is left
unfoldable pub done : List (List ℕ) → Parsed → Parsed
done [] p = p
done (f ∷ fs) p = Malformed
