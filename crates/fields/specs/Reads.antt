-- What the methods of `Fields` promise: which fields are left, and what follows from the one that was read. Rests on
-- Fields.
use Rattle.std.specs.Prelude.{ℕ, Bool, cond, List, [], ◌∷◌, eqb, Option, Some, None, ◌≡◌, ⊤}
use denote.Ref.{Bor}
use Rattle.texts.specs.Text.{SPACE}
use Rattle.fields.specs.Fields.{Parsed, fields, is_number, value}

abbrev pub is_space : ℕ → Bool
is_space b = eqb b SPACE

-- the fields of the bytes that are left, if any are
abbrev pub fields_of_rest : Option (Bor (List ℕ)) → List (List ℕ)
fields_of_rest None = []
fields_of_rest (Some rest) = fields rest.now

-- the number that a field is
abbrev pub number_of : List ℕ → Option ℕ
number_of f = cond (is_number f) (Some (value 0 f)) None

-- the one byte that a field is
abbrev pub letter_of : List ℕ → Option ℕ
letter_of [] = None
letter_of (b ∷ []) = Some b
letter_of (b ∷ c ∷ bs) = None

-- what follows from what was read, and from the fields after it
abbrev pub after : {A : Type 0} → Option A → List (List ℕ) → (A → List (List ℕ) → Parsed) → Parsed
after None fs next = None
after (Some x) fs next = next x fs

-- the same of a field of one byte, or of any other
abbrev pub after_letter : Option ℕ → List (List ℕ) → Parsed → (ℕ → List (List ℕ) → Parsed) → Parsed
after_letter None fs other next = other
after_letter (Some b) fs other next = next b fs

-- where nothing was read, the fields that are left are as they were
abbrev pub KeepsUnread : {A : Type 0} → Option A → List (List ℕ) → List (List ℕ) → Type 0
KeepsUnread None before now = now ≡ before
KeepsUnread (Some x) before now = ⊤

-- what a read of a kind, `Read`, found in the next field; where it found something, the fields after that one are left
abbrev pub Taken : {A : Type 0} → (List ℕ → Option A → Type 0) → List (List ℕ) → Option A → List (List ℕ) → Type 0
Taken Read [] found now = found ≡ None
Taken Read (f ∷ fs) None now = Read f None
Taken Read (f ∷ fs) (Some x) now = Read f (Some x) × (now ≡ fs)
