-- Laws that tie the definitions to their plain reading. proofs/Laws proves each.
-- The fields, joined by single spaces, are the line, and no field has a space; the decimal digits of a number are
-- digits, read back as the number, and have no leading zero; so every number that is printed is one that is read. Rests
-- on Fields, and on Parts of the crate `texts`.
use Rattle.std.specs.Prelude.{ℕ, ◌≤◌, ◌<◌, ◌≡◌, Bool, true, not, ◌&&◌, List, [], ◌∷◌, ◌++◌, get_or, eqb}
use Rattle.texts.specs.Text.{SPACE, LARGEST}
use Rattle.fields.specs.Fields.{first, others, is_number, value}
use Rattle.texts.specs.Parts.{decimal}

-- each field after the first, with a space before it
unfoldable pub spaced : List (List ℕ) → List ℕ
spaced [] = []
spaced (f ∷ fs) = SPACE ∷ f ++ spaced fs

unfoldable pub spaceless : List ℕ → Bool
spaceless [] = true
spaceless (b ∷ bs) = not (eqb b SPACE) && spaceless bs

unfoldable pub all_spaceless : List (List ℕ) → Bool
all_spaceless [] = true
all_spaceless (f ∷ fs) = spaceless f && all_spaceless fs

abbrev pub FieldsJoin : Type 0
FieldsJoin = (s : List ℕ) → first s ++ spaced (others s) ≡ s

abbrev pub FieldsSpaceless : Type 0
FieldsSpaceless = (s : List ℕ) → (spaceless (first s) ≡ true) × (all_spaceless (others s) ≡ true)

abbrev pub DecimalReads : Type 0
DecimalReads = (n : ℕ) → value 0 (decimal n) ≡ n

abbrev pub DecimalNumber : Type 0
DecimalNumber = (n : ℕ) → n ≤ LARGEST → is_number (decimal n) ≡ true

-- 48 is the digit 0
abbrev pub DecimalLeads : Type 0
DecimalLeads = (n : ℕ) → 0 < n → 48 < get_or (decimal n) 0 0
