-- The digits of a number, read one after another. Rests on specs/Fields and specs/Reads.
use Prim.Native.Nat.{ℕ, ◌+◌, ◌-◌, ◌*◌, ◌≤◌, ◌<◌}
use mathlib.Core.Path.{◌≡◌, refl, ◌∙◌}
use mathlib.Core.Bool.{Bool, true, false, cond, ◌&&◌}
use mathlib.Core.List.{List, [], ◌∷◌}
use native.Mathlib.Omega.{arith}
use native.Mathlib.Numerals.{add-one}
use borrow.Author.Tests.{le-leb, lt-leb}
use lib.ListN.{length, drop, get_or, drop_of_length-le}
use lib.Seq.{drop-cons}
use lib.Dec.{leb}
use Rattle.std.specs.Prelude.{Option, Some, None}
use Rattle.texts.specs.Text.{LARGEST}
use Rattle.fields.specs.Fields.{is_digit, digits, value}
use Rattle.fields.specs.Reads.{number_of}

pub digit_in : (b : ℕ) → 48 ≤ b → b ≤ 57 → is_digit b ≡ true
digit_in b l h = simp (le-leb 48 b l, le-leb b 57 h)

-- the number whose digits so far are n and whose others are these bytes
unfoldable pub going : ℕ → List ℕ → Option ℕ
going n bs = cond (digits bs && leb (value n bs) LARGEST) (Some (value n bs)) None

value_least : (n : ℕ) (f : List ℕ) → n ≤ value n f
unfolding value
value_least n [] = omega arith
value_least n (b ∷ bs) = let h = value_least (n * 10 + (b - 48)) bs in omega arith

cond_none : (q : Bool) (x : Option ℕ) → cond (q && false) x None ≡ None
cond_none true x = refl
cond_none false x = refl

going_past : (n : ℕ) (bs : List ℕ) → LARGEST < n → going n bs ≡ None
unfolding going
going_past n bs h =
    let l = value_least n bs in
    rw (lt-leb (value n bs) LARGEST (omega arith)) (cond_none (digits bs) _)

-- all bytes are passed: n is the number
pub going_all : (n i : ℕ) (f : List ℕ) → n ≤ LARGEST → length f ≤ i → going n (drop i f) ≡ Some n
unfolding going digits value
going_all n i f h l = rw (drop_of_length-le f l, le-leb n LARGEST h)

-- the next byte is no digit
pub going_bad : (n i : ℕ) (f : List ℕ) → i < length f → is_digit (get_or f i 0) ≡ false → going n (drop i f) ≡ None
unfolding going digits
going_bad n i f l h = rw (drop-cons f i 0 l, h)

-- the next byte is a digit
pub going_on : (n m i : ℕ) (f : List ℕ) → i < length f → is_digit (get_or f i 0) ≡ true
    → m ≡ n * 10 + (get_or f i 0 - 48)
    → going n (drop i f) ≡ going m (drop (i + 1) f)
unfolding going digits value
going_on n m i f l h e = rw (drop-cons f i 0 l, h, add-one i, e)

-- with that digit, the number is too large
pub going_over : (n i : ℕ) (f : List ℕ) → i < length f → is_digit (get_or f i 0) ≡ true
    → LARGEST < n * 10 + (get_or f i 0 - 48)
    → going n (drop i f) ≡ None
going_over n i f l h o = going_on n _ i f l h refl ∙ going_past _ (drop (i + 1) f) o

pub going_first : (f : List ℕ) → 0 < length f → number_of f ≡ going 0 (drop 0 f)
unfolding going
going_first [] h = let f : ◌≡◌ {A = ℕ} 0 1 = omega (arith, h) in cc
going_first (b ∷ bs) h = refl

-- what the loop of `number_in` asks for
pub ruleset number_steps = (going_first, going_all, going_bad, going_on, going_over)
