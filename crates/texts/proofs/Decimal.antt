-- The decimal digits of a number: one digit, one digit more, that they are the digits that the library prints, also
-- after a word, and how many there are. Rests on specs/Parts.
use Prim.Native.Nat.{ℕ, zero, suc, ◌+◌, ◌*◌, ◌/◌, ◌%◌, ◌≤◌, ◌<◌, ◌^◌}
use mathlib.Core.Path.{◌≡◌, refl, ap, ◌∙◌}
use mathlib.Core.Bool.{Bool, true, false, cond}
use mathlib.Core.List.{List, [], ◌∷◌, ◌++◌, append_assoc}
use native.Mathlib.Omega.{arith}
use borrow.Author.Rules.{rules}
use borrow.Author.Tests.{lt-ltb, le-ltb, ltb-true, ltb-false}
use lib.ListN.{length, length-append}
use lib.Dec.{ltb}
use Rattle.std.proofs.lemmas.Fmt.{AppendsLastDigit, decimal_from_appends, length-decimal-le_succ}
use Rattle.std.specs.Fmt as Std
use Rattle.types.specs.Values.{Value}
use Rattle.texts.specs.Text.{LARGEST, SPACE}
use Rattle.texts.specs.Parts.{digits_of, decimal, value_text, one, two, one_value, two_value}

-- any number of steps above n gives the same digits
enough_step : (n : ℕ) (ds es : List ℕ) (q : Bool) → ltb n 10 ≡ q → (10 ≤ n → ds ≡ es)
    → cond (ltb n 10) ((48 + n) ∷ []) (ds ++ ((48 + n % 10) ∷ []))
    ≡ cond (ltb n 10) ((48 + n) ∷ []) (es ++ ((48 + n % 10) ∷ []))
enough_step n ds es true t e = rw t
enough_step n ds es false t e = rw (e (ltb-false n 10 t))

enough : (k j n : ℕ) → n < k → n < j → digits_of k n ≡ digits_of j n
unfolding digits_of
enough zero j n h g = let f : ◌≡◌ {A = ℕ} 0 1 = omega arith in cc
enough (suc k) zero n h g = let f : ◌≡◌ {A = ℕ} 0 1 = omega arith in cc
enough (suc k) (suc j) n h g =
    enough_step n (digits_of k (n / 10)) (digits_of j (n / 10)) (ltb n 10) refl
    (λ l. enough k j (n / 10) (omega arith) (omega arith))

pub decimal_small : (n : ℕ) → n < 10 → decimal n ≡ (48 + n) ∷ []
unfolding decimal digits_of
decimal_small n h = rw (lt-ltb n 10 h)

pub decimal_more : (n : ℕ) → 10 ≤ n → decimal n ≡ decimal (n / 10) ++ ((48 + n % 10) ∷ [])
unfolding decimal digits_of
decimal_more n h = rw (le-ltb n 10 h, enough n (suc (n / 10)) (n / 10) (omega arith) (omega arith))

last_digit : AppendsLastDigit digits_of
unfolding digits_of
last_digit = search rules

-- what the library prints of a number of 64 bits
pub decimal_printed : (n : ℕ) → n < 2 ^ 64 → decimal n ≡ Std.decimal n
unfolding decimal
decimal_printed n h =
    decimal_from_appends digits_of last_digit (suc n) n h (omega (arith, length-decimal-le_succ n h))

pub one_printed : (w : List ℕ) (n : ℕ) → n < 2 ^ 64 → one w n ≡ w ++ Std.decimal n
unfolding one
one_printed w n h = ap (λ ds. w ++ ds) (decimal_printed n h)

-- a number after another one, or a value
then_one : (w rest : List ℕ) (n : ℕ) → n < 2 ^ 64 → one w n ++ rest ≡ w ++ (Std.decimal n ++ rest)
then_one w rest n h = ap (λ ds. ds ++ rest) (one_printed w n h) ∙ append_assoc w (Std.decimal n) rest

pub two_printed : (w : List ℕ) (n m : ℕ) → n < 2 ^ 64 → m < 2 ^ 64
    → two w n m ≡ w ++ (Std.decimal n ++ (SPACE ∷ Std.decimal m))
unfolding two
two_printed w n m h g = rw (decimal_printed m g) (then_one w (SPACE ∷ Std.decimal m) n h)

pub one_value_printed : (w : List ℕ) (n : ℕ) (v : Value) → n < 2 ^ 64
    → one_value w n v ≡ w ++ (Std.decimal n ++ (SPACE ∷ value_text v))
unfolding one_value
one_value_printed w n v h = then_one w (SPACE ∷ value_text v) n h

pub two_value_printed : (w : List ℕ) (n m : ℕ) (v : Value) → n < 2 ^ 64 → m < 2 ^ 64
    → two_value w n m v ≡ w ++ (Std.decimal n ++ (SPACE ∷ (Std.decimal m ++ (SPACE ∷ value_text v))))
unfolding two_value
two_value_printed w n m v h g =
    ap (λ s. s ++ (SPACE ∷ value_text v)) (two_printed w n m h g)
    ∙ append_assoc w (Std.decimal n ++ (SPACE ∷ Std.decimal m)) (SPACE ∷ value_text v)
    ∙ ap (λ s. w ++ s) (append_assoc (Std.decimal n) (SPACE ∷ Std.decimal m) (SPACE ∷ value_text v))

-- how many digits there are
pub decimal_longer : (n : ℕ) → 10 ≤ n → length (decimal n) ≡ length (decimal (n / 10)) + 1
decimal_longer n h = ap length (decimal_more n h) ∙ length-append (decimal (n / 10)) ((48 + n % 10) ∷ [])

unfoldable tens : ℕ → ℕ
tens zero = 1
tens (suc k) = 10 * tens k

long_step : (k n : ℕ) (q : Bool) → ltb n 10 ≡ q → (10 ≤ n → length (decimal (n / 10)) ≤ k) → length (decimal n) ≤ suc k
long_step k n true t r = let e = ap length (decimal_small n (ltb-true n 10 t)) in omega arith
long_step k n false t r =
    let l = ltb-false n 10 t in
    let e = decimal_longer n l in
    let s = r l in
    omega arith

long : (k n : ℕ) → n < tens (suc k) → length (decimal n) ≤ suc k
unfolding tens
long zero n h = long_step 0 n (ltb n 10) refl (λ l. omega arith)
long (suc k) n h = long_step (suc k) n (ltb n 10) refl (λ l. long k (n / 10) (omega arith))

pub decimal_long : (n : ℕ) → n ≤ LARGEST → length (decimal n) ≤ 20
unfolding tens
decimal_long n h = long 19 n (omega arith)

pub one_long : (w : List ℕ) (n : ℕ) → n ≤ LARGEST → length (one w n) ≤ length w + 20
unfolding one
one_long w n h = let e = length-append w (decimal n) in let d = decimal_long n h in omega arith

pub two_long : (w : List ℕ) (n m : ℕ) → n ≤ LARGEST → m ≤ LARGEST → length (two w n m) ≤ length w + 41
unfolding two
two_long w n m h g =
    let e = length-append (one w n) (SPACE ∷ decimal m) in
    let a = one_long w n h in
    let d = decimal_long m g in
    omega arith
