-- The laws of specs/Laws. Rests on Digits, and on Decimal of the crate `texts`.
use Prim.Native.Nat.{ℕ, zero, suc, ◌+◌, ◌-◌, ◌*◌, ◌/◌, ◌%◌, ◌≤◌, ◌<◌}
use mathlib.Core.Path.{◌≡◌, refl, sym, ap}
use mathlib.Core.Bool.{Bool, true, false, ◌&&◌}
use mathlib.Core.List.{List, [], ◌∷◌, ◌++◌}
use native.Mathlib.Omega.{arith}
use borrow.Author.Tests.{le-leb, eqb-true, ltb-true, ltb-false}
use lib.ListN.{get_or}
use lib.Dec.{eqb, ltb}
use Rattle.texts.specs.Text.{SPACE, LARGEST}
use Rattle.fields.specs.Fields.{first, others, is_digit, digits, value, nonempty}
use Rattle.texts.specs.Parts.{decimal}
use Rattle.fields.specs.Laws.{spaced, spaceless, all_spaceless, FieldsJoin, FieldsSpaceless, DecimalReads}
use Rattle.fields.specs.Laws.{DecimalNumber, DecimalLeads}
use Rattle.fields.proofs.Digits.{digit_in}
use Rattle.texts.proofs.Decimal.{decimal_small, decimal_more}

join_by : (b : ℕ) (bs : List ℕ) (q : Bool) → eqb b SPACE ≡ q → first bs ++ spaced (others bs) ≡ bs
    → first (b ∷ bs) ++ spaced (others (b ∷ bs)) ≡ b ∷ bs
unfolding first others spaced
join_by b bs true t e = rw t (rw e (ap (λ x. x ∷ bs) (sym (eqb-true b SPACE t))))
join_by b bs false t e = rw t (ap (λ l. b ∷ l) e)

pub fields_join : FieldsJoin
unfolding first others spaced
fields_join [] = refl
fields_join (b ∷ bs) = join_by b bs (eqb b SPACE) refl (fields_join bs)

spaceless_by : (b : ℕ) (bs : List ℕ) (q : Bool) → eqb b SPACE ≡ q
    → (spaceless (first bs) ≡ true) × (all_spaceless (others bs) ≡ true)
    → (spaceless (first (b ∷ bs)) ≡ true) × (all_spaceless (others (b ∷ bs)) ≡ true)
unfolding first others spaceless all_spaceless
spaceless_by b bs true t e = (rw t, rw (t, e.0, e.1))
spaceless_by b bs false t e = (rw t (rw (t, e.0)), rw (t, e.1))

pub fields_spaceless : FieldsSpaceless
unfolding first others spaceless all_spaceless
fields_spaceless [] = (refl, refl)
fields_spaceless (b ∷ bs) = spaceless_by b bs (eqb b SPACE) refl (fields_spaceless bs)

-- what holds of each one-digit number, and of a number if it does of the number without its last digit, holds of every
-- number
module _ (P : ℕ → Type 0) (small : (n : ℕ) → n < 10 → P n) (more : (n : ℕ) → 10 ≤ n → P (n / 10) → P n) where
  each_step : (n : ℕ) (q : Bool) → ltb n 10 ≡ q → (10 ≤ n → P (n / 10)) → P n
  each_step n true t r = small n (ltb-true n 10 t)
  each_step n false t r = let l = ltb-false n 10 t in more n l (r l)

  each_below : (k n : ℕ) → n < k → P n
  each_below zero n h = small n (omega arith)
  each_below (suc k) n h = each_step n (ltb n 10) refl (λ l. each_below k (n / 10) (omega arith))

  each : (n : ℕ) → P n
  each n = each_below (suc n) n (omega arith)

value_last : (n : ℕ) (ds : List ℕ) (b : ℕ) → value n (ds ++ (b ∷ [])) ≡ value n ds * 10 + (b - 48)
unfolding value
value_last n [] b = refl
value_last n (d ∷ ds) b = value_last (n * 10 + (d - 48)) ds b

pub decimal_reads : DecimalReads
unfolding value
decimal_reads =
    each (λ n. value 0 (decimal n) ≡ n)
    (λ n h. rw (decimal_small n h) (omega arith))
    (λ n h r. rw (decimal_more n h, value_last 0 (decimal (n / 10)) (48 + n % 10), r) (omega arith))

and_out : (p q : Bool) → p && q ≡ true → (p ≡ true) × (q ≡ true)
and_out true q e = (refl, e)
and_out false q e = (e, cc)

digits_last : (ds : List ℕ) (b : ℕ) → digits ds ≡ true → is_digit b ≡ true → digits (ds ++ (b ∷ [])) ≡ true
unfolding digits
digits_last [] b e h = rw h
digits_last (d ∷ ds) b e h =
    let p = and_out (is_digit d) (digits ds) e in
    rw (p.0, digits_last ds b p.1 h)

nonempty_last : (ds : List ℕ) (b : ℕ) → nonempty (ds ++ (b ∷ [])) ≡ true
nonempty_last [] b = refl
nonempty_last (d ∷ ds) b = refl

decimal_digits : (n : ℕ) → (nonempty (decimal n) ≡ true) × (digits (decimal n) ≡ true)
unfolding digits
decimal_digits =
    each (λ n. (nonempty (decimal n) ≡ true) × (digits (decimal n) ≡ true))
    (λ n h. (rw (decimal_small n h), rw (decimal_small n h, digit_in (48 + n) (omega arith) (omega arith))))
    (λ n h r. (
      rw (decimal_more n h) (nonempty_last (decimal (n / 10)) (48 + n % 10)),
      rw (decimal_more n h)
          (digits_last (decimal (n / 10)) (48 + n % 10) r.1 (digit_in (48 + n % 10) (omega arith) (omega arith))),
    ))

pub decimal_number : DecimalNumber
decimal_number n h = let p = decimal_digits n in rw (p.0, p.1, decimal_reads n, le-leb n LARGEST h)

lead_last : (ds : List ℕ) (b : ℕ) → 48 < get_or ds 0 0 → 48 < get_or (ds ++ (b ∷ [])) 0 0
lead_last [] b h = omega arith
lead_last (d ∷ ds) b h = h

pub decimal_leads : DecimalLeads
decimal_leads =
    each (λ n. 0 < n → 48 < get_or (decimal n) 0 0)
    (λ n h z. rw (decimal_small n h) (omega arith))
    (λ n h r z. rw (decimal_more n h) (lead_last (decimal (n / 10)) (48 + n % 10) (r (omega arith))))
