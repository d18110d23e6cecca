-- One test after the other, as code with early exits makes them: what a conjunction or a disjunction is once its first
-- test is known. Rests on nothing.
use mathlib.Core.Path.{◌≡◌, refl, ◌∙◌}
use mathlib.Core.Bool.{Bool, true, false, ◌&&◌, ◌||◌}

pub and_no : {a : Bool} (b : Bool) → a ≡ false → false ≡ (a && b)
and_no b e = rw e refl

pub and_on : {a b q : Bool} → a ≡ true → q ≡ b → q ≡ (a && b)
and_on p e = rw p e

pub or_yes : {a : Bool} (b : Bool) → a ≡ true → true ≡ (a || b)
or_yes b e = rw e refl

pub or_on : {a b q : Bool} → a ≡ false → q ≡ b → q ≡ (a || b)
or_on p e = rw p e

pub and_last : {b q : Bool} → q ≡ b → q ≡ (b && true)
and_last {b} e = e ∙ go b
  where
    go : (b : Bool) → b ≡ (b && true)
    go true = refl
    go false = refl
