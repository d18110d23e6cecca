-- The parts of a line: the decimal digits of a number, a value ("A never written value prints `-`"), and a word with
-- what follows it. Rests on Text and the type Value.
use Rattle.std.specs.Prelude.{ℕ, zero, suc, ◌+◌, ◌/◌, ◌%◌, cond, ltb, List, [], ◌∷◌, ◌++◌}
use Rattle.std.specs.Prelude.{Some, None, ◌≡◌, length, take}
use Rattle.types.specs.Values.{Value}
use Rattle.texts.specs.Text.{SPACE, text}

-- the decimal digits of n, in k steps at most
unfoldable pub digits_of : ℕ → ℕ → List ℕ
digits_of zero n = []
digits_of (suc k) n = cond (ltb n 10) ((48 + n) ∷ []) (digits_of k (n / 10) ++ ((48 + n % 10) ∷ []))

-- the decimal digits of n, without leading zeros; n + 1 steps are always enough
unfoldable pub decimal : ℕ → List ℕ
decimal n = digits_of (suc n) n

unfoldable pub value_text : Value → List ℕ
value_text None = text "-"
value_text (Some v) = decimal v

-- a word, then one number or two, or a value after them
unfoldable pub one : List ℕ → ℕ → List ℕ
one w n = w ++ decimal n

unfoldable pub two : List ℕ → ℕ → ℕ → List ℕ
two w n m = one w n ++ SPACE ∷ decimal m

unfoldable pub one_value : List ℕ → ℕ → Value → List ℕ
one_value w n v = one w n ++ SPACE ∷ value_text v

unfoldable pub two_value : List ℕ → ℕ → ℕ → Value → List ℕ
two_value w n m v = two w n m ++ SPACE ∷ value_text v

-- what a function that writes bytes from a position does: they follow what stood before it, and it answers where they
-- end
pub record Appended (before : List ℕ) (at : ℕ) (bs : List ℕ) (after : List ℕ) (end : ℕ) : Type 0 where
  pub wrote : take end after ≡ take at before ++ bs
  pub ends : end ≡ at + length bs
  pub long : length after ≡ length before
