-- How a line is gathered, byte by byte. Rests on nothing.
use Rattle.std.specs.Prelude.{ℕ, cond, List, [], ◌∷◌, ◌++◌, length, ltb}

-- the bytes of a line with one more, as far as there is room
unfoldable pub gathered : ℕ → List ℕ → ℕ → List ℕ
gathered room bytes b = cond (ltb (length bytes) room) (bytes ++ b ∷ []) bytes
