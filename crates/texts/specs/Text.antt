-- The bytes of a text, so that definitions and examples can quote document 01. Rests on nothing.
use Rattle.std.specs.Prelude.{ℕ}
use Prim.Native.Char.{code}
use Prim.Native.String.{String, [], ◌∷◌}
use mathlib.Core.List as List

abbrev pub text : String → List.List ℕ
text [] = List.[]
text (c ∷ s) = List.◌∷◌ (code c) (text s)

-- the byte between fields
abbrev pub SPACE : ℕ
SPACE = 32

-- the largest number, 2^64 - 1
abbrev pub LARGEST : ℕ
LARGEST = 18446744073709551615
