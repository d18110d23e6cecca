-- What a test that the code makes says of the test that it stands for. Rests on nothing.
use mathlib.Core.Path.{◌≡◌, sym, ◌∙◌}
use mathlib.Core.Bool.{Bool, true, false}

-- an answer q, equal to the test b, was found false, or true
pub off : {q b : Bool} → q ≡ b → q ≡ false → b ≡ false
off e n = sym e ∙ n

pub on : {q b : Bool} → q ≡ b → q ≡ true → b ≡ true
on e n = sym e ∙ n
