-- The kinds of field that calls have: a handle or a point by its number, the flag A or P, the flag S or K, and where to
-- commit: "E, L or point". Rests on Fields and the crate `types`.
use Rattle.std.specs.Prelude.{ℕ, cond, List, eqb}
use Prim.Native.Char.{code}
use Rattle.fields.specs.Fields.{Parsed, Malformed, number, letter_or}
use Rattle.types.specs.declared.Handle.{Handle}
use Rattle.types.specs.declared.Point.{Point}
use Rattle.types.specs.declared.Extent.{Extent}
use Rattle.types.specs.declared.Extent.TheVariants as X
use Rattle.types.specs.declared.Finish.{Finish}
use Rattle.types.specs.declared.Finish.TheVariants as F
use Rattle.types.specs.declared.Pick.{Pick}
use Rattle.types.specs.declared.Pick.TheVariants as K

abbrev pub Fields : Type 0
Fields = List (List ℕ)

-- what follows from a flag or a pick, and from the fields after it
abbrev pub ExtentNext : Type 0
ExtentNext = Extent → Fields → Parsed

abbrev pub FinishNext : Type 0
FinishNext = Finish → Fields → Parsed

abbrev pub PickNext : Type 0
PickNext = Pick → Fields → Parsed

abbrev pub handle : ℕ → Handle
handle n = record { 0 = n }

abbrev pub point : ℕ → Point
point n = record { 0 = n }

abbrev pub letter : Fields → (ℕ → Fields → Parsed) → Parsed
letter fs next = letter_or fs Malformed next

-- the flag A or P
unfoldable pub extent : Fields → ExtentNext → Parsed
extent fs next =
    letter fs
    (λ b rest. cond (eqb b (code "A")) (next X.All rest) (cond (eqb b (code "P")) (next X.Part rest) Malformed))

-- the flag S or K
unfoldable pub finish : Fields → FinishNext → Parsed
finish fs next =
    letter fs
    (λ b rest. cond (eqb b (code "S")) (next F.Settle rest) (cond (eqb b (code "K")) (next F.Keep rest) Malformed))

abbrev pub named : Fields → PickNext → Parsed
named fs next = number fs (λ p rest. next (K.Named (point p)) rest)

-- E, L or a point
unfoldable pub pick : Fields → PickNext → Parsed
pick fs next =
    letter_or fs (named fs next)
    (λ b rest. cond (eqb b (code "E")) (next K.Earliest rest)
    (cond (eqb b (code "L")) (next K.Latest rest) (named fs next)))
