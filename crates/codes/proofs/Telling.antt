-- The reply that is told is the one promised, and what its numbers name. Rests on Codes.
use Prim.Native.Nat.{ℕ}
use mathlib.Core.Path.{◌≡◌, sym, ap}
use mathlib.Core.List.{List}
use Rattle.types.specs.Replies.{Reply}
use Rattle.types.specs.Numbers.{pointing}
use Rattle.types.specs.declared.Point.{Point}
use Rattle.types.specs.declared.Pick.TheVariants.{Named}
use Rattle.codes.specs.Codes.{Tells, Answers, named}

-- the reply told is the reply promised
pub answered : {Promise : Reply → Type 0} {r : Reply} {n : ℕ} {held left : List ℕ} → Tells r n held left → Promise r
    → Answers Promise n held left
answered t p = record { reply = _; kept = p; told = t }

-- a point made of a reading and a seat that are those numbers
pub made : {r : Reply} {a a' b b' : ℕ} → a ≡ a' → b ≡ b' → r ≡ pointing a b → r ≡ pointing a' b'
made e f p = rw (sym e, sym f) p

-- a point that is that number, named
pub named_at : {p : Point} {n : ℕ} → p.0 ≡ n → Named p ≡ named n
named_at e = ap named e
