-- A line that was appended from the start of a buffer is printed. Rests on specs/Shown.
use Prim.Native.Nat.{ℕ}
use mathlib.Core.Path.{◌≡◌, ap}
use mathlib.Core.List.{List}
use native.Mathlib.Omega.{arith}
use lib.ListN.{length, length-take}
use Rattle.replies.specs.declared.Line.{Line}
use Rattle.texts.specs.Parts.{Appended}
use Rattle.replies.specs.Shown.{shown}
use Rattle.printing.specs.Shown.{Printed}

-- a whole line, written from the start
pub printed : (l m : Line) {out₀ out : List ℕ} {end : ℕ} → l ≡ m → Appended out₀ 0 (shown m) out end → Printed l out end
printed l m {out₀} {out} {end} e p =
    let f = ap length p.wrote in
    let g = length-take end out in
    record { line = rw e p.wrote; ends = rw e (omega (arith, p.ends)); fits = omega (arith, p.ends) }
