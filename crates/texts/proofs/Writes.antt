-- Writing bytes one after another into a buffer: one store, and two writes in a row. Rests on specs/Parts.
use Prim.Native.Nat.{ℕ, ◌+◌, ◌<◌}
use mathlib.Core.Path.{◌≡◌, refl, ◌∙◌, ap}
use mathlib.Core.List.{List, [], ◌∷◌, ◌++◌, append_assoc}
use native.Mathlib.Omega.{arith}
use native.Mathlib.Numerals.{add-one}
use lib.ListN.{length, take, set, length-append, length-set}
use lib.Seq.{take-suc-set}
use Rattle.texts.specs.Parts.{Appended}

pub put_appends : (s : List ℕ) (at b : ℕ) → at < length s → Appended s at (b ∷ []) (set s at b) (at + 1)
put_appends s at b h =
    record { wrote = rw (add-one at) (take-suc-set s at b h); ends = refl; long = length-set s at b }

pub appended_then : {a b c bs cs : List ℕ} {at i r : ℕ} → Appended a at bs b i → Appended b i cs c r
    → Appended a at (bs ++ cs) c r
appended_then {a} {b} {c} {bs} {cs} {at} p q =
    record {
      wrote = q.wrote ∙ ap (λ l. l ++ cs) p.wrote ∙ append_assoc (take at a) bs cs;
      ends = omega (arith, p.ends, q.ends, length-append bs cs);
      long = q.long ∙ p.long;
    }

pub appended_as : {a b bs cs : List ℕ} {at i r : ℕ} → Appended a at bs b i → bs ≡ cs → i ≡ r → Appended a at cs b r
appended_as {a} {b} {bs} {cs} {at} p e f =
    record { wrote = rw (← e, ← f) p.wrote; ends = rw (← e, ← f) p.ends; long = p.long }
