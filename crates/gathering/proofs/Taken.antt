-- Bytes put after those that are held: one more, if there is room, and as many as there is room for. Assumes nothing.
use Prim.Native.Nat.{ℕ, ◌+◌, ◌-◌, ◌≤◌, ◌<◌, min}
use native.Mathlib.Numerals.{add-one}
use native.Mathlib.Omega.{arith}
use mathlib.Core.Path.{◌≡◌, sym, ap, ◌∙◌}
use mathlib.Core.Bool.{Bool, cond}
use mathlib.Core.List.{List, [], ◌∷◌, ◌++◌}
use lib.ListN.{length, take, set}
use lib.Dec.{ltb}
use lib.Seq.{length-take-le, take-suc-set, take-append-add, take_at}
use borrow.Author.Tests.{lt-ltb, le-ltb}
use Rattle.std.proofs.lemmas.List.{take_min}
use Rattle.gathering.specs.Gathered.{gathered}

chosen : (room : ℕ) (line : List ℕ) (held b : ℕ) {t : Bool} → held ≤ length line → ltb held room ≡ t
    → gathered room (take held line) b ≡ cond t (take held line ++ b ∷ []) (take held line)
unfolding gathered
chosen room line held b h e =
    ap (λ u. cond u (take held line ++ b ∷ []) (take held line))
    (ap (λ k. ltb k room) (length-take-le held line h) ∙ e)

pub full : (room : ℕ) (line : List ℕ) (held b : ℕ) → length line ≡ room → held ≤ room → room ≤ held
    → take held line ≡ gathered room (take held line) b
full room line held b l h g = sym (chosen room line held b (omega (arith, l, h)) (le-ltb _ _ g))

pub added : (room : ℕ) (line : List ℕ) (held b : ℕ) → length line ≡ room → held < room
    → take (held + 1) (set line held b) ≡ gathered room (take held line) b
added room line held b l h =
    ap (λ k. take k (set line held b)) (add-one held) ∙ take-suc-set line held b (omega (arith, l, h))
    ∙ sym (chosen room line held b (omega (arith, l, h)) (lt-ltb _ _ h))

pub appended : (room : ℕ) (line bs rest : List ℕ) (held n : ℕ) → length line ≡ room → held ≤ room
    → n ≡ min (length bs) (room - held)
    → take (held + n) (take held line ++ (take n bs ++ rest)) ≡ take room (take held line ++ bs)
appended room line bs rest held n l h e =
    let k = length-take-le held line (omega (arith, l, h)) in
    let there : n ≡ min (room - held) (length bs) = omega (arith, e) in
    ap (λ j. take j (take held line ++ (take n bs ++ rest))) (omega (arith, k))
    ∙ take-append-add (take held line) (take n bs ++ rest) n
    ∙ ap (λ x. take held line ++ x)
    (take_at (take n bs) rest n (length-take-le n bs (omega (arith, e))) ∙ ap (λ j. take j bs) there
    ∙ take_min (room - held) bs)
    ∙ sym (take-append-add (take held line) bs (room - held))
    ∙ ap (λ j. take j (take held line ++ bs)) (omega (arith, k, h))
