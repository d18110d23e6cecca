-- A line is collected whole: once there is room, it fits. Rests on specs/Run.
use Prim.Native.Nat.{ℕ, ◌-◌, ◌≤◌, ◌<◌}
use native.Mathlib.Omega.{arith}
use mathlib.Core.Path.{◌≡◌, refl, ◌∙◌}
use mathlib.Core.Bool.{Bool, true, false, cond}
use mathlib.Core.List.{List, [], ◌∷◌, ◌++◌, append_assoc}
use lib.ListN.{length, take, length-append}
use lib.Dec.{leb}
use borrow.Author.Rules.{rules}
use borrow.Author.Tests.{leb-true, lt-ltb}
use Rattle.std.proofs.lemmas.List.{take_all}
use Rattle.replies.specs.declared.Line.{Line}
use Rattle.replies.specs.Shown.{shown}
use Rattle.gathering.specs.Gathered.{gathered}
use Rattle.printing.specs.Shown.{WIDTH}
use Rattle.script.specs.Run.{BUFFER, WHOLE, NEWLINE, with_room, collected}

short : (ready : List ℕ) (n : ℕ) (b : Bool) → leb (length ready) n ≡ b → length (cond b ready []) ≤ n
short ready n true e = leb-true (length ready) n e
short ready n false e = search rules

pub collects : (room : ℕ) (old ready text out whole : List ℕ) (l : Line) → ready ≡ with_room old → text ≡ shown l
    → length text ≤ WIDTH → out ≡ take room (ready ++ text) → whole ≡ gathered room out NEWLINE → room ≡ BUFFER
    → whole ≡ collected old l
unfolding gathered
collects room old ready text out whole l e f h g k b =
    let s = short old (BUFFER - WHOLE) (leb (length old) (BUFFER - WHOLE)) refl in
    let r : length ready ≤ BUFFER - WHOLE = rw e s in
    let a = length-append ready text in
    let o : out ≡ ready ++ text = g ∙ take_all room (ready ++ text) (omega (arith, a, r, h, b)) in
    let n : length out < room = rw o (omega (arith, a, r, h, b)) in
    k ∙ rw (lt-ltb (length out) room n, o, e, f) (append_assoc (with_room old) (shown l) (NEWLINE ∷ []))
