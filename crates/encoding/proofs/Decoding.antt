-- A kind that no other call has is View; the call of a row is the one of its place. Rests on Encoding and Rows.
use Prim.Native.Nat.{ℕ, zero, suc, ◌≤◌, ◌<◌}
use native.Mathlib.Omega.{arith}
use mathlib.Core.Path.{◌≡◌, refl, sym, ap, ◌∙◌}
use mathlib.Core.List.{List, []}
use lib.ListN.{get_or, get_or-eq_default}
use Rattle.std.specs.Simd.{first_chunks}
use Rattle.types.specs.declared.Point.{Point}
use Rattle.types.specs.declared.Call.TheVariants.{View}
use Rattle.encoding.specs.Encoding.{CALL_WORDS, point_of, kinds, call_of, call_of_row, call_at}
use Rattle.encoding.proofs.Rows.{chunk_at, chunk_first}

-- none of the kinds below n
abbrev NoneBelow : ℕ → ℕ → Type 0
NoneBelow zero kind = Unit {0}
NoneBelow (suc n) kind = NoneBelow n kind × (kind ≡ n → ⊥)

above : (n kind : ℕ) → NoneBelow n kind → n ≤ kind
above zero kind r = omega arith
above (suc n) kind r = let h = above n kind r.0 in let d = r.1 in omega arith

pub other_kind : (kind first second third fourth fifth : ℕ) {p : Point} → NoneBelow 10 kind → p.0 ≡ second
    → View first p ≡ call_of kind first second third fourth fifth
unfolding call_of
other_kind kind first second third fourth fifth r e =
    ap (λ k. View first (point_of k)) e
    ∙ sym
    (get_or-eq_default (kinds first second third fourth fifth) (View first (point_of second)) (above 10 kind r))

pub row_at : (xs : List ℕ) (n i : ℕ) → i < n → call_of_row (get_or (first_chunks CALL_WORDS n xs) i []) ≡ call_at xs i
unfolding call_at
row_at xs n i h =
    let at = λ (k : ℕ) (l : k < CALL_WORDS). chunk_at CALL_WORDS n i k xs h l in
    rw (
      chunk_first CALL_WORDS n i xs h (omega arith),
      at 1 (omega arith),
      at 2 (omega arith),
      at 3 (omega arith),
      at 4 (omega arith),
      at 5 (omega arith),
    ) refl
