-- The loop over a record's versions, which keeps the last point met. Rests on Steps.
use Prim.Native.Nat.{ℕ}
use mathlib.Core.Path.{◌≡◌, refl, sym, ap, ◌∙◌}
use mathlib.Core.Bool.{Bool, true, false}
use mathlib.Core.List.{List, [], ◌∷◌}
use Rattle.types.specs.declared.Version.{Version}
use Rattle.clauses.specs.Clauses.{falls_below, ends_on, falls_to}
use Rattle.clauses.proofs.Steps.{and_no, and_on}

module _ (floor top : ℕ) (v : Version) (vs : List Version) {b : Bool} (d : b ≡ falls_below floor top v.point) where
  fall_cons : b ≡ true → falls_to floor top (v ∷ vs) ≡ falls_to floor v.point vs
  unfolding falls_to
  fall_cons z = sym (and_on (sym d ∙ z) refl)

  fall_stop : b ≡ false → falls_to floor top (v ∷ vs) ≡ false
  unfolding falls_to
  fall_stop z = sym (and_no (falls_to floor v.point vs) (sym d ∙ z))

fall_nil : (floor top : ℕ) → falls_to floor top [] ≡ ends_on floor top
unfolding falls_to
fall_nil floor top = refl

-- the versions vs are still to come; v is the next, b whether it falls below top
module _ (floor top : ℕ) {vs : List Version} {answer : Bool} (i : falls_to floor top vs ≡ answer) where
  pub fall_done : vs ≡ [] → ends_on floor top ≡ answer
  fall_done e = sym (ap (falls_to floor top) e ∙ fall_nil floor top) ∙ i

  module _ {v : Version} {rest : List Version} {b : Bool} (e : vs ≡ v ∷ rest)
      (d : b ≡ falls_below floor top v.point) where
    pub fall_on : b ≡ true → falls_to floor v.point rest ≡ answer
    fall_on z = sym (ap (falls_to floor top) e ∙ fall_cons floor top v rest d z) ∙ i

    pub fall_out : b ≡ false → false ≡ answer
    fall_out z = sym (ap (falls_to floor top) e ∙ fall_stop floor top v rest d z) ∙ i
