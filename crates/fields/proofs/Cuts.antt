-- Where the first space lies, the first field ends and the others begin. Rests on specs/Fields and specs/Reads.
use Prim.Native.Nat.{ℕ, suc, ◌+◌, ◌-◌, ◌≤◌}
use mathlib.Core.Path.{◌≡◌, refl, ap, subst}
use mathlib.Core.Bool.{Bool, true, false, cond}
use mathlib.Core.List.{List, [], ◌∷◌}
use native.Mathlib.Omega.{arith}
use native.Mathlib.Numerals.{add-one}
use lib.ListN.{take, drop}
use Rattle.std.proofs.lemmas.List.{take_rest}
use Rattle.std.specs.Prelude.{Option, Some, None}
use Rattle.std.specs.List.{position_from}
use Rattle.fields.specs.Fields.{fields, first, others}
use Rattle.fields.specs.Reads.{is_space}

-- the first field ends at i, where a space is
record Cut (s : List ℕ) (i : ℕ) : Type 0 where
  field : first s ≡ take i s
  after : others s ≡ fields (drop (suc i) s)

-- the same, where the places count from k
record CutFrom (k : ℕ) (s : List ℕ) (j : ℕ) : Type 0 where
  low : k ≤ j
  cut : Cut s (j - k)

cut_here : (k j b : ℕ) (bs : List ℕ) → is_space b ≡ true → k ≡ j → CutFrom k (b ∷ bs) j
unfolding first others
cut_here k j b bs t e =
    let z : j - k ≡ 0 = omega arith in
    record { low = omega arith; cut = record { field = rw (t, z); after = rw (t, z) } }

cut_later : (k j b : ℕ) (bs : List ℕ) → is_space b ≡ false → CutFrom (k + 1) bs j → CutFrom k (b ∷ bs) j
unfolding first others
cut_later k j b bs t c =
    let z : j - k ≡ suc (j - (k + 1)) = omega (arith, c.low) in
    record {
      low = omega (arith, c.low);
      cut = record { field = rw (t, z) (ap (λ f. b ∷ f) c.cut.field); after = rw (t, z) c.cut.after };
    }

some_same : (k j : ℕ) → Some k ≡ Some j → k ≡ j
some_same k j e = cc

cut_by : (k j b : ℕ) (bs : List ℕ) (o : Option ℕ) (q : Bool) → is_space b ≡ q → cond q (Some k) o ≡ Some j
    → (o ≡ Some j → CutFrom (k + 1) bs j)
    → CutFrom k (b ∷ bs) j
cut_by k j b bs o true t e c = cut_here k j b bs t (some_same k j e)
cut_by k j b bs o false t e c = cut_later k j b bs t (c e)

cut_from : (k j : ℕ) (s : List ℕ) → position_from is_space k s ≡ Some j → CutFrom k s j
cut_from k j [] e = cc
cut_from k j (b ∷ bs) e =
    cut_by k j b bs (position_from is_space (k + 1) bs) (is_space b) refl e (cut_from (k + 1) j bs)

cut_at : (s : List ℕ) (i : ℕ) → position_from is_space 0 s ≡ Some i → Cut s i
cut_at s i e = let z : i - 0 ≡ i = omega arith in subst (λ (k : ℕ). Cut s k) z (cut_from 0 i s e).cut

pub first_at : (s : List ℕ) (i : ℕ) → position_from is_space 0 s ≡ Some i → first s ≡ take i s
first_at s i e = (cut_at s i e).field

pub others_at : (s : List ℕ) (i : ℕ) → position_from is_space 0 s ≡ Some i → others s ≡ fields (drop (i + 1) s)
others_at s i e = rw (add-one i) (cut_at s i e).after

-- with no space, the one field is the whole
record Whole (s : List ℕ) : Type 0 where
  field : first s ≡ s
  after : others s ≡ []

whole_by : (k b : ℕ) (bs : List ℕ) (o : Option ℕ) (q : Bool) → is_space b ≡ q → cond q (Some k) o ≡ None
    → (o ≡ None → Whole bs)
    → Whole (b ∷ bs)
unfolding first others
whole_by k b bs o true t e w = cc
whole_by k b bs o false t e w = record { field = rw t (ap (λ f. b ∷ f) (w e).field); after = rw t (w e).after }

whole : (k : ℕ) (s : List ℕ) → position_from is_space k s ≡ None → Whole s
unfolding first others
whole k [] e = record { field = refl; after = refl }
whole k (b ∷ bs) e = whole_by k b bs (position_from is_space (k + 1) bs) (is_space b) refl e (whole (k + 1) bs)

pub first_whole : (s : List ℕ) → position_from is_space 0 s ≡ None → first s ≡ s
first_whole s e = (whole 0 s e).field

pub others_none : (s : List ℕ) → position_from is_space 0 s ≡ None → others s ≡ []
others_none s e = (whole 0 s e).after

-- what `Fields::field` asks for
pub ruleset cuts = (first_at, others_at, first_whole, others_none, take_rest)
