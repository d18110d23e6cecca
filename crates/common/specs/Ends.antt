-- The two ends of all points: where the points low..high lie, by their distances from an end. Rests on Limits of the
-- crate `types`.
use Rattle.std.specs.Prelude.{ℕ, suc, ◌-◌, ◌≤◌, min}
use native.Mathlib.Omega.{arith}
use Rattle.types.specs.Limits.{LAST}

-- an end sees the points low..high at the distances near..far, and no others; point d is the point at distance d
pub record Sees (point : ℕ → ℕ) (near far : ℕ → ℕ → ℕ) : Type 0 where
  pub within : (d : ℕ) → 1 ≤ d → d ≤ LAST → point d ≤ LAST
  pub top : (low high : ℕ) → far low high ≤ LAST
  pub into : (low high d : ℕ) → 1 ≤ d → d ≤ LAST → low ≤ point d → point d ≤ high
      → (near low high ≤ d) × (d ≤ far low high)
  pub out : (low high d : ℕ) → 1 ≤ d → d ≤ LAST → near low high ≤ d → d ≤ far low high
      → (low ≤ point d) × (point d ≤ high)

-- from below: a point lies at its own number
abbrev pub low_near : ℕ → ℕ → ℕ
low_near low high = low

abbrev pub low_far : ℕ → ℕ → ℕ
low_far low high = min LAST high

pub low_sees : Sees (λ d. d) low_near low_far
low_sees =
    record {
      within = λ d a b. b;
      top = λ low high. omega arith;
      into = λ low high d a b f g. (f, omega arith);
      out = λ low high d a b f g. (f, omega arith);
    }

-- from above: a point lies as far below LAST + 1 as it is away
abbrev pub high_near : ℕ → ℕ → ℕ
high_near low high = suc LAST - high

abbrev pub high_far : ℕ → ℕ → ℕ
high_far low high = min LAST (suc LAST - low)

pub high_sees : Sees (λ d. suc LAST - d) high_near high_far
high_sees =
    record {
      within = λ d a b. omega arith;
      top = λ low high. omega arith;
      into = λ low high d a b f g. (omega arith, omega arith);
      out = λ low high d a b f g. (omega arith, omega arith);
    }
