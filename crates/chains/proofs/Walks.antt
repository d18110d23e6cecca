-- Steps of a walk over any next function: what the rows met are where the code goes on, and where it stops. Rests on
-- Bounded.
use Prim.Native.Nat.{ℕ, zero, suc, ◌-◌, ◌≤◌}
use mathlib.Core.Path.{◌≡◌, refl, sym, ◌∙◌}
use mathlib.Core.Bool.{Bool, true, false}
use mathlib.Core.List.{[], ◌∷◌}
use native.Mathlib.Omega.{arith}
use lib.ListN.{length}
use lib.Dec.{leb, eqb}
use borrow.Author.Tests.{leb-true, le-leb}
use Rattle.chains.specs.Walk.{among, IsRow, more, rows, ends}
use Rattle.chains.proofs.Bounded.{both_true}

pub among_out : (n h : ℕ) → among n h ≡ true → IsRow n h
unfolding among
among_out n h e =
    let b = both_true (leb 1 h) (leb h n) e in record { low = leb-true 1 h b.0; high = leb-true h n b.1 }

pub among_in : (n h : ℕ) → IsRow n h → among n h ≡ true
unfolding among
among_in n h r = rw (le-leb 1 h r.low, le-leb h n r.high)

pub among_zero : (n : ℕ) → among n 0 ≡ false
unfolding among
among_zero n = refl

-- what the code's test finds out
pub more_none : (n f h : ℕ) → f ≡ 0 → more n f h ≡ false
unfolding more
more_none n f h e = rw e

pub more_zero : (n f h : ℕ) → 1 ≤ f → h ≡ 0 → more n f h ≡ false
unfolding more among
more_zero n f h p e = rw (le-leb 1 f p, e)

pub more_leb : (n f h : ℕ) → 1 ≤ f → 1 ≤ h → more n f h ≡ leb h n
unfolding more among
more_leb n f h p q = rw (le-leb 1 f p, le-leb 1 h q)

pub more_in : (n f h : ℕ) → 1 ≤ f → IsRow n h → more n f h ≡ true
more_in n f h p r = more_leb n f h p r.low ∙ le-leb h n r.high

-- the walk goes on: there is fuel, and h is a row
pub record More (n f h : ℕ) : Type 0 where
  pub fuel : 1 ≤ f
  pub row : IsRow n h

pub more_out : (n f h : ℕ) {r : Bool} → r ≡ more n f h → r ≡ true → More n f h
unfolding more
more_out n f h d e =
    let b = both_true (leb 1 f) (among n h) (sym d ∙ e) in
    record { fuel = leb-true 1 f b.0; row = among_out n h b.1 }

pub row_of : (n f h : ℕ) {r : Bool} → r ≡ more n f h → r ≡ true → IsRow n h
row_of n f h d e = (more_out n f h d e).row

pub fuel_of : (n f h : ℕ) {r : Bool} → r ≡ more n f h → r ≡ true → 1 ≤ f
fuel_of n f h d e = (more_out n f h d e).fuel

module _ (nx : ℕ → ℕ) (n : ℕ) where
  pub rows_stop : (f h : ℕ) → among n h ≡ false → rows nx n f h ≡ []
  unfolding rows
  rows_stop zero h e = refl
  rows_stop (suc f) h e = rw (e, rows)

  pub ends_stop : (f h : ℕ) → among n h ≡ false → ends nx n f h ≡ eqb h 0
  unfolding ends
  ends_stop zero h e = refl
  ends_stop (suc f) h e = rw (e, ends)

  pub rows_suc : (f h : ℕ) → among n h ≡ true → rows nx n (suc f) h ≡ h ∷ rows nx n f (nx h)
  unfolding rows
  rows_suc f h e = rw (e, rows)

  pub ends_suc : (f h : ℕ) → among n h ≡ true → ends nx n (suc f) h ≡ ends nx n f (nx h)
  unfolding ends
  ends_suc f h e = rw (e, ends)

  -- a step, as the code takes it
  pub record Step (f h : ℕ) : Type 0 where
    pub row : rows nx n f h ≡ h ∷ rows nx n (f - 1) (nx h)
    pub end : ends nx n f h ≡ ends nx n (f - 1) (nx h)

  pub step : (f h : ℕ) {r : Bool} → r ≡ more n f h → r ≡ true → Step f h
  step zero h d e = absurd (omega (arith, fuel_of n 0 h d e))
  step (suc f) h d e =
      let a = among_in n h (row_of n (suc f) h d e) in
      let k : suc f - 1 ≡ f = omega arith in
      record { row = rw k (rows_suc f h a); end = rw k (ends_suc f h a) }

  -- the stop
  pub record Stop (f h : ℕ) : Type 0 where
    pub row : rows nx n f h ≡ []
    pub end : ends nx n f h ≡ eqb h 0

  pub stop : (f h : ℕ) {r : Bool} → r ≡ more n f h → r ≡ false → Stop f h
  unfolding more rows ends
  stop zero h d e = record { row = refl; end = refl }
  stop (suc f) h d e =
      let a : among n h ≡ false = rw (le-leb 1 (suc f) (omega arith)) at (sym d ∙ e) in
      record { row = rows_stop (suc f) h a; end = ends_stop (suc f) h a }

  -- a walk meets no more rows than it has fuel
  pub rows_length : (f h : ℕ) → length (rows nx n f h) ≤ f
  unfolding rows
  rows_length zero h = omega arith
  rows_length (suc f) h = go (among n h) refl (rows_length f (nx h))
    where
      go : (b : Bool) → among n h ≡ b → length (rows nx n f (nx h)) ≤ f → length (rows nx n (suc f) h) ≤ suc f
      go true e ih = rw (rows_suc f h e) (omega arith)
      go false e ih = rw (rows_stop (suc f) h e) (omega arith)
