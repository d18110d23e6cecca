-- Loops over the numbers below n that leave at the first one that fails, by `all` or by `for`. Rests on Bounded of
-- `chains`.
use Prim.Native.Nat.{ℕ, ◌+◌, ◌≤◌, ◌<◌}
use mathlib.Core.Path.{◌≡◌, refl, sym, ap, ◌∙◌}
use mathlib.Core.Bool.{Bool, true, false, false≢true}
use native.Mathlib.Omega.{arith}
use native.Mathlib.Numerals.{add-one}
use Rattle.chains.specs.Lists.{all_to}
use lib.ListN.{length, get_or}
use Rattle.std.specs.Prelude.{MatchBool}
use Rattle.std.specs.List.{AllWithin, HoldsAt, range_with_len}
use Rattle.std.proofs.lemmas.List.FromFn.{length-range_with_len, get_or-range_with_len}
use Rattle.chains.proofs.Bounded.{all_suc, all_at, all_all, bool_false}

pub record UpTo (f : ℕ → Bool) (n i : ℕ) : Type 0 where
  pub upto : i ≤ n
  pub sofar : all_to i f ≡ true

module _ {f : ℕ → Bool} {n : ℕ} where
  pub up_start : UpTo f n 0
  unfolding all_to
  up_start = record { upto = omega arith; sofar = refl }

  pub up_again : {i : ℕ} {b : Bool} → UpTo f n i → i < n → b ≡ f i → b ≡ true → UpTo f n (i + 1)
  up_again {i} v l e z = rw add-one (record { upto = omega arith; sofar = all_suc f i v.sofar (sym e ∙ z) })

  pub up_fail : {i : ℕ} {b : Bool} → UpTo f n i → i < n → b ≡ f i → b ≡ false → false ≡ all_to n f
  up_fail {i} v l e z = sym (bool_false (all_to n f) (λ h. false≢true (sym (sym e ∙ z) ∙ all_at f n i h l)))

  pub up_end : {i : ℕ} → UpTo f n i → n ≤ i → true ≡ all_to n f
  up_end {i} v l = let e : i ≡ n = omega (arith, v.upto) in sym v.sofar ∙ ap (λ k. all_to k f) e

-- what `all` answers over a range, from cases_from_all
pub all_ranged : (f : ℕ → Bool) (n : ℕ) (r : Bool)
    → MatchBool r
    (AllWithin (λ x. f x ≡ true) (range_with_len 0 n) 0 (length (range_with_len 0 n)))
    ((k : ℕ) × (k < length (range_with_len 0 n)) × HoldsAt (λ x. f x ≡ false) (range_with_len 0 n) k)
    → r ≡ all_to n f
all_ranged f n r h = go r h
  where
    at : (k : ℕ) → k < n → get_or (range_with_len 0 n) k 0 ≡ k
    at k l = omega (arith, get_or-range_with_len 0 n k 0 l)

    go : (r : Bool)
        → MatchBool r
        (AllWithin (λ x. f x ≡ true) (range_with_len 0 n) 0 (length (range_with_len 0 n)))
        ((k : ℕ) × (k < length (range_with_len 0 n)) × HoldsAt (λ x. f x ≡ false) (range_with_len 0 n) k)
        → r ≡ all_to n f
    go true h =
        sym (all_all f n (λ k l. ap f (sym (at k l))
        ∙ h k 0 (omega arith) (omega (arith, l, length-range_with_len 0 n))))
    go false h =
        let l : h.0 < n = omega (arith, h.1, length-range_with_len 0 n) in
        sym (bool_false (all_to n f) (λ e. false≢true (sym (ap f (sym (at h.0 l)) ∙ h.2 0) ∙ all_at f n h.0 e l)))
