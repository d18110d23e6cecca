-- The chains of a table as lists, Rep, and the one law of every mutation, rechain: two chains are changed over the same
-- rows, and the heads of the other chains and the links of their rows stay; then the other chains stay, and every row
-- is still on exactly one chain. Rests on Segments.
use Prim.Native.Nat.{ℕ, zero, suc, ◌+◌, ◌≤◌, ◌<◌}
use mathlib.Core.Path.{◌≡◌, refl, sym, ap, ◌∙◌}
use mathlib.Core.Bool.{true, false}
use mathlib.Core.List.{List}
use native.Mathlib.Omega.{arith}
use native.Mathlib.Decide.{ℕ_discrete, dec_le}
use lib.ListN.{length}
use lib.Dec.{eqb}
use borrow.Author.Tests.{eq-eqb, ne_eqb}
use Rattle.chains.specs.Lists.{occ, sum_to}
use Rattle.chains.specs.Walk.{IsRow}
use Rattle.chains.proofs.Bounded.{sum_ext, sum_le, sum_ge, sum_ge2, sum_two, sum_ones, sum_swap}
use Rattle.chains.proofs.Segments.{Seg, seg_in, seg_frame, occ_sum}

-- C k is chain k as a list: nx and hd are the links and the heads, rows are 1 to n, chains 0 to m - 1
pub record Rep (n m : ℕ) (nx hd : ℕ → ℕ) (C : ℕ → List ℕ) : Type 0 where
  pub segs : (k : ℕ) → k < m → Seg nx n (hd k) (C k) 0
  pub once : (i : ℕ) → i < n → sum_to m (λ k. occ (suc i) (C k)) ≡ 1

-- C with chain a made A and chain b made B
unfoldable pub put2 : (ℕ → List ℕ) → ℕ → List ℕ → ℕ → List ℕ → ℕ → List ℕ
put2 C a A b B j = elim (eqb j a) [ true ↦ A | false ↦ elim (eqb j b) [ true ↦ B | false ↦ C j ] ]

module _ (C : ℕ → List ℕ) (a : ℕ) (A : List ℕ) (b : ℕ) (B : List ℕ) where
  pub put2_a : put2 C a A b B a ≡ A
  unfolding put2
  put2_a = rw (eq-eqb a a refl, put2)

  pub put2_b : (a ≡ b → ⊥) → put2 C a A b B b ≡ B
  unfolding put2
  put2_b h = rw (ne_eqb b a (λ e. h (sym e)), put2) (rw (eq-eqb b b refl))

  pub put2_o : (j : ℕ) → (j ≡ a → ⊥) → (j ≡ b → ⊥) → put2 C a A b B j ≡ C j
  unfolding put2
  put2_o j h k = rw (ne_eqb j a h, put2) (rw (ne_eqb j b k))

module _ {n m : ℕ} {nx hd : ℕ → ℕ} {C : ℕ → List ℕ} (R : Rep n m nx hd C) where
  pub row_once : (x : ℕ) → IsRow n x → sum_to m (λ k. occ x (C k)) ≡ 1
  row_once zero h = absurd (omega (arith, h.low))
  row_once (suc i) h = R.once i (omega (arith, h.high))

  -- a row of one chain is not on another
  pub alone : (a b x : ℕ) → a < m → b < m → (a ≡ b → ⊥) → 1 ≤ occ x (C a) → occ x (C b) ≡ 0
  alone a b x h k d o =
      let r = seg_in nx n (C a) (hd a) 0 x (R.segs a h) o in
      omega (arith, row_once x r, sum_ge2 (λ j. occ x (C j)) m a b h k d)

  -- nor twice on its own
  pub single : (a x : ℕ) → a < m → occ x (C a) ≤ 1
  single a x h = elim (dec_le 1 (occ x (C a))) [
    | yes o ↦ (let r = seg_in nx n (C a) (hd a) 0 x (R.segs a h) o in
        omega (arith, row_once x r, sum_ge (λ j. occ x (C j)) m a h))
    | no o ↦ omega arith
  ]

  -- so a chain has no more rows than the table
  pub short : (a : ℕ) → a < m → length (C a) ≤ n
  short a h =
      omega
      (arith, occ_sum nx n (C a) (hd a) 0 (R.segs a h), sum_le (λ i. occ (suc i) (C a)) n (λ i l. single a (suc i) h))

  -- the law
  pub rechain : (nx' hd' : ℕ → ℕ) (a b : ℕ) (A B : List ℕ) → a < m → b < m → (a ≡ b → ⊥)
      → ((j : ℕ) → j < m → (j ≡ a → ⊥) → (j ≡ b → ⊥) → hd' j ≡ hd j)
      → ((x : ℕ) → IsRow n x → occ x (C a) ≡ 0 → occ x (C b) ≡ 0 → nx' x ≡ nx x)
      → Seg nx' n (hd' a) A 0 → Seg nx' n (hd' b) B 0
      → ((x : ℕ) → occ x A + occ x B ≡ occ x (C a) + occ x (C b))
      → Rep n m nx' hd' (put2 C a A b B)
  rechain nx' hd' a b A B ha hb d eh en sa sb eo = record {
    segs = λ k l. go k l (ℕ_discrete k a) (ℕ_discrete k b);
    once = λ i l. sum_two (λ k. occ (suc i) (put2 C a A b B k)) (λ k. occ (suc i) (C k)) m a b ha hb d
        (λ j p q. ap (occ (suc i)) (put2_o C a A b B j p q))
        (omega (arith, eo (suc i), ap (occ (suc i)) (put2_a C a A b B), ap (occ (suc i)) (put2_b C a A b B d)))
        ∙ R.once i l;
  }
    where
      go : (k : ℕ) → k < m → Dec (k ≡ a) → Dec (k ≡ b) → Seg nx' n (hd' k) (put2 C a A b B k) 0
      go k l (yes p) q = rw (p, put2_a C a A b B) sa
      go k l (no p) (yes q) = rw (q, put2_b C a A b B d) sb
      go k l (no p) (no q) = rw (put2_o C a A b B k p q, eh k l p q)
          (seg_frame nx n nx' (C k) (hd k) 0 (R.segs k l)
          (λ x o. en x (seg_in nx n (C k) (hd k) 0 x (R.segs k l) o) (alone k a x l ha p o) (alone k b x l hb q o)))

-- the lengths of all chains count the rows
pub lengths_of : (n m : ℕ) (nx hd : ℕ → ℕ) (C : ℕ → List ℕ) → ((k : ℕ) → k < m → Seg nx n (hd k) (C k) 0)
    → sum_to m (λ k. length (C k)) ≡ sum_to n (λ i. sum_to m (λ k. occ (suc i) (C k)))
lengths_of n m nx hd C s =
    sum_ext (λ k. length (C k)) (λ k. sum_to n (λ i. occ (suc i) (C k))) m
    (λ k l. sym (occ_sum nx n (C k) (hd k) 0 (s k l)))
    ∙ sum_swap (λ i k. occ (suc i) (C k)) m n

pub lengths : {n m : ℕ} {nx hd : ℕ → ℕ} {C : ℕ → List ℕ} → Rep n m nx hd C → sum_to m (λ k. length (C k)) ≡ n
lengths {n} {m} {nx} {hd} {C} R =
    lengths_of n m nx hd C R.segs ∙ sum_ones (λ i. sum_to m (λ k. occ (suc i) (C k))) n R.once
