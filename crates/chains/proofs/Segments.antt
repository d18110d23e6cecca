-- A chain as a list: Seg nx n a rs b says that the links lead from a over the rows rs to b. It has no fuel, so lists
-- can be cut, joined and turned to another end. Bridges to rows and ends go both ways. Rests on Walks and Occurs.
use Prim.Native.Nat.{ℕ, zero, suc, ◌≤◌}
use mathlib.Core.Path.{◌≡◌, refl, sym, ap, ◌∙◌}
use mathlib.Core.Bool.{Bool, true, false}
use mathlib.Core.List.{List, [], ◌∷◌, ◌++◌}
use native.Mathlib.Omega.{arith}
use native.Mathlib.Decide.{ℕ_discrete}
use lib.ListN.{length}
use borrow.Author.Tests.{eq-eqb, eqb-true}
use Rattle.chains.specs.Lists.{occ, sum_to, first, last_or}
use Rattle.chains.specs.Walk.{among, IsRow, rows, ends}
use Rattle.chains.proofs.Bounded.{sum_one}
use Rattle.chains.proofs.Occurs.{occ_same, occ_other, occ_nil, occ_here, occ_there, last_in}
use Rattle.chains.proofs.Walks.{among_out, among_in, among_zero, rows_stop, rows_suc, ends_stop, ends_suc}

abbrev pub Seg : (ℕ → ℕ) → ℕ → ℕ → List ℕ → ℕ → Type 0
Seg nx n a [] b = a ≡ b
Seg nx n a (r ∷ rs) b = (a ≡ r) × (1 ≤ r) × (r ≤ n) × Seg nx n (nx r) rs b

module _ (nx : ℕ → ℕ) (n : ℕ) where
  pub seg_in : (rs : List ℕ) (a b x : ℕ) → Seg nx n a rs b → 1 ≤ occ x rs → IsRow n x
  seg_in [] a b x s h = absurd (omega (arith, occ_nil x))
  seg_in (r ∷ rs) a b x s h =
      elim (ℕ_discrete x r) [
        | yes p ↦ rw p (record { low = s.1; high = s.2 })
        | no p ↦ seg_in rs (nx r) b x s.3 (rw (occ_other x r rs p) at h)
      ]

  pub seg_frame : (nx' : ℕ → ℕ) (rs : List ℕ) (a b : ℕ) → Seg nx n a rs b → ((x : ℕ) → 1 ≤ occ x rs → nx' x ≡ nx x)
      → Seg nx' n a rs b
  seg_frame nx' [] a b s h = s
  seg_frame nx' (r ∷ rs) a b s h = (
    s.0,
    s.1,
    s.2,
    rw (h r (occ_here r rs)) (seg_frame nx' rs (nx r) b s.3 (λ x k. h x (omega (arith, occ_there x r rs)))),
  )

  pub seg_append : (xs ys : List ℕ) (a b c : ℕ) → Seg nx n a xs b → Seg nx n b ys c → Seg nx n a (xs ++ ys) c
  seg_append [] ys a b c s u = rw s u
  seg_append (x ∷ xs) ys a b c s u = (s.0, s.1, s.2, seg_append xs ys (nx x) b c s.3 u)

  pub seg_rows : (rs : List ℕ) (f a : ℕ) → Seg nx n a rs 0 → length rs ≤ f
      → (rows nx n f a ≡ rs) × (ends nx n f a ≡ true)
  seg_rows [] f a s h =
      let e : among n a ≡ false = ap (among n) s ∙ among_zero n in
      (rows_stop nx n f a e, ends_stop nx n f a e ∙ eq-eqb a 0 s)
  seg_rows (r ∷ rs) zero a s h = absurd (omega arith)
  seg_rows (r ∷ rs) (suc f) a s h =
      let ih = seg_rows rs f (nx r) s.3 (omega arith) in
      let e : among n r ≡ true = among_in n r (record { low = s.1; high = s.2 }) in
      rw s.0 (rows_suc nx n f r e ∙ ap (λ l. r ∷ l) ih.0, ends_suc nx n f r e ∙ ih.1)

  pub rows_seg : (f a : ℕ) → ends nx n f a ≡ true → Seg nx n a (rows nx n f a) 0
  unfolding rows ends
  rows_seg zero a e = eqb-true a 0 e
  rows_seg (suc f) a e = go (among n a) refl (rows_seg f (nx a))
    where
      go : (b : Bool) → among n a ≡ b → (ends nx n f (nx a) ≡ true → Seg nx n (nx a) (rows nx n f (nx a)) 0)
          → Seg nx n a (rows nx n (suc f) a) 0
      go true d ih =
          rw (rows_suc nx n f a d)
          (refl, (among_out n a d).low, (among_out n a d).high, ih (sym (ends_suc nx n f a d) ∙ e))
      go false d ih = rw (rows_stop nx n (suc f) a d) (eqb-true a 0 (sym (ends_stop nx n (suc f) a d) ∙ e))

  pub seg_split : (xs ys : List ℕ) (a c : ℕ) → Seg nx n a (xs ++ ys) c → (b : ℕ) × Seg nx n a xs b × Seg nx n b ys c
  seg_split [] ys a c s = (a, refl, s)
  seg_split (x ∷ xs) ys a c s = let q = seg_split xs ys (nx x) c s.3 in (q.0, (s.0, s.1, s.2, q.1), q.2)

  -- a segment turned from b to b' at its last row
  pub retarget : (nx' : ℕ → ℕ) (k : ℕ) (ks : List ℕ) (a b b' : ℕ) → Seg nx n a (k ∷ ks) b
      → ((x : ℕ) → occ x (k ∷ ks) ≤ 1) → nx' (last_or k ks) ≡ b'
      → ((x : ℕ) → 1 ≤ occ x (k ∷ ks) → (x ≡ last_or k ks → ⊥) → nx' x ≡ nx x) → Seg nx' n a (k ∷ ks) b'
  unfolding last_or
  retarget nx' k [] a b b' s o e f = (s.0, s.1, s.2, e)
  retarget nx' k (x ∷ ks) a b b' s o e f =
      let d : k ≡ last_or x ks → ⊥ =
      λ q. (let i : 1 ≤ occ k (x ∷ ks) = rw q (last_in x ks) in omega (arith, o k, occ_same k (x ∷ ks))) in (
        s.0,
        s.1,
        s.2,
        rw (f k (occ_here k (x ∷ ks)) d)
            (retarget nx' x ks (nx k) b b' s.3 (λ y. omega (arith, o y, occ_there y k (x ∷ ks))) e
            (λ y i q. f y (omega (arith, occ_there y k (x ∷ ks))) q)),
      )

  pub seg_first : (rs : List ℕ) (a : ℕ) → Seg nx n a rs 0 → a ≡ first rs
  unfolding first
  seg_first [] a s = s
  seg_first (r ∷ rs) a s = s.0

  -- where a segment's last row leads
  pub seg_last : (k : ℕ) (ks : List ℕ) (a b : ℕ) → Seg nx n a (k ∷ ks) b → nx (last_or k ks) ≡ b
  unfolding last_or
  seg_last k [] a b s = s.3
  seg_last k (x ∷ ks) a b s = seg_last x ks (nx k) b s.3

-- how often the rows 1 to n stand in a segment makes its length
none : (k : ℕ) → sum_to k (λ i. occ (suc i) []) ≡ 0
unfolding sum_to
none zero = refl
none (suc k) = omega (arith, none k, occ_nil (suc k))

pub occ_sum : (nx : ℕ → ℕ) (n : ℕ) (rs : List ℕ) (a b : ℕ) → Seg nx n a rs b
    → sum_to n (λ i. occ (suc i) rs) ≡ length rs
occ_sum nx n [] a b s = none n
occ_sum nx n (zero ∷ rs) a b s = absurd (omega (arith, s.1))
occ_sum nx n (suc r ∷ rs) a b s =
    let u =
    sum_one (λ i. occ (suc i) (suc r ∷ rs)) (λ i. occ (suc i) rs) n r (omega (arith, s.2))
    (λ j p. occ_other (suc j) (suc r) rs (λ e. p (omega arith))) in
    omega (arith, u, occ_same (suc r) rs, occ_sum nx n rs (nx (suc r)) b s.3)
