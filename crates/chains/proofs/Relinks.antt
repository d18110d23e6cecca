-- The two uses of the law: a row is unlinked, a row is inserted. Both store three words, Relinked: what follows place p
-- of chain a, what follows row r, and chain b's head. Rests on Chains.
use Prim.Native.Nat.{ℕ, ◌+◌, ◌≤◌, ◌<◌}
use mathlib.Core.Path.{◌≡◌, refl, sym, ap, ◌∙◌}
use mathlib.Core.List.{List, [], ◌∷◌, ◌++◌}
use native.Mathlib.Omega.{arith}
use Rattle.chains.specs.Lists.{occ, first, last_or}
use Rattle.chains.specs.Walk.{IsRow}
use Rattle.chains.proofs.Occurs.{occ_same, occ_here, occ_there, occ_append, occ_swap, last_in, last_occ}
use Rattle.chains.proofs.Segments.{Seg, seg_in, seg_frame, seg_append, seg_split, retarget, seg_first, seg_last}
use Rattle.chains.proofs.Chains.{Rep, put2, alone, single, rechain}

-- x follows place p of chain a, y follows row r, z is chain b's head; no other head and no other row's link is changed
pub record Relinked (n m : ℕ) (nx hd nx' hd' : ℕ → ℕ) (a b p r x y z : ℕ) : Type 0 where
  pub start : p ≡ 0 → hd' a ≡ x
  pub later : (p ≡ 0 → ⊥) → (hd' a ≡ hd a) × (nx' p ≡ x)
  pub row : nx' r ≡ y
  pub head : hd' b ≡ z
  pub heads : (j : ℕ) → j < m → (j ≡ a → ⊥) → (j ≡ b → ⊥) → hd' j ≡ hd j
  pub links : (v : ℕ) → IsRow n v → (v ≡ r → ⊥) → (v ≡ p → ⊥) → nx' v ≡ nx v

not_in : (v r : ℕ) (xs : List ℕ) → 1 ≤ occ v xs → occ r xs ≡ 0 → v ≡ r → ⊥
not_in v r xs o z e = let y : occ r xs ≡ occ v xs = ap (λ k. occ k xs) (sym e) in omega arith

module _ {n m : ℕ} {nx hd : ℕ → ℕ} {C : ℕ → List ℕ} (R : Rep n m nx hd C) {nx' hd' : ℕ → ℕ} {a b r x y z : ℕ}
    (ks : List ℕ) (L : Relinked n m nx hd nx' hd' a b (last_or 0 ks) r x y z) where
  -- the front of chain a, up to place p, now leads to x
  turned : (zs : List ℕ) → a < m → C a ≡ ks ++ zs → occ r ks ≡ 0 → Seg nx' n (hd' a) ks x
  unfolding last_or
  turned zs ha e o = go ks refl L.start L.later L.links
    where
      go : (ls : List ℕ) → ks ≡ ls → (last_or 0 ls ≡ 0 → hd' a ≡ x)
          → ((last_or 0 ls ≡ 0 → ⊥) → (hd' a ≡ hd a) × (nx' (last_or 0 ls) ≡ x))
          → ((v : ℕ) → IsRow n v → (v ≡ r → ⊥) → (v ≡ last_or 0 ls → ⊥) → nx' v ≡ nx v) → Seg nx' n (hd' a) ls x
      go [] el c0 c1 f = c0 refl
      go (k ∷ ls) el c0 c1 f =
          let q = seg_split nx n (k ∷ ls) zs (hd a) 0 (rw (e, el) at (R.segs a ha)) in
          let low = seg_in nx n (k ∷ ls) (hd a) q.0 (last_or k ls) q.1 (last_in k ls) in
          let c = c1 (λ w. omega (arith, low.low)) in
          rw c.0 (retarget nx n nx' k ls (hd a) q.0 x q.1
          (λ v. omega (arith, single R a v ha, ap (occ v) e ∙ ap (λ l. occ v (l ++ zs)) el, occ_append v (k ∷ ls) zs))
          c.1
          (λ v i j. f v (seg_in nx n (k ∷ ls) (hd a) q.0 v q.1 i) (not_in v r (k ∷ ls) i (rw el at o)) j))

  -- a row that is on neither touched part keeps its link
  other : (v : ℕ) → IsRow n v → (1 ≤ v → v ≡ r → ⊥) → (1 ≤ v → occ v ks ≡ 0) → nx' v ≡ nx v
  other v i d o = L.links v i (d i.low) (λ e. omega (arith, o i.low, last_occ ks v i.low e))

module _ {n m : ℕ} {nx hd : ℕ → ℕ} {C : ℕ → List ℕ} (R : Rep n m nx hd C) (a : ℕ) (ks : List ℕ) (ha : a < m) where
  -- what follows place p of chain a is the first row of the rest
  pub pointed : (ys : List ℕ) → C a ≡ ks ++ ys
      → (last_or 0 ks ≡ 0 → hd a ≡ first ys) × ((last_or 0 ks ≡ 0 → ⊥) → nx (last_or 0 ks) ≡ first ys)
  unfolding last_or
  pointed ys e = go ks (rw e at (R.segs a ha))
    where
      go : (ls : List ℕ) → Seg nx n (hd a) (ls ++ ys) 0
          → (last_or 0 ls ≡ 0 → hd a ≡ first ys) × ((last_or 0 ls ≡ 0 → ⊥) → nx (last_or 0 ls) ≡ first ys)
      go [] s = ((λ q. seg_first nx n ys (hd a) s), (λ q. absurd (q refl)))
      go (k ∷ ls) s =
          let q = seg_split nx n (k ∷ ls) ys (hd a) 0 s in
          let low = seg_in nx n (k ∷ ls) (hd a) q.0 (last_or k ls) q.1 (last_in k ls) in (
            (λ u. absurd (omega (arith, low.low))),
            (λ u. seg_last nx n k ls (hd a) q.0 q.1 ∙ seg_first nx n ys q.0 q.2),
          )

module _ {n m : ℕ} {nx hd : ℕ → ℕ} {C : ℕ → List ℕ} (R : Rep n m nx hd C) {nx' hd' : ℕ → ℕ} {a b p r : ℕ} (ks : List ℕ)
    (ha : a < m) (hb : b < m) (d : a ≡ b → ⊥) (ep : p ≡ last_or 0 ks) where
  -- row r of chain a, after place p, becomes the first of chain b
  pub unlink_rep : (ys : List ℕ) → C a ≡ ks ++ r ∷ ys → Relinked n m nx hd nx' hd' a b p r (nx r) (hd b) r
      → Rep n m nx' hd' (put2 C a (ks ++ ys) b (r ∷ C b))
  unlink_rep ys e K =
      let L = rw ep at K in
      let sp = seg_split nx n ks (r ∷ ys) (hd a) 0 (rw e at (R.segs a ha)) in
      let sr = sp.2 in
      let oc : (v : ℕ) → occ v (C a) ≡ occ v ks + occ v (r ∷ ys) = λ v. ap (occ v) e ∙ occ_append v ks (r ∷ ys) in
      let one : occ r ks + occ r ys ≡ 0 = omega (arith, single R a r ha, oc r, occ_same r ys) in
      let no_b : occ r (C b) ≡ 0 = alone R a b r ha hb d (omega (arith, oc r, occ_same r ys)) in
      rechain R nx' hd' a b (ks ++ ys) (r ∷ C b) ha hb d L.heads
      (λ v i oa ob. other R ks L v i (λ _ q. let o : 1 ≤ occ v (r ∷ ys) = rw q (occ_here r ys) in omega (arith, oc v))
      (λ _. omega (arith, oc v)))
      (seg_append nx' n ks ys (hd' a) (nx r) 0 (turned R ks L (r ∷ ys) ha e (omega arith))
      (seg_frame nx n nx' ys (nx r) 0 sr.3
      (λ v o. other R ks L v (seg_in nx n ys (nx r) 0 v sr.3 o) (λ _. not_in v r ys o (omega arith))
      (λ _. omega (arith, single R a v ha, oc v, occ_there v r ys))))) (
        L.head,
        sr.1,
        sr.2,
        rw L.row (seg_frame nx n nx' (C b) (hd b) 0 (R.segs b hb)
            (λ v o. other R ks L v (seg_in nx n (C b) (hd b) 0 v (R.segs b hb) o) (λ _. not_in v r (C b) o no_b)
            (λ _. omega (arith, alone R b a v hb ha (λ q. d (sym q)) o, oc v)))),
      )
      (λ v. omega (arith, oc v, occ_append v ks ys, occ_swap v r ys (C b)))

  -- r, the first row of chain b, comes to stand after place p of chain a
  pub insert_rep : (ys zs : List ℕ) → C a ≡ ks ++ ys → C b ≡ r ∷ zs
      → Relinked n m nx hd nx' hd' a b p r r (first ys) (nx r) → Rep n m nx' hd' (put2 C a (ks ++ r ∷ ys) b zs)
  insert_rep ys zs ea eb K =
      let L = rw ep at K in
      let sp = seg_split nx n ks ys (hd a) 0 (rw ea at (R.segs a ha)) in
      let sb : Seg nx n (hd b) (r ∷ zs) 0 = rw eb at (R.segs b hb) in
      let oa : (v : ℕ) → occ v (C a) ≡ occ v ks + occ v ys = λ v. ap (occ v) ea ∙ occ_append v ks ys in
      let ob : (v : ℕ) → occ v (C b) ≡ occ v (r ∷ zs) = λ v. ap (occ v) eb in
      let no_a : occ r ks + occ r ys ≡ 0 =
      omega (arith, oa r, alone R b a r hb ha (λ q. d (sym q)) (omega (arith, ob r, occ_here r zs))) in
      let no_z : occ r zs ≡ 0 = omega (arith, single R b r hb, ob r, occ_same r zs) in
      rechain R nx' hd' a b (ks ++ r ∷ ys) zs ha hb d L.heads
      (λ v i ua ub. other R ks L v i (λ _ q. let o : 1 ≤ occ v (r ∷ zs) = rw q (occ_here r zs) in omega (arith, ob v))
      (λ _. omega (arith, oa v)))
      (seg_append nx' n ks (r ∷ ys) (hd' a) r 0 (turned R ks L ys ha ea (omega arith)) (
        refl,
        sb.1,
        sb.2,
        rw (L.row ∙ sym (seg_first nx n ys sp.0 sp.2))
            (seg_frame nx n nx' ys sp.0 0 sp.2
            (λ v o. other R ks L v (seg_in nx n ys sp.0 0 v sp.2 o) (λ _. not_in v r ys o (omega arith))
            (λ _. omega (arith, single R a v ha, oa v)))),
      ))
      (rw L.head (seg_frame nx n nx' zs (nx r) 0 sb.3
      (λ v o. other R ks L v (seg_in nx n zs (nx r) 0 v sb.3 o) (λ _. not_in v r zs o no_z)
      (λ _. omega (arith, alone R b a v hb ha (λ q. d (sym q)) (omega (arith, ob v, occ_there v r zs)), oa v)))))
      (λ v. omega (arith, oa v, ob v, occ_append v ks (r ∷ ys), occ_swap v r ys zs))
