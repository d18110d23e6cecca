-- From the words to the chains as lists and back, and what a partition says of its chains. Rests on Relinks and Cells.
use Prim.Native.Nat.{ℕ, suc, ◌-◌, ◌≤◌}
use mathlib.Core.Path.{◌≡◌, sym, ap, ◌∙◌}
use mathlib.Core.Bool.{true}
use mathlib.Core.List.{List, ◌∷◌, tail}
use native.Mathlib.Omega.{arith}
use native.Mathlib.Decide.{ℕ_discrete}
use lib.ListN.{length, get_or}
use lib.Dec.{eqb}
use borrow.Author.Tests.{eq-eqb, eqb-true}
use Rattle.chains.specs.declared.Table.{Table}
use Rattle.chains.specs.declared.Heads.{Heads}
use Rattle.chains.specs.Lists.{occ, first}
use Rattle.chains.specs.Walk.{IsRow}
use Rattle.chains.specs.Table.{link, chain, ended, head_of, rows_of, ended_of, after_cell}
use Rattle.chains.specs.Partition.{on_chains, partition, Parted}
use Rattle.chains.specs.Change.{Split}
use Rattle.chains.proofs.Bounded.{both_true, all_at, all_all, sum_ext}
use Rattle.chains.proofs.Occurs.{occ_here, occ_append, last_occ, cons_of}
use Rattle.chains.proofs.Segments.{Seg, seg_in, seg_rows, rows_seg, seg_first}
use Rattle.chains.proofs.Chains.{Rep, row_once, alone, single, short}
use Rattle.chains.proofs.Relinks.{pointed}
use Rattle.chains.proofs.Cells

pub partition_out : (t : Table) (h : Heads) (w : List ℕ) → partition t h w ≡ true → Parted t h w
unfolding partition
partition_out t h w e =
    let b = both_true _ _ e in
    record {
      ended_all = λ k l. all_at (ended_of t h w) (suc h.owners) k b.0 (omega arith);
      once =
          λ r i. let k : suc (r - 1) ≡ r = omega (arith, i.low) in
          rw k at (eqb-true (on_chains t h w (suc (r - 1))) 1
          (all_at (λ i. eqb (on_chains t h w (suc i)) 1) t.count (r - 1) b.1 (omega (arith, i.low, i.high))));
    }

pub partition_in : (t : Table) (h : Heads) (w : List ℕ) → Parted t h w → partition t h w ≡ true
unfolding partition
partition_in t h w p = rw (all_all (ended_of t h w) (suc h.owners) (λ k l. p.ended_all k (omega arith)))
    (all_all (λ i. eqb (on_chains t h w (suc i)) 1) t.count
    (λ i l. eq-eqb (on_chains t h w (suc i)) 1 (p.once (suc i) (record { low = omega arith; high = omega arith }))))

-- the chains that the words hold
abbrev pub WordsRep : Table → Heads → List ℕ → (ℕ → List ℕ) → Type 0
WordsRep t h w C = Rep t.count (suc h.owners) (link t w) (head_of h w) C

module _ (t : Table) (h : Heads) (w : List ℕ) where
  pub ended_seg : (k : ℕ) → ended_of t h w k ≡ true → Seg (link t w) t.count (head_of h w k) (rows_of t h w k) 0
  unfolding ended_of rows_of chain ended
  ended_seg k e = rows_seg (link t w) t.count t.count (head_of h w k) e

  pub rep_of : partition t h w ≡ true → WordsRep t h w (rows_of t h w)
  unfolding on_chains
  rep_of e =
      let p = partition_out t h w e in
      record {
        segs = λ k l. ended_seg k (p.ended_all k (omega arith));
        once = λ i l. p.once (suc i) (record { low = omega arith; high = omega arith });
      }

  pub rep_rows : {C : ℕ → List ℕ} → WordsRep t h w C → (k : ℕ) → k ≤ h.owners
      → (rows_of t h w k ≡ C k) × (ended_of t h w k ≡ true)
  unfolding ended_of rows_of chain ended
  rep_rows {C} R k l =
      seg_rows (link t w) t.count (C k) t.count (head_of h w k) (R.segs k (omega arith)) (short R k (omega arith))

  pub rep_part : {C : ℕ → List ℕ} → WordsRep t h w C → partition t h w ≡ true
  unfolding on_chains
  rep_part {C} R = partition_in t h w (record {
    ended_all = λ k l. (rep_rows R k l).1;
    once =
        λ r i. sum_ext (λ k. occ r (rows_of t h w k)) (λ k. occ r (C k)) (suc h.owners)
        (λ k q. ap (occ r) (rep_rows R k (omega arith)).0)
        ∙ row_once R r i;
  })

-- what a partition says of a chain: its rows are rows of the table, its head is its first row, no row is on it twice or
-- also on another
module _ (t : Table) (h : Heads) (w : List ℕ) (s : partition t h w ≡ true) where
  pub on_chain : (k : ℕ) → k ≤ h.owners → (i : ℕ) → 1 ≤ occ i (rows_of t h w k) → IsRow t.count i
  on_chain k q i o =
      seg_in (link t w) t.count (rows_of t h w k) (head_of h w k) 0 i ((rep_of t h w s).segs k (omega arith)) o

  pub head_first : (k : ℕ) → k ≤ h.owners → head_of h w k ≡ first (rows_of t h w k)
  head_first k q =
      seg_first (link t w) t.count (rows_of t h w k) (head_of h w k) ((rep_of t h w s).segs k (omega arith))

  pub on_once : (k : ℕ) → k ≤ h.owners → (i : ℕ) → occ i (rows_of t h w k) ≤ 1
  on_once k q i = single (rep_of t h w s) k i (omega arith)

  pub on_one : (j k : ℕ) → j ≤ h.owners → k ≤ h.owners → (j ≡ k → ⊥) → (i : ℕ) → 1 ≤ occ i (rows_of t h w j)
      → occ i (rows_of t h w k) ≡ 0
  on_one j k p q d i o = alone (rep_of t h w s) j k i (omega arith) (omega arith) d o

  pub on_short : (k : ℕ) → k ≤ h.owners → length (rows_of t h w k) ≤ t.count
  on_short k q = short (rep_of t h w s) k (omega arith)

  -- a head that is not 0 names the chain's first row
  pub head_cons : (a r : ℕ) → a ≤ h.owners → r ≡ head_of h w a → (r ≡ 0 → ⊥)
      → (rows_of t h w a ≡ r ∷ tail (rows_of t h w a)) × IsRow t.count r
  head_cons a r ha e z =
      let c = cons_of (rows_of t h w a) r (e ∙ head_first a ha) (omega arith) in
      (c.1 ∙ ap (λ l. r ∷ tail l) (sym c.1), on_chain a ha r (rw c.1 (occ_here r c.0)))

  -- a place on a chain is 0 or a row of the table
  pub place_in : {a p : ℕ} {ks ys : List ℕ} → a ≤ h.owners → Split t h w a p ks ys → p ≤ t.count
  place_in {a} {p} {ks} {ys} ha sp = elim (ℕ_discrete p 0) [
    | yes z ↦ omega arith
    | no z ↦ (on_chain a ha p
        (omega (arith, last_occ ks p (omega arith) sp.last, ap (occ p) sp.parts ∙ occ_append p ks ys))).high
  ]

-- what follows place p of chain a
pub after_first : {t : Table} {h : Heads} {w : List ℕ} {a p : ℕ} {ks ys : List ℕ} → partition t h w ≡ true
    → a ≤ h.owners → Split t h w a p ks ys → get_or w (after_cell t h a p) 0 ≡ first ys
after_first {t} {h} {w} {a} {p} {ks} {ys} s ha sp =
    let q = pointed (rep_of t h w s) a ks (omega arith) ys sp.parts in
    elim (ℕ_discrete p 0) [
      | yes z ↦ Cells.after_head t h w a p z ∙ q.0 (sym sp.last ∙ z)
      | no z ↦ Cells.after_link t h w a p z ∙ ap (link t w) sp.last ∙ q.1 (λ k. z (sp.last ∙ k))
    ]
