-- Free rows linked in rising order: they are the free chain, every row once, and the other chains are empty. Rests on
-- Laying and on Segments and Words of `chains`.
use Prim.Native.Nat.{ℕ, zero, suc, ◌+◌, ◌≤◌, ◌<◌}
use mathlib.Core.Path.{◌≡◌, refl, sym, ◌∙◌}
use mathlib.Core.Bool.{true}
use mathlib.Core.List.{List, [], ◌∷◌}
use native.Mathlib.Omega.{arith}
use native.Mathlib.Decide.{ℕ_discrete}
use lib.ListN.{get_or}
use lib.Seq.{get_or-set_other}
use Rattle.chains.specs.declared.Table.{Table}
use Rattle.chains.specs.declared.Heads.{Heads}
use Rattle.chains.specs.Lists.{occ, sum_to}
use Rattle.chains.specs.Walk.{IsRow}
use Rattle.chains.specs.Table.{Lies, link, link_cell, head_of, rows_of}
use Rattle.chains.specs.Partition.{partition}
use Rattle.chains.proofs.Cells.{base_le, field_same, field_other}
use Rattle.chains.proofs.Occurs.{occ_nil, occ_same, occ_other}
use Rattle.chains.proofs.Rooms.{sum_first}
use Rattle.chains.proofs.Segments.{Seg}
use Rattle.chains.proofs.Words.{WordsRep, rep_rows, rep_part}
use Rattle.format.specs.Format.{next_free, linked_to}
use Rattle.format.proofs.Laying.{linked_size, next_in, next_end}

-- words before a table, and a table's links
pub linked_below : (t : Table) (m : ℕ) (w : List ℕ) (a : ℕ) → a < t.base → get_or (linked_to t m w) a 0 ≡ get_or w a 0
unfolding linked_to
linked_below t zero w a l = refl
linked_below t (suc m) w a l =
    get_or-set_other (linked_to t m w) (link_cell t (suc m)) a (next_free t.count (suc m)) 0
    (λ e. omega (arith, base_le t (suc m) t.off))
    ∙ linked_below t m w a l

pub linked_link : (t : Table) (w : List ℕ) → Lies t w → (m : ℕ) → m ≤ t.count → (i : ℕ) → 1 ≤ i → i ≤ m
    → link t (linked_to t m w) i ≡ next_free t.count i
unfolding linked_to
linked_link t w s zero l i p q = absurd (omega arith)
linked_link t w s (suc m) l i p q = go (ℕ_discrete i (suc m)) (linked_link t w s m (omega arith) i p)
  where
    lies : Lies t (linked_to t m w)
    lies = record { inside = omega (arith, s.inside, linked_size t m w); within = s.within }

    go : Dec (i ≡ suc m) → (i ≤ m → link t (linked_to t m w) i ≡ next_free t.count i)
        → link t (linked_to t (suc m) w) i ≡ next_free t.count i
    go (yes e) ih =
        rw e (field_same t (linked_to t m w) (suc m) t.off (next_free t.count (suc m)) lies
        (record { low = omega arith; high = l }) s.within)
    go (no e) ih =
        field_other t (linked_to t m w) (suc m) i t.off t.off (next_free t.count (suc m)) (omega arith) p
        s.within s.within (λ z. e z.0)
        ∙ ih (omega arith)

-- m rows from j on
rising : ℕ → ℕ → List ℕ
rising j zero = []
rising j (suc m) = j ∷ rising (suc j) m

module _ (nx : ℕ → ℕ) (n : ℕ) (links : (i : ℕ) → IsRow n i → nx i ≡ next_free n i) where
  rising_seg : (m i : ℕ) → i + m ≡ n → Seg nx n (next_free n i) (rising (suc i) m) 0
  unfolding rising
  rising_seg zero i e = sym (next_end n i (omega arith))
  rising_seg (suc m) i e =
      let f : next_free n i ≡ suc i = sym (next_in n i (omega arith)) ∙ plus i in (
        f,
        omega arith,
        omega arith,
        rw (links (suc i) (record { low = omega arith; high = omega arith })) (rising_seg m (suc i) (omega arith)),
      )
    where
      plus : (i : ℕ) → i + 1 ≡ suc i
      plus i = omega arith

rising_other : (x j m : ℕ) → x < j → occ x (rising j m) ≡ 0
unfolding rising
rising_other x j zero l = occ_nil x
rising_other x j (suc m) l =
    occ_other x j (rising (suc j) m) (λ e. omega arith) ∙ rising_other x (suc j) m (omega arith)

rising_once : (x j m : ℕ) → j ≤ x → x < j + m → occ x (rising j m) ≡ 1
unfolding rising
rising_once x j zero p q = absurd (omega arith)
rising_once x j (suc m) p q = go (ℕ_discrete x j) (rising_once x (suc j) m)
  where
    go : Dec (x ≡ j) → (suc j ≤ x → x < suc j + m → occ x (rising (suc j) m) ≡ 1) → occ x (j ∷ rising (suc j) m) ≡ 1
    go (yes e) ih = rw e (omega (arith, occ_same j (rising (suc j) m), rising_other j (suc j) m (omega arith)))
    go (no e) ih = occ_other x j (rising (suc j) m) e ∙ ih (omega arith) (omega arith)

-- chain 0 has all rows, the others none
free_chains : ℕ → ℕ → List ℕ
free_chains n zero = rising 1 n
free_chains n (suc k) = []

none : (m x : ℕ) → sum_to m (λ k. occ x []) ≡ 0
unfolding sum_to
none zero x = refl
none (suc m) x = omega (arith, none m x, occ_nil x)

module _ (t : Table) (h : Heads) (w : List ℕ)
    (links : (i : ℕ) → IsRow t.count i → link t w i ≡ next_free t.count i)
    (free : head_of h w 0 ≡ next_free t.count 0) (others : (k : ℕ) → k < h.owners → head_of h w (suc k) ≡ 0) where
  all_free : WordsRep t h w (free_chains t.count)
  unfolding free_chains
  all_free = record { segs = segs; once = once }
    where
      segs : (k : ℕ) → k < suc h.owners → Seg (link t w) t.count (head_of h w k) (free_chains t.count k) 0
      segs zero l = rw free (rising_seg (link t w) t.count links t.count 0 (omega arith))
      segs (suc k) l = others k (omega arith)

      once : (i : ℕ) → i < t.count → sum_to (suc h.owners) (λ k. occ (suc i) (free_chains t.count k)) ≡ 1
      once i l =
          omega (
            arith,
            sum_first (λ k. occ (suc i) (free_chains t.count k)) h.owners,
            none h.owners (suc i),
            rising_once (suc i) 1 t.count (omega arith) (omega arith),
          )

  pub free_parted : partition t h w ≡ true
  free_parted = rep_part t h w all_free

  pub free_rows : (k : ℕ) → k < h.owners → rows_of t h w (suc k) ≡ []
  unfolding free_chains
  free_rows k l = (rep_rows t h w all_free (suc k) (omega arith)).0
