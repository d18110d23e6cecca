-- What leaves chains as they are: a store to a word that is no link word, and any change of another table. Rests on
-- Cells and Walks.
use Prim.Native.Nat.{ℕ, zero, suc, ◌≤◌, ◌<◌}
use mathlib.Core.Path.{◌≡◌, refl, sym, ap, ◌∙◌}
use mathlib.Core.Bool.{Bool, true, false}
use mathlib.Core.List.{List, ◌∷◌}
use native.Mathlib.Omega.{arith}
use native.Mathlib.Decide.{ℕ_discrete}
use lib.ListN.{length, get_or, set, length-set}
use lib.Seq.{get_or-set_same, get_or-set_other}
use lib.Dec.{eqb}
use Rattle.chains.specs.declared.Table.{Table}
use Rattle.chains.specs.declared.Heads.{Heads}
use Rattle.chains.specs.Lists.{occ}
use Rattle.chains.specs.Walk.{among, IsRow, rows, ends}
use Rattle.chains.specs.Table.{place, field, link, chain, ended, head_cell, head_of, rows_of, ended_of, Laid}
use Rattle.chains.specs.Partition.{on_chains, partition}
use Rattle.chains.specs.Change.{Ready, Elsewhere, Same}
use Rattle.chains.proofs.Bounded.{all_ext, sum_ext}
use Rattle.chains.proofs.Walks.{among_out, rows_stop, rows_suc, ends_stop, ends_suc}
use Rattle.chains.proofs.Cells.{laid_set, place_ne, base_le, field_other, head_below, head_place}

-- walks see links only
module _ (nx nx' : ℕ → ℕ) (n : ℕ) (e : (x : ℕ) → IsRow n x → nx' x ≡ nx x) where
  pub walk_same : (f h : ℕ) → (rows nx' n f h ≡ rows nx n f h) × (ends nx' n f h ≡ ends nx n f h)
  unfolding rows ends
  walk_same zero h = (refl, refl)
  walk_same (suc f) h = go (among n h) refl (walk_same f (nx h))
    where
      go : (b : Bool) → among n h ≡ b
          → (rows nx' n f (nx h) ≡ rows nx n f (nx h)) × (ends nx' n f (nx h) ≡ ends nx n f (nx h))
          → (rows nx' n (suc f) h ≡ rows nx n (suc f) h) × (ends nx' n (suc f) h ≡ ends nx n (suc f) h)
      go true d ih =
          let k : nx' h ≡ nx h = e h (among_out n h d) in (
            rows_suc nx' n f h d ∙ ap (λ y. h ∷ y) (ap (rows nx' n f) k ∙ ih.0) ∙ sym (rows_suc nx n f h d),
            ends_suc nx' n f h d ∙ ap (ends nx' n f) k ∙ ih.1 ∙ sym (ends_suc nx n f h d),
          )
      go false d ih = (
        rows_stop nx' n (suc f) h d ∙ sym (rows_stop nx n (suc f) h d),
        ends_stop nx' n (suc f) h d ∙ sym (ends_stop nx n (suc f) h d),
      )

-- chains see links and heads only
module _ (t : Table) (h : Heads) (w w' : List ℕ) (el : (x : ℕ) → IsRow t.count x → link t w' x ≡ link t w x)
    (eh : (k : ℕ) → k ≤ h.owners → head_of h w' k ≡ head_of h w k) where
  chain_same : (k : ℕ) → k ≤ h.owners → (rows_of t h w' k ≡ rows_of t h w k) × (ended_of t h w' k ≡ ended_of t h w k)
  unfolding rows_of ended_of chain ended
  chain_same k q =
      let s = walk_same (link t w) (link t w') t.count el t.count (head_of h w k) in (
        ap (rows (link t w') t.count t.count) (eh k q) ∙ s.0,
        ap (ends (link t w') t.count t.count) (eh k q) ∙ s.1,
      )

  pub same_chains : Same t h w w'
  unfolding partition on_chains
  same_chains = record {
    rows_kept = λ k q. (chain_same k q).0;
    parted_kept = rw (
      all_ext (ended_of t h w') (ended_of t h w) (suc h.owners) (λ k q. (chain_same k (omega arith)).1),
      all_ext (λ i. eqb (on_chains t h w' (suc i)) 1) (λ i. eqb (on_chains t h w (suc i)) 1) t.count
          (λ i q. ap (λ y. eqb y 1)
          (sum_ext (λ k. occ (suc i) (rows_of t h w' k)) (λ k. occ (suc i) (rows_of t h w k)) (suc h.owners)
          (λ k l. ap (occ (suc i)) (chain_same k (omega arith)).0))),
    );
  }

-- a store to a row's word that is no link word
pub put_same : (t : Table) (h : Heads) (w : List ℕ) (i o v : ℕ) → Laid t h w → 1 ≤ i → o < t.stride → (o ≡ t.off → ⊥)
    → Same t h w (set w (place t i o) v)
put_same t h w i o v l p q d = same_chains t h w (set w (place t i o) v)
    (λ x r. field_other t w i x o t.off v p r.low q l.within (λ e. d (sym e.1)))
    (λ k hk. head_place l i o v k hk)

pub put_ready : {t : Table} {h : Heads} {w : List ℕ} {a b : ℕ} (i o v : ℕ) → Ready t h w a b → 1 ≤ i → o < t.stride
    → (o ≡ t.off → ⊥) → Ready t h (set w (place t i o) v) a b
put_ready {t} {h} {w} i o v rd p q d = record {
  laid = laid_set (place t i o) v rd.laid;
  parted = (put_same t h w i o v rd.laid p q d).parted_kept ∙ rd.parted;
  a_in = rd.a_in;
  b_in = rd.b_in;
  differ = rd.differ;
}

-- where only head and link words differ, the other words of the rows are as before
pub field_kept : {t : Table} {h : Heads} {w u : List ℕ} → Laid t h w → Elsewhere t h w u → (i o : ℕ) → 1 ≤ i
    → o < t.stride → (o ≡ t.off → ⊥) → field t u i o ≡ field t w i o
unfolding field
field_kept {t} {h} {w} {u} l e i o p q d =
    e.kept (place t i o) (λ k hk z. omega (arith, head_below l k hk, base_le t i o))
    (λ j r z. place_ne t i j o t.off p r.low q l.within (λ y. d y.1) z)

pub else_refl : (t : Table) (h : Heads) (w : List ℕ) → Elsewhere t h w w
else_refl t h w = record { size = refl; kept = λ c p q. refl }

pub else_trans : {t : Table} {h : Heads} {w u v : List ℕ} → Elsewhere t h w u → Elsewhere t h u v → Elsewhere t h w v
else_trans e f = record { size = f.size ∙ e.size; kept = λ c p q. f.kept c p q ∙ e.kept c p q }

pub else_put : {t : Table} {h : Heads} {w u : List ℕ} → Elsewhere t h w u → (c v : ℕ) → c < length w
    → Elsewhere t h (set w c v) (set u c v)
else_put {t} {h} {w} {u} e c v l = record {
  size = length-set u c v ∙ e.size ∙ sym (length-set w c v);
  kept = λ x p q. elim (ℕ_discrete x c) [
    | yes z ↦ rw z (get_or-set_same u c v 0 (rw e.size l) ∙ sym (get_or-set_same w c v 0 l))
    | no z ↦ get_or-set_other u c x v 0 z ∙ e.kept x p q ∙ sym (get_or-set_other w c x v 0 z)
  ];
}

-- only head words and rows' words of the table differ
pub record OnlyTable (t : Table) (h : Heads) (w w' : List ℕ) : Type 0 where
  pub size : length w' ≡ length w
  pub kept : (c : ℕ) → ((k : ℕ) → k ≤ h.owners → c ≡ head_cell h k → ⊥)
      → ((i o : ℕ) → IsRow t.count i → o < t.stride → c ≡ place t i o → ⊥) → get_or w' c 0 ≡ get_or w c 0

pub only_elsewhere : {t : Table} {h : Heads} {w w' : List ℕ} → t.off < t.stride → Elsewhere t h w w'
    → OnlyTable t h w w'
only_elsewhere {t} l e = record { size = e.size; kept = λ c f g. e.kept c f (λ i r. g i t.off r l) }

pub only_put : (t : Table) (h : Heads) (w : List ℕ) (i o v : ℕ) → IsRow t.count i → o < t.stride
    → OnlyTable t h w (set w (place t i o) v)
only_put t h w i o v r q =
    record { size = length-set w (place t i o) v; kept = λ c f g. get_or-set_other w (place t i o) c v 0 (g i o r q) }

pub only_trans : {t : Table} {h : Heads} {w u v : List ℕ} → OnlyTable t h w u → OnlyTable t h u v → OnlyTable t h w v
only_trans a b = record { size = b.size ∙ a.size; kept = λ c f g. b.kept c f g ∙ a.kept c f g }

-- a table is as it was: its rows' words and its heads
pub record Kept (t : Table) (h : Heads) (w w' : List ℕ) : Type 0 where
  pub words : (i o : ℕ) → IsRow t.count i → o < t.stride → field t w' i o ≡ field t w i o
  pub heads : (k : ℕ) → k ≤ h.owners → head_of h w' k ≡ head_of h w k

pub kept_same : {t : Table} {h : Heads} {w w' : List ℕ} → t.off < t.stride → Kept t h w w' → Same t h w w'
kept_same {t} {h} {w} {w'} l k = same_chains t h w w' (λ x r. k.words x t.off r l) k.heads

-- no head word and no row's word of one table is one of the other
pub record Apart (t : Table) (h : Heads) (t₂ : Table) (h₂ : Heads) : Type 0 where
  pub heads : (j k : ℕ) → j ≤ h₂.owners → k ≤ h.owners → head_cell h₂ j ≡ head_cell h k → ⊥
  pub head_row : (j i o : ℕ) → j ≤ h₂.owners → IsRow t.count i → o < t.stride → head_cell h₂ j ≡ place t i o → ⊥
  pub row_head : (x u k : ℕ) → IsRow t₂.count x → u < t₂.stride → k ≤ h.owners → place t₂ x u ≡ head_cell h k → ⊥
  pub rows : (x u i o : ℕ) → IsRow t₂.count x → u < t₂.stride → IsRow t.count i → o < t.stride
      → place t₂ x u ≡ place t i o → ⊥

-- so a change of one leaves the other
pub apart_kept : {t : Table} {h : Heads} {t₂ : Table} {h₂ : Heads} {w w' : List ℕ} → Apart t h t₂ h₂
    → OnlyTable t h w w' → Kept t₂ h₂ w w'
unfolding field head_of
apart_kept {t} {h} {t₂} {h₂} p o = record {
  words = λ x u r l. o.kept (place t₂ x u) (λ k q. p.row_head x u k r l q) (λ i v s q. p.rows x u i v r l s q);
  heads = λ j l. o.kept (head_cell h₂ j) (λ k q. p.heads j k l q) (λ i v s q. p.head_row j i v l s q);
}
