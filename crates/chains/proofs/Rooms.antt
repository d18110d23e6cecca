-- How many rows are free: the lengths of all chains make the row count, so the free chain is empty exactly if all rows
-- are in use. Rests on Words.
use Prim.Native.Nat.{ℕ, zero, suc, ◌+◌, ◌≤◌, ◌<◌}
use mathlib.Core.Path.{◌≡◌, refl, sym, ap, ◌∙◌}
use mathlib.Core.Bool.{true}
use mathlib.Core.List.{List, [], ◌∷◌}
use native.Mathlib.Omega.{arith}
use lib.ListN.{length}
use Rattle.chains.specs.declared.Table.{Table}
use Rattle.chains.specs.declared.Heads.{Heads}
use Rattle.chains.specs.Lists.{sum_to, first}
use Rattle.chains.specs.Table.{link, head_of, rows_of}
use Rattle.chains.specs.Partition.{partition, used}
use Rattle.chains.proofs.Segments.{Seg}
use Rattle.chains.proofs.Chains
use Rattle.chains.proofs.Words.{rep_of, head_first}

-- a sum from 0 on, its first term apart
pub sum_first : (f : ℕ → ℕ) (m : ℕ) → sum_to (suc m) f ≡ f 0 + sum_to m (λ k. f (suc k))
unfolding sum_to
sum_first f zero = omega arith
sum_first f (suc m) = omega (arith, sum_first f m)

empty_length : (rs : List ℕ) → length rs ≡ 0 → rs ≡ []
empty_length [] e = refl
empty_length (r ∷ rs) e = absurd (omega arith)

module _ (t : Table) (h : Heads) (w : List ℕ) (s : partition t h w ≡ true) where
  pub lengths : sum_to (suc h.owners) (λ k. length (rows_of t h w k)) ≡ t.count
  lengths = Chains.lengths (rep_of t h w s)

  -- the free rows and those in use
  pub free_used : length (rows_of t h w 0) + used t h w ≡ t.count
  unfolding used
  free_used = sym (sum_first (λ k. length (rows_of t h w k)) h.owners) ∙ lengths

  -- a chain is empty exactly if its head is 0
  pub empty_head : (k : ℕ) → k ≤ h.owners → rows_of t h w k ≡ [] → head_of h w k ≡ 0
  unfolding first
  empty_head k q e = head_first t h w s k q ∙ ap first e

  pub head_empty : (k : ℕ) → k ≤ h.owners → head_of h w k ≡ 0 → rows_of t h w k ≡ []
  head_empty k q e = go (rows_of t h w k) ((rep_of t h w s).segs k (omega arith))
    where
      go : (rs : List ℕ) → Seg (link t w) t.count (head_of h w k) rs 0 → rs ≡ []
      go [] p = refl
      go (r ∷ rs) p = absurd (omega (arith, p.0, p.1))

  -- the free chain is empty exactly if all rows are in use
  pub full_head : used t h w ≡ t.count → head_of h w 0 ≡ 0
  full_head e = empty_head 0 (omega arith) (empty_length (rows_of t h w 0) (omega (arith, free_used)))

  pub head_full : head_of h w 0 ≡ 0 → used t h w ≡ t.count
  head_full e = omega (arith, free_used, ap length (head_empty 0 (omega arith) e))

  -- so there is a free row wherever fewer are in use than the table has
  pub free_row : used t h w < t.count → head_of h w 0 ≡ 0 → ⊥
  free_row l e = omega (arith, head_full e)
