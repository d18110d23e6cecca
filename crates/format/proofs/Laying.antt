-- The steps of Format: the header over zeros, the links of a table. Rests on specs.Format.
use Prim.Native.Nat.{ℕ, zero, suc, ◌+◌, ◌-◌, ◌≤◌, ◌<◌}
use mathlib.Core.Path.{◌≡◌, refl, ap, ◌∙◌}
use mathlib.Core.Bool.{true}
use mathlib.Core.List.{List, ◌++◌}
use native.Mathlib.Omega.{arith}
use lib.ListN.{length, set, replicate, length-set}
use lib.Seq.{sets}
use lib.Dec.{eqb}
use borrow.Author.Tests.{lt-ltb, le-ltb, eqb-true}
use Rattle.chains.specs.declared.Table.{Table}
use Rattle.chains.specs.Table.{Lies, place}
use Rattle.meaning.specs.Records.{good_counts}
use Rattle.types.specs.declared.Counts.{Counts}
use Rattle.meaning.proofs.Lists.{and_left, and_right}
use Rattle.tables.proofs.Header.{good_ranged}
use Rattle.tables.specs.Layout.{HEADER, Ranged, size_of, version_base, lock_base, access_base, version_table}
use Rattle.tables.specs.Layout.{lock_table}
use Rattle.tables.specs.Layout.{access_table}
use Rattle.tables.proofs.Header.{size_least}
use Rattle.format.specs.Format.{header_words, blank_words, next_free, linked_to, linked, format_fits}

-- the header over zeros
blank_at : (c : Counts) (k : ℕ)
    → sets (replicate (suc (suc (suc (suc (suc (suc (suc (suc k)))))))) 0) 0 (header_words c)
    ≡ header_words c ++ replicate k 0
blank_at c k = refl

pub blank_is : (c : Counts) (n : ℕ) → HEADER ≤ n
    → sets (replicate n 0) 0 (header_words c) ≡ header_words c ++ replicate (n - HEADER) 0
blank_is c n l =
    let e : n ≡ suc (suc (suc (suc (suc (suc (suc (suc (n - HEADER)))))))) = omega arith in
    ap (λ k. sets (replicate k 0) 0 (header_words c)) e ∙ blank_at c (n - HEADER)

pub blank_words_lem : (c : Counts) (n : ℕ) → n ≡ size_of c → sets (replicate n 0) 0 (header_words c) ≡ blank_words c
unfolding blank_words
blank_words_lem c n e = blank_is c n (omega (arith, size_least c))
    ∙ ap (λ k. header_words c ++ replicate (k - HEADER) 0) e

-- the next free row
pub next_in : (n i : ℕ) → i < n → i + 1 ≡ next_free n i
unfolding next_free
next_in n i l = rw (lt-ltb i n l) (omega arith)

pub next_end : (n i : ℕ) → n ≤ i → 0 ≡ next_free n i
unfolding next_free
next_end n i l = rw (le-ltb i n l) refl

-- the rows before i are linked
pub linked_size : (t : Table) (m : ℕ) (w : List ℕ) → length (linked_to t m w) ≡ length w
unfolding linked_to
linked_size t zero w = refl
linked_size t (suc m) w = length-set (linked_to t m w) _ _ ∙ linked_size t m w

pub record Linking (t : Table) (w₀ : List ℕ) (i : ℕ) (w : List ℕ) : Type 0 where
  pub from : 1 ≤ i
  pub upto : i ≤ suc t.count
  pub size : length w ≡ length w₀
  pub words : w ≡ linked_to t (i - 1) w₀

pub link_start : (t : Table) (w : List ℕ) → Linking t w 1 w
unfolding linked_to
link_start t w = record { from = omega arith; upto = omega arith; size = refl; words = refl }

pub link_again : {t : Table} {w₀ : List ℕ} (i : ℕ) {w w' : List ℕ} {x : ℕ} → Linking t w₀ i w → i ≤ t.count
    → x ≡ next_free t.count i → w' ≡ set w (place t i t.off) x → Linking t w₀ (i + 1) w'
unfolding linked_to
link_again zero v l e p = absurd (omega (arith, v.from))
link_again {t} {w₀} (suc m) {w} {w'} {x} v l e p =
    let before : suc m - 1 ≡ m = omega arith in
    let now : suc m ≡ suc m + 1 - 1 = omega arith in
    let u : w ≡ linked_to t m w₀ = v.words ∙ ap (λ k. linked_to t k w₀) before in
    let o : w' ≡ linked_to t (suc m) w₀ = p ∙ rw (e, u) refl in
    record {
      from = omega arith;
      upto = omega arith;
      size = ap length o ∙ linked_size t (suc m) w₀;
      words = o ∙ ap (λ k. linked_to t k w₀) now;
    }

pub link_done : {t : Table} {w₀ : List ℕ} {i : ℕ} {w : List ℕ} → Linking t w₀ i w → t.count < i → w ≡ linked t w₀
unfolding linked
link_done {t} {w₀} {i} v l = let e : i - 1 ≡ t.count = omega (arith, v.upto) in v.words ∙ ap (λ k. linked_to t k w₀) e

pub link_lies : {t : Table} {w₀ : List ℕ} {i : ℕ} {w : List ℕ} → Linking t w₀ i w → Lies t w₀ → Lies t w
link_lies v l = record { inside = omega (arith, l.inside, v.size); within = l.within }

-- the tables lie in words of the right length
module _ (c : Counts) (w : List ℕ) (e : length w ≡ size_of c) where
  pub versions_lie_lem : Lies (version_table c) w
  unfolding version_table version_base size_of
  versions_lie_lem = record { inside = omega arith; within = omega arith }

  pub locks_lie_lem : Lies (lock_table c) w
  unfolding lock_table lock_base size_of
  locks_lie_lem = record { inside = omega arith; within = omega arith }

  pub accesses_lie : Lies (access_table c) w
  unfolding access_table access_base size_of
  accesses_lie = record { inside = omega arith; within = omega arith }

-- Format goes ahead
pub fits_out : (c : Counts) (n : ℕ) → format_fits c n ≡ true → Ranged c × (n ≡ size_of c)
unfolding format_fits
fits_out c n e = (
  good_ranged c (and_left (good_counts c) (eqb n (size_of c)) e),
  eqb-true n (size_of c) (and_right (good_counts c) (eqb n (size_of c)) e),
)
