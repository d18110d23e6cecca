-- Indexes that say nothing: a slice of another length, and one whose numbers are all UNKNOWN. Each is right of every
-- store. Rests on Says.
use Prim.Native.Nat.{ℕ, ◌+◌, ◌*◌, ◌<◌}
use native.Mathlib.Omega.{arith}
use native.Mathlib.Decide.{ℕ_discrete}
use mathlib.Core.Path.{◌≡◌, refl, ap, ◌∙◌}
use mathlib.Core.List.{List}
use lib.ListN.{length, get_or, replicate, length-replicate, get_or-replicate}
use borrow.Author.Tests.{lt-leb}
use Rattle.meaning.specs.Store.{Store}
use Rattle.meaning.proofs.Lists.{not_both}
use Rattle.index.specs.Index.{MARKS, LISTS, LIST, LISTED, UNKNOWN, INDEX, count_of, Indexed}
use Rattle.index.proofs.Says.{no_mark, no_list, marked_set, list_says, met_unknown}

pub no_index : {s : Store} (ix : List ℕ) → (length ix ≡ INDEX → ⊥) → Indexed s ix
no_index ix n =
    record {
      quiet = λ k r h l m e. absurd (not_both e (no_mark ix n k r));
      whole = λ k r l m e. met_unknown ix k (no_list ix n k) MARKS r m;
    }

pub unknown : {s : Store} (ix : List ℕ) → length ix ≡ INDEX → ((i : ℕ) → i < INDEX → get_or ix i 0 ≡ UNKNOWN) → Indexed
    s ix
unknown ix size f =
    record {
      quiet = λ k r h l m e.
          absurd (not_both e (marked_set ix size k r (λ z. omega (arith, z, f (k * MARKS + r) (omega arith)))));
      whole = λ k r l m e.
          met_unknown ix k (list_says ix size k
          ∙ lt-leb (count_of ix k) LISTED (omega (arith, f (LISTS + k * LIST) (omega arith)))) MARKS r m;
    }

-- any length, as a fill leaves it
pub filled : {s : Store} (ix : List ℕ) (n : ℕ) → ix ≡ replicate n UNKNOWN → Indexed s ix
filled {s} ix n e = go (ℕ_discrete (length ix) INDEX)
  where
    long : length ix ≡ n
    long = ap length e ∙ length-replicate {A = ℕ} n UNKNOWN

    go : Dec (length ix ≡ INDEX) → Indexed s ix
    go (yes z) =
        unknown ix z (λ i l. ap (λ (x : List ℕ). get_or x i 0) e
        ∙ get_or-replicate {A = ℕ} n i UNKNOWN 0 (omega (arith, z, long)))
    go (no z) = no_index ix z

-- a new array
pub unknown_new : {s : Store} (n : ℕ) → Indexed s (replicate n UNKNOWN)
unknown_new n = filled (replicate n UNKNOWN) n refl
