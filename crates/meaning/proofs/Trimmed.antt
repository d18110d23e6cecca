-- The locks of a record after their settled points up to v are gone. Rests on LockChanges.
use Prim.Native.Nat.{ℕ, suc, ◌≤◌, ◌<◌, max}
use native.Mathlib.Omega.{arith}
use native.Mathlib.Nat.{le_refl}
use mathlib.Core.Path.{◌≡◌, refl}
use mathlib.Core.Bool.{Bool, true, false, not, cond}
use mathlib.Core.List.{List}
use lib.ListN.{length, length-map}
use borrow.Author.Tests.{leb-false}
use Rattle.meaning.specs.Lists.{◌∈◌, keep}
use Rattle.types.specs.Limits.{SETTLED}
use Rattle.meaning.specs.Store.{Lock}
use Rattle.meaning.specs.Points.{is_owned, emptied, trimmed, trim_to, cut}
use Rattle.meaning.proofs.Lists.{length_keep, keep_out, pairwise_keep, and_in, and_left, and_right, all_in}
use Rattle.meaning.proofs.Lists.{all_out}
use Rattle.meaning.specs.Points.{no_later, apart_reads, is_settled_read}
use Rattle.meaning.specs.Lists.{pairwise, all}
use Rattle.meaning.proofs.Rows.{Gap, gap_in, gap_out}
use mathlib.Core.Logic.{inl, inr}
use mathlib.Core.List.Memᴰ
use mathlib.Core.List.{[], ◌∷◌, map}
use mathlib.Core.Path.{sym, ◌∙◌}
use lib.Dec.{leb}
use borrow.Author.Tests.{le-leb, leb-true}
use Rattle.meaning.proofs.LockChanges.{trim_to_member, member_trim_to, stays}
use Rattle.meaning.proofs.Tests.{owned_out, owned_in, unowned_out}

-- m is what is left of the lock l: of another owner it is l, of a settled one its points above v
pub record Rest (v : ℕ) (l m : Lock) : Type 0 where
  pub mode : m.mode ≡ l.mode
  pub owner : m.owner ≡ l.owner
  pub high : m.high ≡ l.high
  pub low : l.low ≤ m.low
  pub least : (p : ℕ) → l.low ≤ p → v < p → m.low ≤ p
  pub settled : l.owner ≡ SETTLED → (v < m.low) × (v < l.high)
  pub unsettled : (l.owner ≡ SETTLED → ⊥) → m ≡ l

rest_settled : (v : ℕ) (l : Lock) → l.owner ≡ SETTLED → v < l.high
    → Rest v l (cut v l)
rest_settled v l z h =
    record {
      mode = refl;
      owner = refl;
      high = refl;
      low = omega arith;
      least = λ p a b. omega arith;
      settled = λ y. (omega arith, h);
      unsettled = λ d. absurd (d z);
    }

rest_unsettled : (v : ℕ) (l : Lock) → (l.owner ≡ SETTLED → ⊥) → Rest v l l
rest_unsettled v l d =
    record {
      mode = refl;
      owner = refl;
      high = refl;
      low = le_refl l.low;
      least = λ p a b. a;
      settled = λ z. absurd (d z);
      unsettled = λ y. refl;
    }

rest_of : (v : ℕ) (l : Lock) → (l.owner ≡ SETTLED → v < l.high) → Rest v l (trimmed v l)
rest_of v l h = go (is_owned SETTLED l) refl
  where
    go : (b : Bool) → is_owned SETTLED l ≡ b
        → Rest v l (cond b (cut v l) l)
    go true q = rest_settled v l (owned_out SETTLED l q) (h (owned_out SETTLED l q))
    go false q = rest_unsettled v l (unowned_out SETTLED l q)

-- a settled lock that stays goes beyond v
stays_out : (v : ℕ) (l : Lock) → emptied v l ≡ false → l.owner ≡ SETTLED → v < l.high
stays_out v l h z = leb-false l.high v (rw (owned_in SETTLED l z) at h)

module _ (v : ℕ) (ls : List Lock) where
  pub trim_out : (m : Lock) → m ∈ trim_to v ls → (l : Lock) × (l ∈ ls) × Rest v l m
  trim_out m i =
      let w = trim_to_member v ls i in
      (w.0, w.1, rw w.3 at (rest_of v w.0 (stays_out v w.0 w.2)))

  pub trim_in : (l : Lock) → l ∈ ls → (l.owner ≡ SETTLED → v < l.high) → (m : Lock) × (m ∈ trim_to v ls) × Rest v l m
  trim_in l i h = (trimmed v l, member_trim_to v ls i (stays v l h), rest_of v l h)

  pub trim_length : length (trim_to v ls) ≤ length ls
  unfolding trim_to
  trim_length =
      omega (arith, length-map (keep (λ l. not (emptied v l)) ls) (trimmed v), length_keep (λ l. not (emptied v l)) ls)

-- rising order, and joined, after the settled points up to v are gone, where all others lie above v
module _ (v : ℕ) where
  both_trimmed : (l m : Lock) → no_later l m ≡ true → ((m.owner ≡ SETTLED → ⊥) → v < m.low)
      → no_later (trimmed v l) (trimmed v m) ≡ true
  both_trimmed l m e f = go (is_owned SETTLED l) refl (is_owned SETTLED m) refl
    where
      go : (b : Bool) → is_owned SETTLED l ≡ b → (c : Bool) → is_owned SETTLED m ≡ c
          → leb (cond b (cut v l) l).low
          (cond c (cut v m) m).low
          ≡ true
      go true p true q =
          le-leb (max l.low (suc v)) (max m.low (suc v)) (omega (arith, leb-true l.low m.low e))
      go true p false q =
          le-leb (max l.low (suc v)) m.low (omega (
            arith,
            leb-true l.low m.low e,
            f (unowned_out SETTLED m
                q),
          ))
      go false p true q = le-leb l.low (max m.low (suc v)) (omega (arith, leb-true l.low m.low e))
      go false p false q = e

  pub kind_kept : (l : Lock) → is_settled_read (trimmed v l) ≡ is_settled_read l
  kind_kept l = go (is_owned SETTLED l)
    where
      go : (b : Bool)
          → is_settled_read (cond b (cut v l) l)
          ≡ is_settled_read l
      go true = refl
      go false = refl

  ends_kept : (l : Lock) → (l.low ≤ (trimmed v l).low) × ((trimmed v l).high ≡ l.high)
  ends_kept l = go (is_owned SETTLED l)
    where
      go : (b : Bool)
          → (l.low ≤ (cond b (cut v l) l).low)
          × ((cond b (cut v l) l).high ≡ l.high)
      go true = (omega arith, refl)
      go false = (le_refl l.low, refl)

  apart_trimmed : (l m : Lock) → apart_reads l m ≡ true → apart_reads (trimmed v l) (trimmed v m) ≡ true
  apart_trimmed l m e =
      gap_in (trimmed v l) (trimmed v m)
      (λ a b. wider (gap_out l m e (sym (kind_kept l) ∙ a) (sym (kind_kept m) ∙ b)))
    where
      wider : Gap l m → Gap (trimmed v l) (trimmed v m)
      wider (inl q) = inl (omega (arith, q, (ends_kept l).1, (ends_kept m).0))
      wider (inr q) = inr (omega (arith, q, (ends_kept m).1, (ends_kept l).0))

  pairwise_trim : (r : Lock → Lock → Bool) (ls : List Lock)
      → ((l m : Lock) → m ∈ ls → r l m ≡ true → r (trimmed v l) (trimmed v m) ≡ true) → pairwise r ls ≡ true
      → pairwise r (map (trimmed v) ls) ≡ true
  pairwise_trim r [] f h = refl
  pairwise_trim r (l ∷ ls) f h =
      and_in
      (all_in (r (trimmed v l)) (map (trimmed v) ls) (λ x i. one x (Memᴰ.of_map (trimmed v) ls i)))
      (pairwise_trim r ls (λ a b i. f a b (Memᴰ.tail i)) (and_right (all (r l) ls) (pairwise r ls) h))
    where
      one : (x : Lock) → (m : Lock) × (m ∈ ls) × (trimmed v m ≡ x) → r (trimmed v l) x ≡ true
      one x w =
          rw w.2 at (f l w.0 (Memᴰ.tail w.1)
          (all_out (r l) ls (and_left (all (r l) ls) (pairwise r ls) h) w.0 w.1))

  pub trim_rises : (ls : List Lock) → ((l : Lock) → l ∈ ls → (l.owner ≡ SETTLED → ⊥) → v < l.low)
      → pairwise no_later ls ≡ true → pairwise no_later (trim_to v ls) ≡ true
  unfolding trim_to
  trim_rises ls f h =
      pairwise_trim no_later (keep (λ l. not (emptied v l)) ls)
      (λ l m i e. both_trimmed l m e (f m (keep_out (λ l. not (emptied v l)) ls i).0))
      (pairwise_keep no_later (λ l. not (emptied v l)) ls h)

  pub trim_joined : (ls : List Lock) → pairwise apart_reads ls ≡ true → pairwise apart_reads (trim_to v ls) ≡ true
  unfolding trim_to
  trim_joined ls h =
      pairwise_trim apart_reads (keep (λ l. not (emptied v l)) ls) (λ l m i e. apart_trimmed l m e)
      (pairwise_keep apart_reads (λ l. not (emptied v l)) ls h)
