-- Changing the record of each access, one access after the other, changes every record by its own access, since an edit
-- names a record at most once. Rests on specs.Steps and Stores of `meaning`.
use Prim.Native.Nat.{ℕ, suc, ◌<◌}
use native.Mathlib.Omega.{arith}
use native.Mathlib.Decide.{ℕ_discrete}
use mathlib.Core.Path.{◌≡◌, refl, sym, ◌∙◌}
use mathlib.Core.Bool.{Bool, true, not}
use mathlib.Core.List.Memᴰ
use mathlib.Core.List.{List, [], ◌∷◌}
use lib.Dec.{eqb}
use lib.ListN.{length, set, length-set}
use lib.Seq.{ext_get_or, set-get_or}
use borrow.Author.Tests.{eq-eqb, ne_eqb, eqb-false, not-true}
use Rattle.meaning.specs.Lists.{◌∈◌, all, find, pairwise, map_from}
use Rattle.types.specs.declared.Access.{Access}
use Rattle.meaning.specs.Store.{Rec, Store, fresh_rec, rec_of, rec_at, with_rec, with_records, is_of, no_access}
use Rattle.meaning.proofs.Lists.{and_left, and_right, all_out, length_map_from}
use Rattle.meaning.proofs.Stores.{rec_same, rec_other, rec_map}
use Rattle.endings.specs.Steps.{Existing, changed, along}

-- two lists of records are equal by their records
pub recs_ext : (rs rs' : List Rec) → length rs ≡ length rs' → ((r : ℕ) → r < length rs → rec_of rs r ≡ rec_of rs' r)
    → rs ≡ rs'
unfolding rec_of
recs_ext rs rs' e f = ext_get_or fresh_rec rs rs' e f

pub rec_again : (s : Store) (r : ℕ) → with_rec s r (rec_at s r) ≡ s
unfolding with_records rec_of
rec_again s r = rw (set-get_or s.records r fresh_rec) refl

-- one record changed, then every record
module _ (f : ℕ → Rec → Rec) (rs : List Rec) (r : ℕ) (x : Rec) where
  length_both : length (map_from 0 f (set rs r x)) ≡ length rs
  length_both = length_map_from f 0 (set rs r x) ∙ length-set rs r x

  pub map_set : (g : ℕ → Rec → Rec) → r < length rs → f r x ≡ g r (rec_of rs r)
      → ((i : ℕ) → (i ≡ r → ⊥) → f i (rec_of rs i) ≡ g i (rec_of rs i)) → map_from 0 f (set rs r x) ≡ map_from 0 g rs
  map_set g h here there =
      recs_ext (map_from 0 f (set rs r x)) (map_from 0 g rs) (length_both ∙ sym (length_map_from g 0 rs)) at
    where
      one : (i : ℕ) → i < length rs → Dec (i ≡ r) → rec_of (map_from 0 f (set rs r x)) i ≡ rec_of (map_from 0 g rs) i
      one i l (yes e) =
          rw (e, rec_map f (set rs r x) r (omega (arith, length-set rs r x)), rec_same rs r x h, rec_map g rs r h) here
      one i l (no n) =
          rw (rec_map f (set rs r x) i (omega (arith, length-set rs r x)), rec_other rs r i x n, rec_map g rs i l)
          (there i n)

      at : (i : ℕ) → i < length (map_from 0 f (set rs r x))
          → rec_of (map_from 0 f (set rs r x)) i ≡ rec_of (map_from 0 g rs) i
      at i l = one i (omega (arith, length_both)) (ℕ_discrete i r)

-- each access names another record
abbrev pub apart : Access → Access → Bool
apart a b = not (eqb a.rec b.rec)

abbrev pub access_in : List Access → ℕ → Access
access_in acc r = find (is_of r) (no_access r) acc

-- a record that none names
none_in : (r : ℕ) (acc : List Access) → ((b : Access) → b ∈ acc → b.rec ≡ r → ⊥) → access_in acc r ≡ no_access r
none_in r [] f = refl
none_in r (a ∷ acc) f =
    rw (ne_eqb a.rec r (f a (Memᴰ.head refl))) (none_in r acc (λ b m. f b (Memᴰ.tail m)))

module _ (g : Access → Rec → Rec) (idle : (r : ℕ) (x : Rec) → g (no_access r) x ≡ x) where
  abbrev by_access : List Access → ℕ → Rec → Rec
  by_access acc r x = g (access_in acc r) x

  map_none : (i : ℕ) (rs : List Rec) → map_from i (by_access []) rs ≡ rs
  map_none i [] = refl
  map_none i (x ∷ rs) = rw (idle i x, map_none (suc i) rs)

  module _ (a : Access) (acc : List Access) (s : Store) where
    pub existing_rest : Existing s.records (a ∷ acc) → Existing (changed g a s).records acc
    unfolding changed with_records
    existing_rest f b m = rw (length-set s.records a.rec (g a (rec_at s a.rec))) (f b (Memᴰ.tail m))

    away : all (apart a) acc ≡ true → (b : Access) → b ∈ acc → b.rec ≡ a.rec → ⊥
    away q b m z = eqb-false a.rec b.rec (not-true (eqb a.rec b.rec) (all_out (apart a) acc q b m)) (sym z)

    one_more_lem : a.rec < length s.records → all (apart a) acc ≡ true
        → with_records (changed g a s) (map_from 0 (by_access acc) (changed g a s).records)
        ≡ with_records s (map_from 0 (by_access (a ∷ acc)) s.records)
    unfolding changed with_records
    one_more_lem h q =
        rw (map_set (by_access acc) s.records a.rec (g a (rec_at s a.rec)) (by_access (a ∷ acc)) h
        (rw (none_in a.rec acc (away q), idle a.rec (g a (rec_at s a.rec)), eq-eqb a.rec a.rec refl) refl)
        (λ i n. rw (ne_eqb a.rec i (λ z. n (sym z))) refl))
        refl

  pub along_all : (acc : List Access) (s : Store) → Existing s.records acc → pairwise apart acc ≡ true
      → along g acc s ≡ with_records s (map_from 0 (by_access acc) s.records)
  unfolding along with_records
  along_all [] s f e = rw (map_none 0 s.records) refl
  along_all (a ∷ acc) s f e =
      along_all acc (changed g a s) (existing_rest a acc s f) (and_right (all (apart a) acc) (pairwise apart acc) e)
      ∙ one_more_lem a acc s (f a (Memᴰ.head refl)) (and_left (all (apart a) acc) (pairwise apart acc) e)
