-- One version more in its place, and how many versions a commit adds: no more than there are written accesses. Rests on
-- Lists.
use Prim.Native.Nat.{ℕ, suc, ◌+◌, ◌≤◌, ◌<◌}
use native.Mathlib.Omega.{arith}
use native.Mathlib.Nat.{le_refl}
use mathlib.Core.Path.{◌≡◌, refl}
use mathlib.Core.Logic.{◌⊎◌, inl, inr}
use mathlib.Core.Bool.{Bool, true, false, cond, ◌&&◌}
use mathlib.Core.List.{List, [], ◌∷◌}
use lib.Dec.{ltb, eqb}
use lib.ListN.{length}
use borrow.Author.Tests.{ltb-true, ltb-false, lt-ltb, eqb-true, ne_eqb}
use Rattle.meaning.specs.Lists.{◌∈◌, keep, find, pairwise, total, map_from}
use Rattle.meaning.specs.Store.{Version, Access, Rec, Edit, is_of, no_access, access_of, written_of}
use Rattle.meaning.specs.Ending.{insert, new_version, committed_rec}
use Rattle.meaning.proofs.Lists.{length_put_before, put_before_new, put_before_old, put_before_out}
use Rattle.meaning.proofs.Lists.{put_before_pairwise}
use Rattle.meaning.proofs.Lists.{test}
use Rattle.meaning.specs.Store.{has_written}

-- as in versions_fall
abbrev pub newer : Version → Version → Bool
newer v w = ltb w.point v.point

module _ (v : Version) (ws : List Version) where
  pub length_insert : length (insert v ws) ≡ suc (length ws)
  length_insert = length_put_before (newer v) v ws

  pub insert_new : v ∈ insert v ws
  insert_new = put_before_new (newer v) v ws

  pub insert_old : {x : Version} → x ∈ ws → x ∈ insert v ws
  insert_old m = put_before_old (newer v) v ws m

  pub insert_out : {x : Version} → x ∈ insert v ws → (x ≡ v) ⊎ (x ∈ ws)
  insert_out m = put_before_out (newer v) v ws m

  pub insert_falls : ((x : Version) → x ∈ ws → x.point ≡ v.point → ⊥) → pairwise newer ws ≡ true
      → pairwise newer (insert v ws) ≡ true
  insert_falls n e =
      put_before_pairwise (newer v) v newer newer
      (λ x y h q.
      lt-ltb y.point v.point (omega (arith, ltb-true y.point x.point h, ltb-true x.point v.point q)))
      ws (λ x i q. q)
      (λ x i q.
      let d = n x i in
      lt-ltb v.point x.point (omega (arith, ltb-false x.point v.point q, d)))
      e e

-- how many of the records i, i + 1.. pass
abbrev bit : Bool → ℕ
bit true = 1
bit false = 0

abbrev passing : (ℕ → Bool) → ℕ → List Rec → ℕ
passing p i [] = 0
passing p i (x ∷ xs) = bit (p i) + passing p (suc i) xs

passing_add : (p q q' : ℕ → Bool) → ((i : ℕ) → bit (p i) ≤ bit (q i) + bit (q' i)) → (i : ℕ) (xs : List Rec)
    → passing p i xs ≤ passing q i xs + passing q' i xs
passing_add p q q' f i [] = le_refl 0
passing_add p q q' f i (x ∷ xs) = omega (arith, f i, passing_add p q q' f (suc i) xs)

passing_past : (c : ℕ) (w : Bool) (i : ℕ) (xs : List Rec) → c < i → passing (λ r. eqb c r && w) i xs ≡ 0
passing_past c w i [] h = refl
passing_past c w i (x ∷ xs) h =
    rw (ne_eqb c i (λ z. omega arith)) (omega (arith, passing_past c w (suc i) xs (omega arith)))

passing_one : (c : ℕ) (w : Bool) (i : ℕ) (xs : List Rec) → passing (λ r. eqb c r && w) i xs ≤ bit w
passing_one c w i [] = omega arith
passing_one c w i (x ∷ xs) = go (test (eqb c i)) (passing_one c w (suc i) xs)
  where
    go : (eqb c i ≡ true) ⊎ (eqb c i ≡ false) → passing (λ r. eqb c r && w) (suc i) xs ≤ bit w
        → bit (eqb c i && w) + passing (λ r. eqb c r && w) (suc i) xs ≤ bit w
    go (inl q) ih = rw q (omega (arith, passing_past c w (suc i) xs (omega (arith, eqb-true c i q))))
    go (inr q) ih = rw q (omega (arith, ih))

passing_none : (i : ℕ) (xs : List Rec) → passing (λ r. false) i xs ≡ 0
passing_none i [] = refl
passing_none i (x ∷ xs) = omega (arith, passing_none (suc i) xs)

-- the records written are no more than the written accesses
written_few : (acc : List Access) (i : ℕ) (xs : List Rec)
    → passing (λ r. has_written (find (is_of r) (no_access r) acc)) i xs ≤ length (keep (λ a. has_written a) acc)
written_few [] i xs = omega (arith, passing_none i xs)
written_few (a ∷ acc) i xs =
    omega (
      arith,
      passing_add (λ r. has_written (find (is_of r) (no_access r) (a ∷ acc))) (λ r. eqb a.rec r && has_written a)
          (λ r. has_written (find (is_of r) (no_access r) acc)) each i xs,
      passing_one a.rec (has_written a) i xs,
      written_few acc i xs,
      kept (has_written a),
    )
  where
    each : (r : ℕ) → bit (has_written (find (is_of r) (no_access r) (a ∷ acc)))
        ≤ bit (eqb a.rec r && has_written a) + bit (has_written (find (is_of r) (no_access r) acc))
    each r = go (eqb a.rec r)
      where
        go : (b : Bool) → bit (has_written (cond b a (find (is_of r) (no_access r) acc)))
            ≤ bit (b && has_written a) + bit (has_written (find (is_of r) (no_access r) acc))
        go true = omega arith
        go false = omega arith

    kept : (b : Bool) → bit b + length (keep (λ x. has_written x) acc)
        ≤ length (cond b (a ∷ keep (λ x. has_written x) acc) (keep (λ x. has_written x) acc))
    kept true = omega arith
    kept false = omega arith

versions_more : (e : Edit) (t i : ℕ) (xs : List Rec)
    → total (λ x. length x.versions) (map_from i (committed_rec e t) xs)
    ≡ total (λ x. length x.versions) xs + passing (λ r. has_written (access_of e r)) i xs
versions_more e t i [] = refl
versions_more e t i (x ∷ xs) = omega (arith, versions_more e t (suc i) xs, one (has_written (access_of e i)))
  where
    one : (b : Bool) → length (cond b (insert (new_version (access_of e i) t) x.versions) x.versions)
        ≡ length x.versions + bit b
    one true = omega (arith, length_insert (new_version (access_of e i) t) x.versions)
    one false = omega arith

pub versions_added : (e : Edit) (t : ℕ) (xs : List Rec)
    → total (λ x. length x.versions) (map_from 0 (committed_rec e t) xs)
    ≤ total (λ x. length x.versions) xs + length (written_of e)
unfolding access_of
versions_added e t xs = omega (arith, versions_more e t 0 xs, written_few e.accesses 0 xs)
