-- The loop over a slot's accesses, which stamps each record it meets. Rests on Steps.
use Prim.Native.Nat.{ℕ, ◌≤◌, ◌<◌}
use mathlib.Core.Path.{◌≡◌, refl, sym, ap, ◌∙◌}
use mathlib.Core.Bool.{Bool, true, false, not}
use mathlib.Core.List.{List, [], ◌∷◌}
use native.Mathlib.Omega.{arith}
use native.Mathlib.Decide.{ℕ_discrete}
use lib.ListN.{length, get_or, set, length-set}
use lib.Seq.{get_or-set_same, get_or-set_other}
use lib.Dec.{eqb}
use borrow.Author.Tests.{eq-eqb, ne_eqb, lt-ltb, le-ltb}
use Rattle.meaning.specs.Store.{Rec}
use Rattle.types.specs.declared.Access.{Access}
use Rattle.clauses.specs.Clauses.{read_sound, accesses_sound, Stamps}
use Rattle.clauses.proofs.Steps.{and_no, and_on}

-- one more stamp
pub stamped : {k : ℕ} {m : List ℕ} (r : ℕ) → Stamps k m → r < length m → Stamps k (set m r k)
stamped {k} {m} r s l = record { size = length-set m r k ∙ s.size; upto = λ i. go i (ℕ_discrete i r) }
  where
    go : (i : ℕ) → Dec (i ≡ r) → get_or (set m r k) i 0 ≤ k
    go i (yes p) = rw p (omega (arith, get_or-set_same m r k 0 l))
    go i (no p) = rw (get_or-set_other m r i k 0 p) (s.upto i)

-- the first access a, with its record as the row number r
module _ (rs : List Rec) (k : ℕ) (m : List ℕ) (a : Access) (rest : List Access) where
  cons_none : length rs ≤ a.rec → accesses_sound rs k m (a ∷ rest) ≡ false
  unfolding accesses_sound
  cons_none h = sym (and_no _ (le-ltb a.rec (length rs) h))

  module _ {r : ℕ} (l : a.rec < length rs) (er : r ≡ a.rec) where
    cons_twice : get_or m r 0 ≡ k → accesses_sound rs k m (a ∷ rest) ≡ false
    unfolding accesses_sound
    cons_twice h =
        sym (and_on (lt-ltb a.rec (length rs) l)
        (and_no _ (ap not (ap (λ x. eqb (get_or m x 0) k) (sym er) ∙ eq-eqb (get_or m r 0) k h))))

    module _ {b : Bool} (h : get_or m r 0 ≡ k → ⊥) (eb : b ≡ read_sound rs k a) where
      unstamped : not (eqb (get_or m a.rec 0) k) ≡ true
      unstamped = ap not (ap (λ x. eqb (get_or m x 0) k) (sym er) ∙ ne_eqb (get_or m r 0) k h)

      cons_bad : b ≡ false → accesses_sound rs k m (a ∷ rest) ≡ false
      unfolding accesses_sound
      cons_bad z = sym (and_on (lt-ltb a.rec (length rs) l) (and_on unstamped (and_no _ (sym eb ∙ z))))

      cons_good : b ≡ true → accesses_sound rs k m (a ∷ rest) ≡ accesses_sound rs k (set m r k) rest
      unfolding accesses_sound
      cons_good z =
          sym (and_on (lt-ltb a.rec (length rs) l)
          (and_on unstamped (and_on (sym eb ∙ z) (ap (λ x. accesses_sound rs k (set m x k) rest) er))))

nil_good : (rs : List Rec) (k : ℕ) (m : List ℕ) → accesses_sound rs k m [] ≡ true
unfolding accesses_sound
nil_good rs k m = refl

-- the turns and the exits; the accesses xs are still to come, and a is the next
module _ (rs : List Rec) (k : ℕ) (m : List ℕ) {xs : List Access} {answer : Bool}
    (i : accesses_sound rs k m xs ≡ answer) where
  pub stamp_done : xs ≡ [] → true ≡ answer
  stamp_done e = sym (ap (accesses_sound rs k m) e ∙ nil_good rs k m) ∙ i

  module _ {a : Access} {rest : List Access} (e : xs ≡ a ∷ rest) where
    pub stamp_none : length rs ≤ a.rec → false ≡ answer
    stamp_none o = sym (ap (accesses_sound rs k m) e ∙ cons_none rs k m a rest o) ∙ i

    module _ {r : ℕ} (l : a.rec < length rs) (er : r ≡ a.rec) where
      pub stamp_twice : get_or m r 0 ≡ k → false ≡ answer
      stamp_twice o = sym (ap (accesses_sound rs k m) e ∙ cons_twice rs k m a rest l er o) ∙ i

      module _ {b : Bool} (o : get_or m r 0 ≡ k → ⊥) (eb : b ≡ read_sound rs k a) where
        pub stamp_bad : b ≡ false → false ≡ answer
        stamp_bad z = sym (ap (accesses_sound rs k m) e ∙ cons_bad rs k m a rest l er o eb z) ∙ i

        pub stamp_on : b ≡ true → accesses_sound rs k (set m r k) rest ≡ answer
        stamp_on z = sym (ap (accesses_sound rs k m) e ∙ cons_good rs k m a rest l er o eb z) ∙ i
