-- The first accesses of a slot: how they grow by one, what a test of all of them says of the front, and what a closure
-- that needs the test of each item may be asked. Rests on Walks of `chains`.
use Prim.Native.Nat.{ℕ, zero, suc, ◌+◌, ◌^◌, ◌≤◌, ◌<◌}
use mathlib.Core.Path.{◌≡◌, refl, sym, ap, ◌∙◌}
use mathlib.Core.Logic.{◌⊎◌, inl, inr}
use mathlib.Core.Bool.{Bool, true, false}
use mathlib.Core.List.{List, [], ◌∷◌, ◌++◌, append-nil}
use native.Mathlib.Omega.{arith}
use lib.Dec.{ltb}
use lib.ListN.{length, take, drop, get_or, length-map, length-drop, take-append-drop}
use borrow.Author.Tests.{ltb-true, ltb-false}
use Rattle.std.specs.Iterator.{YieldsFirst, CallableAtEachTurn}
use Rattle.std.proofs.lemmas.Iterator.Consumers.{YieldsList-from_first}
use Rattle.std.proofs.lemmas.Iterator.Adapters.{serves_from_places}
use Rattle.chains.specs.Table.{link, chain, front, head_of, rows_of}
use Rattle.chains.proofs.Walks.{rows_length}
use Rattle.meaning.specs.Lists.{all}
use Rattle.types.specs.declared.Access.{Access}
use Rattle.types.specs.declared.Counts.{Counts}
use Rattle.meaning.proofs.Lists.{and_in, and_left, and_right, test}
use Rattle.tables.specs.Layout.{access_table, access_heads, Ranged}
use Rattle.tables.specs.Decode.{access_at, accesses_of, access_rows, slot_at}
use Rattle.common.specs.Commit.{first_accesses, Next}

-- a number is below m or at least m; for a search that goes on from m
pub either_side : (x m : ℕ) → (x < m → ⊥) → (m ≤ x → ⊥) → ⊥
either_side x m f g = go (test (ltb x m))
  where
    go : (ltb x m ≡ true) ⊎ (ltb x m ≡ false) → ⊥
    go (inl t) = f (ltb-true x m t)
    go (inr t) = g (ltb-false x m t)

module _ {A : Type 0} (p : A → Bool) where
  pub all_front : (xs ys : List A) → all p (xs ++ ys) ≡ true → all p xs ≡ true
  all_front [] ys e = refl
  all_front (x ∷ xs) ys e =
      and_in (and_left (p x) (all p (xs ++ ys)) e) (all_front xs ys (and_right (p x) (all p (xs ++ ys)) e))

  pub all_last : (xs : List A) (y : A) → all p (xs ++ (y ∷ [])) ≡ true → p y ≡ true
  all_last [] y e = and_left (p y) true e
  all_last (x ∷ xs) y e = all_last xs y (and_right (p x) (all p (xs ++ (y ∷ []))) e)

  all_at : (xs : List A) (i : ℕ) (x : A) → i < length xs → x ≡ get_or xs i x → all p xs ≡ true → p x ≡ true
  all_at [] i x l e t = absurd (omega arith)
  all_at (y ∷ ys) zero x l e t = ap p e ∙ and_left (p y) (all p ys) t
  all_at (y ∷ ys) (suc i) x l e t = all_at ys i x (omega arith) e (and_right (p y) (all p ys) t)

  all_snoc : (xs : List A) (y : A) → all p xs ≡ true → p y ≡ true → all p (xs ++ (y ∷ [])) ≡ true
  all_snoc [] y e f = and_in f refl
  all_snoc (x ∷ xs) y e f = and_in (and_left (p x) (all p xs) e) (all_snoc xs y (and_right (p x) (all p xs) e) f)

-- the list behind its first j
module _ {A : Type 0} where
  pub take_next : (xs : List A) (j : ℕ) {a : A} {rest : List A} → drop j xs ≡ a ∷ rest
      → (take (suc j) xs ≡ take j xs ++ (a ∷ [])) × (drop (suc j) xs ≡ rest)
  take_next [] zero e = absurd (omega (arith, ap length e))
  take_next [] (suc j) e = absurd (omega (arith, ap length e))
  take_next (x ∷ xs) zero e = (ap (take 1) e, ap (drop 1) e)
  take_next (x ∷ xs) (suc j) e = let n = take_next xs j e in (ap (λ y. x ∷ y) n.0, n.1)

  -- what `take` gives of a list
  pub taken : (n m : ℕ) {a : A} {xs rest : List A} → xs ≡ a ∷ rest → m + 1 ≡ n → take n xs ≡ a ∷ take m rest
  taken n m {xs = xs} e s = let t : n ≡ suc m = omega (arith, s) in ap (λ i. take i xs) t ∙ ap (take (suc m)) e

  pub none_taken : (n : ℕ) {xs : List A} → (0 < n → xs ≡ []) → take n xs ≡ []
  none_taken zero e = refl
  none_taken (suc n) e = ap (take (suc n)) (e (omega arith))

-- a closure that is called at each item, and asks that the item passes p
module _ {S A F : Type 0} {rest : S → List A} (p : A → Bool) {s : S} {xs : List A} where
  pub asked_each : {R : F → A → F → Type 0} {Q : F → A → Type 0} {f : F} → rest s ≡ xs → all p xs ≡ true
      → ((x : A) (q : F) → R f x q → q ≡ f) → ((x : A) → p x ≡ true → Q f x)
      → CallableAtEachTurn (YieldsFirst rest) R Q s f
  asked_each e t stays h =
      serves_from_places (YieldsList-from_first (λ x. x) rest xs e) stays (λ x k l j. h x (all_at p xs k x l j t))

-- the same of the accesses of slot k
module _ (c : Counts) (w : List ℕ) (k : ℕ) where
  pub few_accesses : length (slot_at c w k).accesses ≤ c.accesses
  unfolding slot_at accesses_of access_rows rows_of chain front access_table
  few_accesses =
      rw (length-map (front (access_table c) w c.accesses (head_of (access_heads c) w k)) (access_at c w))
      (rows_length (link (access_table c) w) c.accesses c.accesses (head_of (access_heads c) w k))

  pub first_taken : {n j : ℕ} {left : List Access} → n ≡ j → left ≡ (slot_at c w k).accesses
      → take n left ≡ first_accesses c w k j
  unfolding first_accesses
  first_taken {j = j} {left} s e = ap (λ i. take i left) s ∙ ap (take j) e

  -- a walk of them can be counted
  pub countable : {n : ℕ} {left : List Access} → Ranged c → n ≡ 0 → left ≡ (slot_at c w k).accesses
      → n + length left < 2 ^ 64
  countable r s e = omega (arith, s, ap length e, few_accesses, r.accesses_high)

  module _ (j : ℕ) {a : Access} {rest : List Access} (e : drop j (slot_at c w k).accesses ≡ a ∷ rest) where
    pub next_access : Next c w k j a
    unfolding first_accesses
    next_access =
        let s : j + 1 ≡ suc j = omega arith in
        record { joined = ap (λ i. take i (slot_at c w k).accesses) s ∙ (take_next (slot_at c w k).accesses j e).0 }

    pub left_after : drop (j + 1) (slot_at c w k).accesses ≡ rest
    left_after =
        let s : j + 1 ≡ suc j = omega arith in
        ap (λ i. drop i (slot_at c w k).accesses) s ∙ (take_next (slot_at c w k).accesses j e).1

    pub access_counted : j < c.accesses
    access_counted = omega (arith, few_accesses, length-drop j (slot_at c w k).accesses, ap length e)

  -- what one access more and those before it pass, those before it pass, and so does it; and back
  pub next_front : {j : ℕ} {a : Access} (p : Access → Bool) → Next c w k j a
      → all p (first_accesses c w k (j + 1)) ≡ true → all p (first_accesses c w k j) ≡ true
  next_front {j} {a} p s e = all_front p (first_accesses c w k j) (a ∷ []) (rw s.joined at e)

  pub next_last : {j : ℕ} {a : Access} (p : Access → Bool) → Next c w k j a
      → all p (first_accesses c w k (j + 1)) ≡ true → p a ≡ true
  next_last {j} {a} p s e = all_last p (first_accesses c w k j) a (rw s.joined at e)

  pub next_both : {j : ℕ} {a : Access} (p : Access → Bool) → Next c w k j a
      → all p (first_accesses c w k j) ≡ true → p a ≡ true → all p (first_accesses c w k (j + 1)) ≡ true
  next_both {j} {a} p s e f = rw s.joined (all_snoc p (first_accesses c w k j) a e f)

  -- what all accesses pass, the first j pass; and where none is left behind them, they are all
  pub front_of_all : (p : Access → Bool) (j : ℕ) → all p (slot_at c w k).accesses ≡ true
      → all p (first_accesses c w k j) ≡ true
  unfolding first_accesses
  front_of_all p j e =
      let xs = (slot_at c w k).accesses in
      all_front p (take j xs) (drop j xs) (ap (all p) (take-append-drop j xs) ∙ e)

  pub accesses_all : (j : ℕ) → drop j (slot_at c w k).accesses ≡ [] → (slot_at c w k).accesses ≡ first_accesses c w k j
  unfolding first_accesses
  accesses_all j e =
      let xs = (slot_at c w k).accesses in
      sym (take-append-drop j xs) ∙ ap (λ ys. take j xs ++ ys) e ∙ append-nil (take j xs)
