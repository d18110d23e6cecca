-- The search for the nearest point, access by access: one pass over the first accesses, passes until none moves the
-- point, one access more. `allow x` says which accesses allow the point at distance x. Rests on Common and Fronts.
use Prim.Native.Nat.{ℕ, suc, ◌+◌, ◌≤◌, ◌<◌}
use mathlib.Core.Path.{◌≡◌, refl, sym, ap, subst, ◌∙◌}
use mathlib.Core.Logic.{◌⊎◌, inl, inr}
use mathlib.Core.Bool.{Bool, true, false}
use mathlib.Core.List.{List, [], ◌∷◌}
use native.Mathlib.Omega.{arith}
use lib.Dec.{ltb}
use lib.ListN.{take, drop}
use borrow.Author.Tests.{ltb-true, ltb-false}
use Rattle.types.specs.Limits.{LAST}
use Rattle.meaning.specs.Lists.{all}
use Rattle.meaning.specs.Sound.{names_existing}
use Rattle.types.specs.declared.Access.{Access}
use Rattle.types.specs.declared.Counts.{Counts}
use Rattle.meaning.proofs.Lists.{and_in, and_left, and_right, test}
use Rattle.tables.specs.Decode.{slot_at, records_of}
use Rattle.std.specs.Prelude.{Option, None, Some}
use Rattle.common.specs.Commit.{LeastFrom, Lifted, NextFrom, first_accesses, Next}
use Rattle.common.proofs.Common.{Named, named_all, named_on}
use Rattle.common.proofs.Fronts.{either_side, taken, none_taken, next_front, next_last, next_both, left_after}
use Rattle.common.proofs.Fronts.{access_counted, next_access, accesses_all, front_of_all}

-- One pass: q so far, with the accesses xs of which those in rest are still to be asked
pub record Raising (allow : ℕ → Access → Bool) (xs rest : List Access) (p q : ℕ) : Type 0 where
  pub from : p ≤ q
  pub top : q ≤ suc LAST
  pub ahead : (x : ℕ) → all (allow x) xs ≡ true → all (allow x) rest ≡ true
  pub passed : (x : ℕ) → p ≤ x → x < q → all (allow x) xs ≡ true → ⊥
  pub still : q ≡ p → q ≤ LAST → all (allow q) rest ≡ true → all (allow q) xs ≡ true

module _ {allow : ℕ → Access → Bool} {xs : List Access} {p : ℕ} where
  pub raise_start : {left : List Access} → p ≤ suc LAST → left ≡ xs → Raising allow xs left p p
  raise_start h s = rw s (record {
    from = omega arith;
    top = h;
    ahead = λ x e. e;
    passed = λ x f g. absurd (omega arith);
    still = λ e l r. r;
  })

  raising_on : {a : Access} {rest : List Access} {q y : ℕ} → Raising allow xs (a ∷ rest) p q
      → LeastFrom (λ x. allow x a) q y → Raising allow xs rest p y
  raising_on {a} {rest} {q} {y} i b =
      record {
        from = omega (arith, i.from, b.from);
        top = b.top;
        ahead = λ x e. and_right (allow x a) (all (allow x) rest) (i.ahead x e);
        passed = λ x f g e. go x f g e (test (ltb x q));
        still = λ e l r.
            let s : q ≡ y = omega (arith, i.from, b.from) in
            rw s at
            (i.still (omega (arith, i.from, b.from)) (omega (arith, b.from))
            (subst (λ z. all (allow z) (a ∷ rest) ≡ true) (sym s) (and_in (b.inside l) r)));
      }
    where
      go : (x : ℕ) → p ≤ x → x < y → all (allow x) xs ≡ true → (ltb x q ≡ true) ⊎ (ltb x q ≡ false) → ⊥
      go x f g e (inl t) = i.passed x f (ltb-true x q t) e
      go x f g e (inr t) = b.least x (ltb-false x q t) g (and_left (allow x a) (all (allow x) rest) (i.ahead x e))

  -- as the code walks: of what is left, the next n
  pub raise_on : (n m : ℕ) {a : Access} {left rest : List Access} {q y : ℕ} → Raising allow xs (take n left) p q
      → left ≡ a ∷ rest → m + 1 ≡ n → LeastFrom (λ x. allow x a) q y → Raising allow xs (take m rest) p y
  raise_on n m {q = q} i e s b = raising_on (subst (λ ys. Raising allow xs ys p q) (taken n m e s) i) b

  pub raise_done : {left : List Access} {q : ℕ} (n : ℕ) → Raising allow xs (take n left) p q → (0 < n → left ≡ [])
      → Lifted (λ x. all (allow x) xs) p q
  raise_done {left} {q} n i e = done (subst (λ ys. Raising allow xs ys p q) (none_taken n e) i)
    where
      done : Raising allow xs [] p q → Lifted (λ x. all (allow x) xs) p q
      done i = record { from = i.from; top = i.top; passed = i.passed; still = λ e l. i.still e l refl }

  -- an access allows no point from q on
  pub raise_out : (n m : ℕ) {a : Access} {left rest : List Access} {q : ℕ} → Raising allow xs (take n left) p q
      → left ≡ a ∷ rest → m + 1 ≡ n → LeastFrom (λ x. allow x a) q (suc LAST)
      → Lifted (λ x. all (allow x) xs) p (suc LAST)
  raise_out n m i e s b =
      let r = raise_on n m i e s b in
      record { from = r.from; top = r.top; passed = r.passed; still = λ f l. absurd (omega arith) }

-- Passes until none moves the point
pub record Lifting (set : ℕ → Bool) (p q : ℕ) : Type 0 where
  pub from : p ≤ q
  pub top : q ≤ suc LAST
  pub passed : (x : ℕ) → p ≤ x → x < q → set x ≡ true → ⊥

module _ {set : ℕ → Bool} {p q : ℕ} (i : Lifting set p q) where
  pub lift_on : {x : ℕ} → Lifted set q x → Lifting set p x
  lift_on {x} r =
      record {
        from = omega (arith, i.from, r.from);
        top = r.top;
        passed = λ y f g t. either_side y q (λ l. i.passed y f l t) (λ l. r.passed y l g t);
      }

  pub lift_found : {x : ℕ} → Lifted set q x → x ≡ q → q ≤ LAST → LeastFrom set p q
  lift_found r e l =
      record { from = i.from; top = i.top; inside = λ m. rw e at (r.still e (omega (arith, e))); least = i.passed }

pub lift_none : {set : ℕ → Bool} {p : ℕ} → Lifting set p (suc LAST) → LeastFrom set p (suc LAST)
lift_none i = record { from = i.from; top = i.top; inside = λ l. absurd (omega arith); least = i.passed }

-- The search goes on from q, with no point of the set passed on the way there
least_after : {set : ℕ → Bool} {p q y : ℕ} → p ≤ q → ((x : ℕ) → p ≤ x → x < q → set x ≡ true → ⊥) → LeastFrom set q y
    → LeastFrom set p y
least_after {set} {p} {q} h n r =
    record {
      from = omega (arith, r.from);
      top = r.top;
      inside = r.inside;
      least = λ x f g t. either_side x q (λ l. n x f l t) (λ l. r.least x l g t);
    }

-- One access more, a
module _ (allow : ℕ → Access → Bool) {c : Counts} {w : List ℕ} {k j : ℕ} {a : Access} (s : Next c w k j a) {p q : ℕ}
    (i : LeastFrom (λ x. all (allow x) (first_accesses c w k j)) 1 p) (b : LeastFrom (λ x. allow x a) p q) where
  abbrev xs : List Access
  xs = first_accesses c w k j

  abbrev ys : List Access
  ys = first_accesses c w k (j + 1)

  next_more : {y : ℕ} → LeastFrom (λ x. all (allow x) ys) q y → LeastFrom (λ x. all (allow x) ys) 1 y
  next_more r =
      least_after i.from (λ x f g t. i.least x f g (next_front c w k (allow x) s t))
      (least_after b.from (λ x f g t. b.least x f g (next_last c w k (allow x) s t)) r)

  -- q is the point if the first j accesses allow it
  next_at : (q ≤ LAST → all (allow q) xs ≡ true) → LeastFrom (λ x. all (allow x) ys) 1 q
  next_at h =
      next_more (record {
        from = omega arith;
        top = b.top;
        inside = λ l. next_both c w k (allow q) s (h l) (b.inside l);
        least = λ x f g. absurd (omega arith);
      })

  pub next_same : q ≡ p → LeastFrom (λ x. all (allow x) ys) 1 p
  next_same e = rw e at (next_at (λ l. rw e (i.inside (omega arith))))

  pub next_none : LAST < q → LeastFrom (λ x. all (allow x) ys) 1 q
  next_none h = next_at (λ l. absurd (omega arith))

  -- a pass over the first j, which leads to y
  module _ {y : ℕ} (r : Lifted (λ x. all (allow x) xs) q y) where
    pub next_still : y ≡ q → LeastFrom (λ x. all (allow x) ys) 1 y
    next_still e = rw (sym e) at (next_at (λ l. rw e at (r.still e (omega arith))))

    pub next_moved : {z : ℕ} → LeastFrom (λ x. all (allow x) ys) y z → LeastFrom (λ x. all (allow x) ys) 1 z
    next_moved t = next_more (least_after r.from (λ x f g u. r.passed x f g (next_front c w k (allow x) s u)) t)

    pub next_out : y ≡ suc LAST → LeastFrom (λ x. all (allow x) ys) 1 y
    next_out e =
        next_moved (record {
          from = omega arith;
          top = r.top;
          inside = λ l. absurd (omega arith);
          least = λ x f g. absurd (omega arith);
        })

    pub next_to : (z : Option ℕ) → NextFrom (λ x. all (allow x) ys) y z → NextFrom (λ x. all (allow x) ys) 1 z
    next_to None t = next_moved t
    next_to (Some z) t = (next_moved t.0, t.1)

-- The search over the accesses of slot k: p so far, the first j asked, left those still to be asked
pub record Seeking (allow : ℕ → Access → Bool) (c : Counts) (w : List ℕ) (k p j : ℕ) (left : List Access) : Type 0 where
  pub ahead : drop j (slot_at c w k).accesses ≡ left
  pub low : p ≤ LAST
  pub best : LeastFrom (λ x. all (allow x) (first_accesses c w k j)) 1 p
  pub named : Named c w left

module _ (allow : ℕ → Access → Bool) (c : Counts) (w : List ℕ) (k : ℕ) where
  pub seek_start : {n : ℕ} {left : List Access} → n ≡ 0 → left ≡ (slot_at c w k).accesses
      → names_existing (records_of c w) (slot_at c w k) ≡ true → Seeking allow c w k 1 n left
  unfolding first_accesses
  seek_start z e n =
      rw (z, e) (record {
        ahead = refl;
        low = omega arith;
        best =
            record {
              from = omega arith;
              top = omega arith;
              inside = λ l. refl;
              least = λ x f g. absurd (omega arith);
            };
        named = named_all c w k n;
      })

  -- no point is left: the rest cannot bring one back
  pub seek_out : {q : ℕ} (j : ℕ)
      → LeastFrom (λ x. all (allow x) (first_accesses c w k j)) 1 q → LAST < q
      → LeastFrom (λ x. all (allow x) (slot_at c w k).accesses) 1 q
  seek_out j b l =
      record {
        from = b.from;
        top = b.top;
        inside = λ g. absurd (omega arith);
        least = λ x g h t. b.least x g h (front_of_all c w k (allow x) j t);
      }

  -- a is the next access, the one after the first n
  module _ {p n : ℕ} {left : List Access} (i : Seeking allow c w k p n left) where
    pub seek_next : {j : ℕ} {a : Access} {rest : List Access} → left ≡ a ∷ rest → j ≡ n
        → (j < c.accesses) × Next c w k j a
        × LeastFrom (λ x. all (allow x) (first_accesses c w k j)) 1 p
    seek_next {j} e s =
        let ahead = ap (λ m. drop m (slot_at c w k).accesses) s ∙ i.ahead ∙ e in (
          access_counted c w k j ahead,
          next_access c w k j ahead,
          subst (λ m. LeastFrom (λ x. all (allow x) (first_accesses c w k m)) 1 p) (sym s) i.best,
        )

    pub seek_on : {q j m : ℕ} {a : Access} {rest : List Access} → left ≡ a ∷ rest → j ≡ n → m ≡ n + 1
        → LeastFrom (λ x. all (allow x) (first_accesses c w k (j + 1))) 1 q → q ≤ LAST
        → Seeking allow c w k q m rest
    seek_on {q} e s t b l =
        record {
          ahead = ap (λ m. drop m (slot_at c w k).accesses) t ∙ left_after c w k n (i.ahead ∙ e);
          low = l;
          best =
              subst (λ m. LeastFrom (λ x. all (allow x) (first_accesses c w k m)) 1 q)
              (ap (λ m. m + 1) s ∙ sym t) b;
          named = named_on c w i.named e;
        }

    pub seek_done : left ≡ [] → LeastFrom (λ x. all (allow x) (slot_at c w k).accesses) 1 p
    seek_done e = rw (accesses_all c w k n (i.ahead ∙ e)) i.best
