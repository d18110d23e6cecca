-- The two ends of a Reach say, for every owner, how far the locks of the others reach. Rests on Sweep.
use Prim.Native.Nat.{ℕ, ◌≤◌, ◌<◌, max}
use mathlib.Core.Path.{◌≡◌, refl, sym, ap, ◌∙◌}
use mathlib.Core.Bool.{Bool, true, false, not, cond, ◌&&◌, ◌||◌}
use mathlib.Core.List.{List, [], ◌∷◌}
use native.Mathlib.Omega.{arith}
use native.Mathlib.Decide.{ℕ_discrete, dec_lt}
use lib.Dec.{ltb, eqb}
use borrow.Author.Tests.{eq-eqb, ne_eqb, lt-ltb, le-ltb}
use Rattle.std.specs.Prelude.{Option, None, Some, MatchOption}
use Rattle.types.specs.declared.Lock.{Lock}
use Rattle.meaning.specs.Lists.{all}
use Rattle.meaning.specs.Points.{is_owned}
use Rattle.sweeps.specs.declared.End.{End}
use Rattle.sweeps.specs.declared.Reach.{Reach}
use Rattle.sweeps.specs.Sweep.{later, below, beside, others, with_end, reached, no_reach}

-- how far the locks that pass q reach
abbrev pub farthest : (Lock → Bool) → List Lock → Option ℕ
farthest q [] = None
farthest q (p ∷ ps) = cond (q p) (Some (later (farthest q ps) p.high)) (farthest q ps)

-- those of owners other than k that pass q
abbrev pub of_others : (Lock → Bool) → ℕ → Lock → Bool
of_others q k p = not (is_owned k p) && q p

-- the others' end is no higher than the last one
abbrev Under : Option End → Option ℕ → Type 0
Under last other = MatchOption last (other ≡ None) (λ end. later other end.high ≡ end.high)

pub record Reaches (q : Lock → Bool) (s : Reach) (ps : List Lock) : Type 0 where
  pub exact : (k : ℕ) → others s k ≡ farthest (of_others q k) ps
  pub order : Under s.last s.other

pub reaches_none : (q : Lock → Bool) → Reaches q no_reach []
unfolding others
reaches_none q = record { exact = λ k. refl; order = refl }

-- a lock that does not pass q changes nothing
pub reaches_off : {q : Lock → Bool} {s : Reach} {ps : List Lock} (l : Lock) → q l ≡ false → Reaches q s ps
    → Reaches q s (l ∷ ps)
reaches_off {q} {s} {ps} l e v = record { exact = λ k. v.exact k ∙ sym (go k (is_owned k l)); order = v.order }
  where
    go : (k : ℕ) (b : Bool)
        → ◌≡◌ {A = Option ℕ} (cond (not b && q l) (Some (later (farthest (of_others q k) ps) l.high))
        (farthest (of_others q k) ps)) (farthest (of_others q k) ps)
    go k true = refl
    go k false = rw e refl

-- the later of an end and a higher one
later_up : (o : Option ℕ) (a b : ℕ) → later o a ≡ a → a ≤ b → later o b ≡ b
later_up None a b e l = refl
later_up (Some x) a b e l = omega (arith, e)

later_high : (o : Option ℕ) (a h : ℕ) → later o a ≡ a → h ≤ a → max (later o h) a ≡ a
later_high None a h e l = omega arith
later_high (Some x) a h e l = omega (arith, e)

-- one that does counts for all owners but its own
pub reaches_on : {q : Lock → Bool} {s : Reach} {ps : List Lock} (l : Lock) → q l ≡ true → Reaches q s ps
    → Reaches q (reached s l.owner l.high) (l ∷ ps)
unfolding others reached
reaches_on {q} {s} {ps} l e v = go s.last s.other v.exact v.order
  where
    -- what the locks say: j's others with l, where y is how far they reached
    other : (j : ℕ) (y : Option ℕ) → (l.owner ≡ j → ⊥) → farthest (of_others q j) ps ≡ y
        → farthest (of_others q j) (l ∷ ps) ≡ Some (later y l.high)
    other j y n z = rw (ne_eqb l.owner j n, e) (ap (λ y. Some (later y l.high)) z)

    own : (j : ℕ) (y : Option ℕ) → l.owner ≡ j → farthest (of_others q j) ps ≡ y → farthest (of_others q j) (l ∷ ps) ≡ y
    own j y n z = rw (eq-eqb l.owner j n) z

    go : (t : Option End) (o : Option ℕ) → ((j : ℕ) → beside t o j ≡ farthest (of_others q j) ps) → Under t o
        → Reaches q (with_end t o l.owner l.high) (l ∷ ps)
    go None o x u = record { exact = λ j. first j (ℕ_discrete l.owner j); order = ap (λ y. later y l.high) u }
      where
        first : (j : ℕ) → Dec (l.owner ≡ j)
            → cond (eqb l.owner j) o (Some l.high) ≡ farthest (of_others q j) (l ∷ ps)
        first j (yes n) = ap (λ b. cond b o (Some l.high)) (eq-eqb l.owner j n) ∙ sym (own j o n (sym (x j)))
        first j (no n) = ap (λ b. cond b o (Some l.high)) (ne_eqb l.owner j n) ∙ sym (other j None n (sym (x j) ∙ u))
    go (Some t) o x u = some (ℕ_discrete t.owner l.owner) (dec_lt t.high l.high)
      where
        -- j's others, without l
        at_own : (j : ℕ) → t.owner ≡ j → farthest (of_others q j) ps ≡ o
        at_own j n = sym (x j) ∙ rw (eq-eqb t.owner j n) refl

        at_other : (j : ℕ) → (t.owner ≡ j → ⊥) → farthest (of_others q j) ps ≡ Some t.high
        at_other j n = sym (x j) ∙ rw (ne_eqb t.owner j n) refl

        some : Dec (t.owner ≡ l.owner) → Dec (t.high < l.high) → Reaches q (with_end (Some t) o l.owner l.high) (l ∷ ps)
        some (yes w) d = rw (eq-eqb t.owner l.owner w) (record {
          exact = λ j. same j (ℕ_discrete l.owner j);
          order = later_up o t.high (max t.high l.high) u (omega arith);
        })
          where
            same : (j : ℕ) → Dec (l.owner ≡ j)
                → cond (eqb t.owner j) o (Some (max t.high l.high)) ≡ farthest (of_others q j) (l ∷ ps)
            same j (yes n) = rw (eq-eqb t.owner j (w ∙ n)) (sym (own j o n (at_own j (w ∙ n))))
            same j (no n) =
                rw (ne_eqb t.owner j (λ z. n (sym w ∙ z)))
                (sym (other j (Some t.high) n (at_other j (λ z. n (sym w ∙ z)))))
        some (no w) (yes d) = rw (ne_eqb t.owner l.owner w, lt-ltb t.high l.high d) (record {
          exact = λ j. new j (ℕ_discrete l.owner j) (ℕ_discrete t.owner j);
          order = omega arith;
        })
          where
            new : (j : ℕ) → Dec (l.owner ≡ j) → Dec (t.owner ≡ j)
                → cond (eqb l.owner j) (Some t.high) (Some l.high) ≡ farthest (of_others q j) (l ∷ ps)
            new j (yes n) m =
                ap (λ b. cond b (Some t.high) (Some l.high)) (eq-eqb l.owner j n)
                ∙ sym (own j (Some t.high) n (at_other j (λ z. w (z ∙ sym n))))
            new j (no n) (yes m) =
                ap (λ b. cond b (Some t.high) (Some l.high)) (ne_eqb l.owner j n)
                ∙ sym (other j o n (at_own j m) ∙ ap Some (later_up o t.high l.high u (omega arith)))
            new j (no n) (no m) =
                let y : max t.high l.high ≡ l.high = omega arith in
                ap (λ b. cond b (Some t.high) (Some l.high)) (ne_eqb l.owner j n)
                ∙ sym (other j (Some t.high) n (at_other j m) ∙ ap Some y)
        some (no w) (no d) = rw (ne_eqb t.owner l.owner w, le-ltb t.high l.high (omega arith)) (record {
          exact = λ j. under j (ℕ_discrete l.owner j) (ℕ_discrete t.owner j);
          order = later_high o t.high l.high u (omega arith);
        })
          where
            under : (j : ℕ) → Dec (l.owner ≡ j) → Dec (t.owner ≡ j)
                → cond (eqb t.owner j) (Some (later o l.high)) (Some t.high) ≡ farthest (of_others q j) (l ∷ ps)
            under j (yes n) m =
                rw (ne_eqb t.owner j (λ z. w (z ∙ sym n)))
                (sym (own j (Some t.high) n (at_other j (λ z. w (z ∙ sym n)))))
            under j (no n) (yes m) = rw (eq-eqb t.owner j m) (sym (other j o n (at_own j m)))
            under j (no n) (no m) =
                let y : max t.high l.high ≡ t.high = omega arith in
                rw (ne_eqb t.owner j m) (sym (other j (Some t.high) n (at_other j m) ∙ ap Some y))

-- an end and another lie below c exactly if each does
below_later : (o : Option ℕ) (h c : ℕ) → ltb (later o h) c ≡ (ltb h c && below o c)
below_later None h c = go (ltb h c)
  where
    go : (b : Bool) → b ≡ (b && true)
    go true = refl
    go false = refl
below_later (Some x) h c = two (dec_lt h c) (dec_lt x c)
  where
    two : Dec (h < c) → Dec (x < c) → ltb (max x h) c ≡ (ltb h c && ltb x c)
    two (yes a) (yes b) = lt-ltb (max x h) c (omega arith) ∙ sym (rw (lt-ltb h c a) (lt-ltb x c b))
    two (yes a) (no b) = le-ltb (max x h) c (omega arith) ∙ sym (rw (lt-ltb h c a) (le-ltb x c (omega arith)))
    two (no a) b = le-ltb (max x h) c (omega arith) ∙ sym (rw (le-ltb h c (omega arith)) refl)

-- locks reach no further than below c exactly if each does not
pub farthest_all : (q : Lock → Bool) (c : ℕ) (ps : List Lock)
    → below (farthest q ps) c ≡ all (λ p. not (q p) || ltb p.high c) ps
farthest_all q c [] = refl
farthest_all q c (p ∷ ps) = go (q p) ∙ ap (λ b. (not (q p) || ltb p.high c) && b) (farthest_all q c ps)
  where
    go : (b : Bool)
        → below (cond b (Some (later (farthest q ps) p.high)) (farthest q ps)) c
        ≡ ((not b || ltb p.high c) && below (farthest q ps) c)
    go true = below_later (farthest q ps) p.high c
    go false = refl
