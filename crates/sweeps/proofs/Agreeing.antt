-- One pass along a record's locks accepts exactly if their low ends rise, settled read locks are joined, and no write
-- lock shares a point with a lock of another owner. Rests on Reaching and on Lists of the crate `meaning`.
use Prim.Native.Nat.{ℕ, suc, ◌-◌, ◌≤◌, ◌<◌}
use mathlib.Core.Path.{◌≡◌, refl, sym, ap, ◌∙◌}
use mathlib.Core.Logic.{◌⊎◌, inl, inr}
use mathlib.Core.Bool.{Bool, true, false, not, cond, ◌&&◌, ◌||◌, and-false}
use mathlib.Core.List.Memᴰ
use mathlib.Core.List.{List, [], ◌∷◌}
use native.Mathlib.Omega.{arith}
use native.Mathlib.Decide.{ℕ_discrete, dec_le, dec_lt}
use lib.Dec.{leb, ltb, eqb}
use borrow.Author.Tests.{eq-eqb, ne_eqb, le-leb, lt-leb, lt-ltb, le-ltb, leb-true}
use Rattle.std.specs.Prelude.{Some}
use Rattle.types.specs.declared.Lock.{Lock}
use Rattle.meaning.specs.Lists.{◌∈◌, all, pairwise}
use Rattle.meaning.specs.Points.{is_write, is_settled_read, meets, no_later, apart_reads}
use Rattle.meaning.specs.Sound.{agree}
use Rattle.meaning.proofs.Lists.{and_left, and_right, test, all_in, all_out}
use Rattle.sweeps.specs.declared.Swept.{Swept}
use Rattle.sweeps.specs.Sweep.{others, reached, rises_now, joined_now, agrees_now, swept_now, passed, passing}
use Rattle.sweeps.specs.Sweep.{no_swept, later, below}
use Rattle.sweeps.proofs.Reaching.{Reaches, of_others, farthest, reaches_none, reaches_on, reaches_off}
use Rattle.sweeps.proofs.Reaching.{farthest_all}

-- locks that lie above 0 and have a point
abbrev pub Proper : List Lock → Type 0
Proper ls = (l : Lock) → l ∈ ls → (1 ≤ l.low) × (l.low ≤ l.high)

-- locks none of which starts after l
abbrev Before : List Lock → Lock → Type 0
Before ps l = (p : Lock) → p ∈ ps → p.low ≤ l.low

-- what a pass keeps, of the locks behind it
record SweptOf (s : Swept) (ps : List Lock) : Type 0 where
  joined : s.joined ≡ farthest is_settled_read ps
  all : Reaches (λ p. true) s.all ps
  writes : Reaches is_write s.writes ps

swept_none : SweptOf no_swept []
swept_none = record { joined = refl; all = reaches_none (λ p. true); writes = reaches_none is_write }

swept_on : {s : Swept} {ps : List Lock} (l : Lock) → SweptOf s ps → SweptOf (passed s l) (l ∷ ps)
unfolding passed
swept_on {s} {ps} l v = record {
  joined = ap (λ j. cond (is_settled_read l) (Some (later j l.high)) j) v.joined;
  all = reaches_on l refl v.all;
  writes = go (is_write l) refl;
}
  where
    go : (b : Bool) → is_write l ≡ b
        → Reaches is_write (cond b (reached s.writes l.owner l.high) s.writes) (l ∷ ps)
    go true e = reaches_on l e v.writes
    go false e = reaches_off l e v.writes

all_same : (f g : Lock → Bool) (ps : List Lock) → ((p : Lock) → p ∈ ps → f p ≡ g p) → all f ps ≡ all g ps
all_same f g [] h = refl
all_same f g (p ∷ ps) h =
    ap (λ b. b && all f ps) (h p (Memᴰ.head refl))
    ∙ ap (λ b. g p && b) (all_same f g ps (λ x m. h x (Memᴰ.tail m)))

swap : (a b c d : Bool) → ((a && b) && (c && d)) ≡ ((a && c) && (b && d))
swap true true c d = refl
swap true false true d = refl
swap true false false d = refl
swap false b c d = refl

all_both : (f g : Lock → Bool) (ps : List Lock) → all (λ p. f p && g p) ps ≡ (all f ps && all g ps)
all_both f g [] = refl
all_both f g (p ∷ ps) = ap (λ b. (f p && g p) && b) (all_both f g ps) ∙ swap (f p) (g p) (all f ps) (all g ps)

-- two locks of which the second starts no earlier
module _ (p l : Lock) (rise : p.low ≤ l.low) (some : l.low ≤ l.high) where
  same_owner : eqb l.owner p.owner ≡ eqb p.owner l.owner
  same_owner = go (ℕ_discrete l.owner p.owner)
    where
      go : Dec (l.owner ≡ p.owner) → eqb l.owner p.owner ≡ eqb p.owner l.owner
      go (yes e) = eq-eqb l.owner p.owner e ∙ sym (eq-eqb p.owner l.owner (sym e))
      go (no e) = ne_eqb l.owner p.owner e ∙ sym (ne_eqb p.owner l.owner (λ z. e (sym z)))

  apart_by : not (meets p.low p.high l) ≡ ltb p.high l.low
  apart_by = go (dec_le l.low p.high)
    where
      go : Dec (l.low ≤ p.high) → not (meets p.low p.high l) ≡ ltb p.high l.low
      go (yes e) = rw (le-leb l.low p.high e, le-leb p.low l.high (omega arith)) (sym (le-ltb p.high l.low e))
      go (no e) = rw (lt-leb l.low p.high (omega arith)) (sym (lt-ltb p.high l.low (omega arith)))

  -- agreement as the pass tests it, for a write lock and for a read lock
  agree_as : (b : Bool) → is_write l ≡ b
      → agree p l ≡ (not (of_others (λ x. cond b true (is_write x)) l.owner p) || ltb p.high l.low)
  unfolding agree
  agree_as b e = rw (same_owner, apart_by, e) (go (eqb p.owner l.owner) (is_write p) b)
    where
      go : (o v b : Bool)
          → (o || (not (v || b) || ltb p.high l.low)) ≡ (not (not o && cond b true v) || ltb p.high l.low)
      go true v b = refl
      go false true true = refl
      go false true false = refl
      go false false true = refl
      go false false false = refl

-- what is tested at one lock is how it stands to all behind it: agreement
agrees_now_lem : (s : Swept) (ps : List Lock) (l : Lock) → SweptOf s ps → Before ps l → 1 ≤ l.low → l.low ≤ l.high
    → agrees_now s l ≡ all (λ p. agree p l) ps
unfolding agrees_now
agrees_now_lem s ps l v rise pos some = go (is_write l) refl
  where
    go : (b : Bool) → is_write l ≡ b
        → below (others (cond b s.all s.writes) l.owner) l.low ≡ all (λ p. agree p l) ps
    go true e =
        ap (λ x. below x l.low) (v.all.exact l.owner)
        ∙ farthest_all (of_others (λ p. true) l.owner) l.low ps
        ∙ all_same _ _ ps (λ p m. sym (agree_as p l (rise p m) some true e))
    go false e =
        ap (λ x. below x l.low) (v.writes.exact l.owner)
        ∙ farthest_all (of_others is_write l.owner) l.low ps
        ∙ all_same _ _ ps (λ p m. sym (agree_as p l (rise p m) some false e))

less_pred : (a b : ℕ) → ltb (suc a) b ≡ ltb a (b - 1)
less_pred a b = go (dec_lt (suc a) b)
  where
    go : Dec (suc a < b) → ltb (suc a) b ≡ ltb a (b - 1)
    go (yes l) = lt-ltb (suc a) b l ∙ sym (lt-ltb a (b - 1) (omega arith))
    go (no l) = le-ltb (suc a) b (omega arith) ∙ sym (le-ltb a (b - 1) (omega arith))

-- and settled read locks
apart_as : (p l : Lock) → p.low ≤ l.low → l.low ≤ l.high → (b : Bool) → is_settled_read l ≡ b
    → apart_reads p l ≡ (not b || (not (is_settled_read p) || ltb p.high (l.low - 1)))
apart_as p l rise some b e =
    rw (e, le-ltb (suc l.high) p.low (omega arith), less_pred p.high l.low)
    (go (is_settled_read p) b (ltb p.high (l.low - 1)))
  where
    go : (x b y : Bool) → (not (x && b) || (y || false)) ≡ (not b || (not x || y))
    go true true true = refl
    go true true false = refl
    go true false y = refl
    go false true y = refl
    go false false y = refl

joined_now_lem : (s : Swept) (ps : List Lock) (l : Lock) → SweptOf s ps → Before ps l → 1 ≤ l.low → l.low ≤ l.high
    → joined_now s l ≡ all (λ p. apart_reads p l) ps
unfolding joined_now
joined_now_lem s ps l v rise pos some =
    go (is_settled_read l) refl
    ∙ all_same (λ p. not (is_settled_read l) || (not (is_settled_read p) || ltb p.high (l.low - 1)))
    (λ p. apart_reads p l) ps (λ p m. sym (apart_as p l (rise p m) some (is_settled_read l) refl))
  where
    go : (b : Bool) → is_settled_read l ≡ b
        → (not b || (ltb 0 l.low && below s.joined (l.low - 1)))
        ≡ all (λ p. not b || (not (is_settled_read p) || ltb p.high (l.low - 1))) ps
    go true e =
        ap (λ b. b && below s.joined (l.low - 1)) (lt-ltb 0 l.low pos) ∙ ap (λ x. below x (l.low - 1)) v.joined
        ∙ farthest_all is_settled_read (l.low - 1) ps
    go false e = sym (all_in (λ p. true) ps (λ p m. refl))

-- a pass whose test at each lock is how it stands to all behind it, from any lock on
module _ (rel : Lock → Lock → Bool) (now : Swept → Lock → Bool)
    (fit : (s : Swept) (ps : List Lock) (l : Lock) → SweptOf s ps → Before ps l → 1 ≤ l.low → l.low ≤ l.high
    → now s l ≡ all (λ p. rel p l) ps) where
  passing_from : (s : Swept) (ps ls : List Lock) → SweptOf s ps
      → ((p l : Lock) → p ∈ ps → l ∈ ls → p.low ≤ l.low) → Proper ls → pairwise no_later ls ≡ true
      → passing now s ls ≡ (all (λ l. all (λ p. rel p l) ps) ls && pairwise rel ls)
  unfolding passing
  passing_from s ps [] v under some rise = refl
  passing_from s ps (l ∷ ls) v under some rise =
      ap (λ b. b && passing now (passed s l) ls)
      (fit s ps l v (λ p m. under p l m (Memᴰ.head refl)) (some l (Memᴰ.head refl)).0
      (some l (Memᴰ.head refl)).1)
      ∙ ap (λ b. all (λ p. rel p l) ps && b)
      (passing_from (passed s l) (l ∷ ps) ls (swept_on l v) under_on (λ m k. some m (Memᴰ.tail k))
      (and_right (all (no_later l) ls) (pairwise no_later ls) rise))
      ∙ ap (λ b. all (λ p. rel p l) ps && (b && pairwise rel ls)) (all_both (rel l) (λ m. all (λ p. rel p m) ps) ls)
      ∙ turn (all (λ p. rel p l) ps) (all (rel l) ls) (all (λ m. all (λ p. rel p m) ps) ls)
    where
      under_on : (p m : Lock) → p ∈ (l ∷ ps) → m ∈ ls → p.low ≤ m.low
      under_on p m (Memᴰ.head e) k =
          rw e
          (leb-true l.low m.low
          (all_out (no_later l) ls (and_left (all (no_later l) ls) (pairwise no_later ls) rise) m k))
      under_on p m (Memᴰ.tail h) k = under p m h (Memᴰ.tail k)

      turn : (a f g : Bool) → (a && ((f && g) && pairwise rel ls)) ≡ ((a && g) && (f && pairwise rel ls))
      turn true true true = refl
      turn true true false = refl
      turn true false true = refl
      turn true false false = refl
      turn false f g = refl

  passing_is : (ls : List Lock) → pairwise no_later ls ≡ true → Proper ls → passing now no_swept ls ≡ pairwise rel ls
  passing_is ls rise some =
      passing_from no_swept [] ls swept_none (λ p l m k. absurd (Memᴰ.not-nil m)) some rise
      ∙ ap (λ b. b && pairwise rel ls) (all_in (λ l. true) ls (λ l m. refl))

-- a pass that tests the order, after a lock that starts at s's low end
rising_from : (s : Swept) (ls : List Lock)
    → passing rises_now s ls ≡ (all (λ l. leb s.low l.low) ls && pairwise no_later ls)
unfolding passing passed
rising_from s [] = refl
rising_from s (l ∷ ls) =
    ap (λ b. leb s.low l.low && b) (rising_from (passed s l) ls)
    ∙ go (test (leb s.low l.low)) (test (all (no_later l) ls))
  where
    go : (leb s.low l.low ≡ true) ⊎ (leb s.low l.low ≡ false)
        → (all (no_later l) ls ≡ true) ⊎ (all (no_later l) ls ≡ false)
        → (leb s.low l.low && (all (no_later l) ls && pairwise no_later ls))
        ≡ ((leb s.low l.low && all (λ m. leb s.low m.low) ls)
        && (all (no_later l) ls && pairwise no_later ls))
    go (inl a) (inl b) =
        let c : all (λ m. leb s.low m.low) ls ≡ true =
        all_in (λ m. leb s.low m.low) ls
        (λ m k. le-leb s.low m.low
        (omega (arith, leb-true s.low l.low a, leb-true l.low m.low (all_out (no_later l) ls b m k)))) in
        rw (a, c) refl
    go (inl a) (inr b) = rw (a, b) (sym (and-false (all (λ m. leb s.low m.low) ls)))
    go (inr a) b = rw a refl

-- a pass with two tests is two passes
pub passing_both : (f g : Swept → Lock → Bool) (s : Swept) (ls : List Lock)
    → passing (λ s l. f s l && g s l) s ls ≡ (passing f s ls && passing g s ls)
unfolding passing
passing_both f g s [] = refl
passing_both f g s (l ∷ ls) =
    ap (λ b. (f s l && g s l) && b) (passing_both f g (passed s l) ls)
    ∙ swap (f s l) (g s l) (passing f (passed s l) ls) (passing g (passed s l) ls)

-- the three clauses that compare a record's locks, in one pass
pub swept_is : (ls : List Lock) → Proper ls
    → passing swept_now no_swept ls ≡ (pairwise no_later ls && (pairwise apart_reads ls && pairwise agree ls))
swept_is ls some =
    passing_both rises_now (λ s l. joined_now s l && agrees_now s l) no_swept ls
    ∙ ap (λ b. b && passing (λ s l. joined_now s l && agrees_now s l) no_swept ls) rises
    ∙ go (test (pairwise no_later ls))
  where
    rises : passing rises_now no_swept ls ≡ pairwise no_later ls
    rises =
        rising_from no_swept ls
        ∙ ap (λ b. b && pairwise no_later ls)
        (all_in (λ l. leb 0 l.low) ls (λ l m. le-leb 0 l.low (omega arith)))

    go : (pairwise no_later ls ≡ true) ⊎ (pairwise no_later ls ≡ false)
        → (pairwise no_later ls && passing (λ s l. joined_now s l && agrees_now s l) no_swept ls)
        ≡ (pairwise no_later ls && (pairwise apart_reads ls && pairwise agree ls))
    go (inl e) =
        ap (λ b. pairwise no_later ls && b)
        (passing_both joined_now agrees_now no_swept ls
        ∙ ap (λ b. b && passing agrees_now no_swept ls) (passing_is apart_reads joined_now joined_now_lem ls e some)
        ∙ ap (λ b. pairwise apart_reads ls && b) (passing_is agree agrees_now agrees_now_lem ls e some))
    go (inr e) = rw e refl
