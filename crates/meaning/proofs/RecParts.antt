-- The clauses of soundness that speak of a record, each as the fact that it says, both ways: rec_out and rec-in. Rests
-- on Lists, Stores and Tests.
use Prim.Native.Nat.{ℕ, ◌≤◌, ◌<◌, max}
use native.Mathlib.Omega.{arith}
use mathlib.Core.Path.{◌≡◌, refl, sym, ap}
use mathlib.Core.Logic.{◌⊎◌, inl, inr}
use mathlib.Core.Bool.{Bool, true, false, not, ◌&&◌, ◌||◌}
use mathlib.Core.List.Memᴰ
use mathlib.Core.List.{List, [], ◌∷◌}
use lib.Dec.{leb, ltb, eqb}
use lib.ListN.{get_or}
use borrow.Author.Tests.{leb-true, leb-false, le-leb, ltb-true, lt-ltb, eqb-true, eqb-false, eq-eqb, not-true}
use Rattle.meaning.specs.Lists.{◌∈◌, all, any, pairwise}
use Rattle.types.specs.Limits.{LAST, READ, WRITE, SETTLED, FREE, COMMITTED}
use Rattle.meaning.specs.Store.{Version, Lock, Rec, Edit, edit_of, in_use, access_of}
use Rattle.meaning.specs.Points.{is_write, is_owned, covers, meets}
use Rattle.meaning.specs.Pointwise.{VersionOn}
use Rattle.meaning.specs.Sound.{locks_rise, reads_joined}
use Rattle.meaning.specs.Sound.{modes_listed, versions_fall, versions_lie, ends_at, versions_end, none_at_zero}
use Rattle.meaning.specs.Sound.{locks_lie}
use Rattle.meaning.specs.Sound.{owners_in_use, agree, writes_apart, wrote_at, backs, versions_backed, sound_rec}
use Rattle.meaning.specs.SoundFacts.{WroteAt, Backed, Span, SoundRec}
use Rattle.meaning.proofs.Lists.{and_in, and_left, and_right, or_out, or_left, or_right, test, not_both}
use Rattle.meaning.proofs.Lists.{every_at, any_in, any_out, all_in, all_out, pairwise_in, pairwise_out}
use Rattle.meaning.proofs.Stores.{used_in, used_out}
use Rattle.meaning.proofs.Tests.{covers_out, covers_in, meets_out, meets_in}
use Rattle.meaning.specs.Store.{has_written}

-- a lock's span
pub span_out : (floor : ℕ) (l : Lock) → (ltb floor l.low && (leb l.low l.high && leb l.high LAST)) ≡ true
    → Span floor l
span_out floor l e =
    let b = leb l.low l.high && leb l.high LAST in
    let f = and_right (ltb floor l.low) b e in
    record {
      above = ltb-true floor l.low (and_left (ltb floor l.low) b e);
      some = leb-true l.low l.high (and_left (leb l.low l.high) (leb l.high LAST) f);
      last = leb-true l.high LAST (and_right (leb l.low l.high) (leb l.high LAST) f);
    }

pub span_in : (floor : ℕ) (l : Lock) → Span floor l
    → (ltb floor l.low && (leb l.low l.high && leb l.high LAST)) ≡ true
span_in floor l s =
    and_in (lt-ltb floor l.low s.above)
    (and_in (le-leb l.low l.high s.some) (le-leb l.high LAST s.last))

-- a version chain ends at p exactly if it falls, lies at or above p and has a version at p
pub ends_out : (p : ℕ) (vs : List Version) → ends_at p vs ≡ true → (v : Version) × (v ∈ vs) × (v.point ≡ p)
ends_out p [] e = absurd (not_both e refl)
ends_out p (v ∷ []) e = (v, Memᴰ.head refl, eqb-true v.point p e)
ends_out p (v ∷ w ∷ vs) e = let i = ends_out p (w ∷ vs) e in (i.0, Memᴰ.tail i.1, i.2)

pub ends_in : (p : ℕ) (vs : List Version) → pairwise (λ v w. ltb w.point v.point) vs ≡ true
    → ((v : Version) → v ∈ vs → p ≤ v.point)
    → (v : Version) → v ∈ vs → v.point ≡ p → ends_at p vs ≡ true
ends_in p [] falls low v m e = absurd (Memᴰ.not-nil m)
ends_in p (w ∷ []) falls low v m e = go (Memᴰ.cases_cons m)
  where
    go : (v ≡ w) ⊎ (v ∈ []) → eqb w.point p ≡ true
    go (inl q) = eq-eqb w.point p (rw q at e)
    go (inr n) = absurd (Memᴰ.not-nil n)
ends_in p (w ∷ u ∷ vs) falls low v m e =
    go (Memᴰ.cases_cons m) (ends_in p (u ∷ vs) rest (λ x n. low x (Memᴰ.tail n)) v)
  where
    rest : pairwise (λ v w. ltb w.point v.point) (u ∷ vs) ≡ true
    rest =
        and_right (all (λ x. ltb x.point w.point) (u ∷ vs)) (pairwise (λ v w. ltb w.point v.point) (u ∷ vs))
        falls

    less : u.point < w.point
    less =
        ltb-true u.point w.point
        (all_out (λ x. ltb x.point w.point) (u ∷ vs)
        (and_left (all (λ x. ltb x.point w.point) (u ∷ vs)) (pairwise (λ v w. ltb w.point v.point) (u ∷ vs))
        falls)
        u (Memᴰ.head refl))

    go : (v ≡ w) ⊎ (v ∈ u ∷ vs) → (v ∈ u ∷ vs → v.point ≡ p → ends_at p (u ∷ vs) ≡ true) → ends_at p (u ∷ vs) ≡ true
    go (inl q) ih =
        let z : w.point ≡ p = rw q at e in
        absurd (omega (arith, less, low u (Memᴰ.tail (Memᴰ.head refl))))
    go (inr n) ih = ih n e

-- two locks agree exactly if one of a write pair of different owners shares no point with the other
pub agree_out : (l m : Lock) → agree l m ≡ true → (l.owner ≡ m.owner → ⊥) → (l.mode ≡ WRITE) ⊎ (m.mode ≡ WRITE)
    → (p : ℕ) → l.low ≤ p → p ≤ l.high → m.low ≤ p → p ≤ m.high → ⊥
unfolding agree
agree_out l m e other write p a b c d = go (or_out (is_owned l.owner m) _ e)
  where
    writes : (l.mode ≡ WRITE) ⊎ (m.mode ≡ WRITE) → (is_write l || is_write m) ≡ true
    writes (inl q) = or_left (is_write m) (eq-eqb l.mode WRITE q)
    writes (inr q) = or_right (is_write l) (eq-eqb m.mode WRITE q)

    shared : meets l.low l.high m ≡ true
    shared = meets_in l.low l.high m (record { starts = omega arith; ends = omega arith })

    far : (not (is_write l || is_write m) ≡ true) ⊎ (not (meets l.low l.high m) ≡ true) → ⊥
    far (inl q) = not_both (writes write) (not-true (is_write l || is_write m) q)
    far (inr q) = not_both shared (not-true (meets l.low l.high m) q)

    go : (is_owned l.owner m ≡ true) ⊎ ((not (is_write l || is_write m) || not (meets l.low l.high m)) ≡ true) → ⊥
    go (inl q) = other (sym (eqb-true m.owner l.owner q))
    go (inr q) = far (or_out (not (is_write l || is_write m)) (not (meets l.low l.high m)) q)

pub agree_in : (l m : Lock) → l.low ≤ l.high → m.low ≤ m.high
    → ((l.owner ≡ m.owner → ⊥) → (l.mode ≡ WRITE) ⊎ (m.mode ≡ WRITE) → (p : ℕ) → l.low ≤ p → p ≤ l.high
    → m.low ≤ p → p ≤ m.high → ⊥)
    → agree l m ≡ true
unfolding agree
agree_in l m x y f =
    go (test (is_owned l.owner m)) (test (is_write l || is_write m)) (test (meets l.low l.high m))
  where
    writes : (is_write l ≡ true) ⊎ (is_write m ≡ true) → (l.mode ≡ WRITE) ⊎ (m.mode ≡ WRITE)
    writes (inl q) = inl (eqb-true l.mode WRITE q)
    writes (inr q) = inr (eqb-true m.mode WRITE q)

    go : (is_owned l.owner m ≡ true) ⊎ (is_owned l.owner m ≡ false)
        → ((is_write l || is_write m) ≡ true) ⊎ ((is_write l || is_write m) ≡ false)
        → (meets l.low l.high m ≡ true) ⊎ (meets l.low l.high m ≡ false)
        → agree l m ≡ true
    go (inl q) w z = or_left (not (is_write l || is_write m) || not (meets l.low l.high m)) q
    go (inr q) (inr w) z =
        or_right (is_owned l.owner m)
        (or_left {a = not (is_write l || is_write m)} (not (meets l.low l.high m)) (ap not w))
    go (inr q) (inl w) (inr z) =
        or_right (is_owned l.owner m) (or_right (not (is_write l || is_write m)) (ap not z))
    go (inr q) (inl w) (inl z) =
        let a = meets_out l.low l.high m z in
        absurd
        (f (λ o. eqb-false m.owner l.owner q (sym o)) (writes (or_out (is_write l) (is_write m) w))
        (max l.low m.low)
        (omega arith) (omega arith) (omega arith) (omega arith))

-- a committed write, and the write lock that backs a version
pub wrote_out : (es : List Edit) (k r t : ℕ) → wrote_at es k r t ≡ true → WroteAt es k r t
unfolding wrote_at
wrote_out es k r t h =
    let e = edit_of es k in
    let b = eqb e.point t && has_written (access_of e r) in
    let f = and_right (eqb e.state COMMITTED) b h in
    record {
      state = eqb-true e.state COMMITTED (and_left (eqb e.state COMMITTED) b h);
      point = eqb-true e.point t (and_left (eqb e.point t) (has_written (access_of e r)) f);
      wrote = and_right (eqb e.point t) (has_written (access_of e r)) f;
    }

pub wrote_in : (es : List Edit) (k r t : ℕ) → WroteAt es k r t → wrote_at es k r t ≡ true
unfolding wrote_at
wrote_in es k r t w =
    and_in (eq-eqb (edit_of es k).state COMMITTED w.state)
    (and_in (eq-eqb (edit_of es k).point t w.point) w.wrote)

module _ (es : List Edit) (r p : ℕ) where
  pub backed_out : (ls : List Lock) → any (backs es r p) ls ≡ true → Backed es r p ls
  unfolding backs
  backed_out ls e =
      let w = any_out (backs es r p) ls e in
      let l = w.0 in
      let o = is_owned SETTLED l || wrote_at es l.owner r p in
      let f = and_right (is_write l) (covers p l && o) w.2 in
      let c = covers_out p l (and_left (covers p l) o f) in
      record {
        lock = l;
        member = w.1;
        write = eqb-true l.mode WRITE (and_left (is_write l) (covers p l && o) w.2);
        from = c.from;
        upto = c.upto;
        owner = go l (or_out (is_owned SETTLED l) (wrote_at es l.owner r p) (and_right (covers p l) o f));
      }
    where
      go : (l : Lock) → (is_owned SETTLED l ≡ true) ⊎ (wrote_at es l.owner r p ≡ true)
          → (l.owner ≡ SETTLED) ⊎ WroteAt es l.owner r p
      go l (inl q) = inl (eqb-true l.owner SETTLED q)
      go l (inr q) = inr (wrote_out es l.owner r p q)

  pub backed_in : (ls : List Lock) → Backed es r p ls → any (backs es r p) ls ≡ true
  unfolding backs
  backed_in ls b =
      let l = b.lock in
      any_in (backs es r p) b.member
      (and_in (eq-eqb l.mode WRITE b.write)
      (and_in (covers_in p l (record { from = b.from; upto = b.upto })) (go l b.owner)))
    where
      go : (l : Lock) → (l.owner ≡ SETTLED) ⊎ WroteAt es l.owner r p
          → (is_owned SETTLED l || wrote_at es l.owner r p) ≡ true
      go l (inl q) = or_left (wrote_at es l.owner r p) (eq-eqb l.owner SETTLED q)
      go l (inr q) = or_right (is_owned SETTLED l) (wrote_in es l.owner r p q)

-- tests of a list of tests, one after the other
infixr 4 ◌also◌
pub ◌also◌ : {a b : Bool} → a ≡ true → b ≡ true → (a && b) ≡ true
p also q = and_in p q

-- the tests of a record, in the order of sound_rec
abbrev pub rec_tests : List Edit → ℕ → Rec → List Bool
rec_tests es r x =
    modes_listed x
    ∷ versions_fall x
    ∷ versions_lie x
    ∷ versions_end x
    ∷ none_at_zero x
    ∷ locks_lie x
    ∷ owners_in_use es x
    ∷ writes_apart x
    ∷ versions_backed es r x
    ∷ locks_rise x
    ∷ reads_joined x
    ∷ []

module _ (es : List Edit) (r : ℕ) (x : Rec) where
  -- the tests of each element
  abbrev listed : Lock → Bool
  listed l = eqb l.mode READ || eqb l.mode WRITE

  abbrev within : Version → Bool
  within v = leb x.floor v.point && leb v.point LAST

  abbrev lies : Lock → Bool
  lies l = ltb x.floor l.low && (leb l.low l.high && leb l.high LAST)

  abbrev owned : Lock → Bool
  owned l = is_owned SETTLED l || in_use es l.owner

  abbrev backed : Version → Bool
  backed v = leb v.point x.floor || any (backs es r v.point) x.locks

  pub rec_out : sound_rec es r x ≡ true → SoundRec es r x
  unfolding sound_rec modes_listed versions_fall versions_lie versions_end none_at_zero locks_lie
      owners_in_use writes_apart
      versions_backed locks_rise reads_joined
  rec_out e =
      record {
        mode =
            λ l m. modes l
            (or_out (eqb l.mode READ) (eqb l.mode WRITE) (all_out listed x.locks (tests 0) l m));
        falls = tests 1;
        low =
            λ v m. leb-true x.floor v.point
            (and_left (leb x.floor v.point) (leb v.point LAST) (all_out within x.versions (tests 2) v m));
        high =
            λ v m. leb-true v.point LAST
            (and_right (leb x.floor v.point) (leb v.point LAST) (all_out within x.versions (tests 2) v m));
        base = λ h. based h (or_out (eqb x.floor 0) (ends_at x.floor x.versions) (tests 3));
        nonzero = λ v m. ltb-true 0 v.point (all_out (λ w. ltb 0 w.point) x.versions (tests 4) v m);
        span = λ l m. span_out x.floor l (all_out lies x.locks (tests 5) l m);
        owner =
            λ l m. owners l (or_out (is_owned SETTLED l) (in_use es l.owner) (all_out owned x.locks (tests 6) l m));
        apart = λ l m a b w o. parts l m w o (pairwise_out agree x.locks (tests 7) a b);
        backed =
            λ v m h. backing v h (or_out (leb v.point x.floor) (any (backs es r v.point) x.locks)
            (all_out backed x.versions (tests 8) v m));
        rises = tests 9;
        joined = tests 10;
      }
    where
      tests : (i : ℕ) → get_or (rec_tests es r x) i true ≡ true
      tests i = every_at (rec_tests es r x) e i

      modes : (l : Lock) → (eqb l.mode READ ≡ true) ⊎ (eqb l.mode WRITE ≡ true)
          → (l.mode ≡ READ) ⊎ (l.mode ≡ WRITE)
      modes l (inl q) = inl (eqb-true l.mode READ q)
      modes l (inr q) = inr (eqb-true l.mode WRITE q)

      based : 0 < x.floor → (eqb x.floor 0 ≡ true) ⊎ (ends_at x.floor x.versions ≡ true)
          → VersionOn x x.floor
      based h (inl q) = absurd (omega (arith, eqb-true x.floor 0 q))
      based h (inr q) =
          let w = ends_out x.floor x.versions q in record { version = w.0; member = w.1; stands = w.2 }

      owners : (l : Lock) → (is_owned SETTLED l ≡ true) ⊎ (in_use es l.owner ≡ true)
          → (l.owner ≡ SETTLED) ⊎ ((edit_of es l.owner).state ≡ FREE → ⊥)
      owners l (inl q) = inl (eqb-true l.owner SETTLED q)
      owners l (inr q) = inr (used_out es l.owner q)

      parts : (l m : Lock) → l.mode ≡ WRITE → (l.owner ≡ m.owner → ⊥)
          → (l ≡ m) ⊎ ((agree l m ≡ true) ⊎ (agree m l ≡ true))
          → (p : ℕ) → l.low ≤ p → p ≤ l.high → m.low ≤ p → p ≤ m.high → ⊥
      parts l m w o (inl q) p a b c d = o (ap (λ (n : Lock). n.owner) q)
      parts l m w o (inr (inl q)) p a b c d = agree_out l m q o (inl w) p a b c d
      parts l m w o (inr (inr q)) p a b c d = agree_out m l q (λ z. o (sym z)) (inr w) p c d a b

      backing : (v : Version) → x.floor < v.point
          → (leb v.point x.floor ≡ true) ⊎ (any (backs es r v.point) x.locks ≡ true)
          → Backed es r v.point x.locks
      backing v h (inl q) = absurd (omega (arith, leb-true v.point x.floor q))
      backing v h (inr q) = backed_out es r v.point x.locks q

  pub rec_in : SoundRec es r x → sound_rec es r x ≡ true
  unfolding sound_rec modes_listed versions_fall versions_lie versions_end none_at_zero locks_lie
      owners_in_use writes_apart
      versions_backed locks_rise reads_joined
  rec_in s =
      all_in listed x.locks (λ l m. modes l (s.mode l m))
      also s.falls
      also all_in within x.versions
      (λ v m. and_in (le-leb x.floor v.point (s.low v m)) (le-leb v.point LAST (s.high v m)))
      also ends (test (eqb x.floor 0))
      also all_in (λ w. ltb 0 w.point) x.versions (λ v m. lt-ltb 0 v.point (s.nonzero v m))
      also all_in lies x.locks (λ l m. span_in x.floor l (s.span l m))
      also all_in owned x.locks (λ l m. owners l (s.owner l m))
      also pairwise_in agree x.locks
      (λ l m a b. agree_in l m (s.span l a).some (s.span m b).some (parts l m a b))
      also all_in backed x.versions (λ v m. backing v m (test (leb v.point x.floor)))
      also s.rises
      also s.joined
      also refl
    where
      modes : (l : Lock) → (l.mode ≡ READ) ⊎ (l.mode ≡ WRITE) → listed l ≡ true
      modes l (inl q) = or_left (eqb l.mode WRITE) (eq-eqb l.mode READ q)
      modes l (inr q) = or_right (eqb l.mode READ) (eq-eqb l.mode WRITE q)

      ends : (eqb x.floor 0 ≡ true) ⊎ (eqb x.floor 0 ≡ false)
          → (eqb x.floor 0 || ends_at x.floor x.versions) ≡ true
      ends (inl q) = or_left (ends_at x.floor x.versions) q
      ends (inr q) =
          let h : 0 < x.floor = omega (arith, eqb-false x.floor 0 q) in
          let w = s.base h in
          or_right (eqb x.floor 0)
          (ends_in x.floor x.versions s.falls s.low w.version w.member w.stands)

      owners : (l : Lock) → (l.owner ≡ SETTLED) ⊎ ((edit_of es l.owner).state ≡ FREE → ⊥) → owned l ≡ true
      owners l (inl q) = or_left (in_use es l.owner) (eq-eqb l.owner SETTLED q)
      owners l (inr q) = or_right (is_owned SETTLED l) (used_in es l.owner q)

      parts : (l m : Lock) → l ∈ x.locks → m ∈ x.locks → (l.owner ≡ m.owner → ⊥)
          → (l.mode ≡ WRITE) ⊎ (m.mode ≡ WRITE)
          → (p : ℕ) → l.low ≤ p → p ≤ l.high → m.low ≤ p → p ≤ m.high → ⊥
      parts l m i j o (inl w) p a b c d = s.apart l m i j w o p a b c d
      parts l m i j o (inr w) p a b c d = s.apart m l j i w (λ z. o (sym z)) p c d a b

      backing : (v : Version) → v ∈ x.versions
          → (leb v.point x.floor ≡ true) ⊎ (leb v.point x.floor ≡ false) → backed v ≡ true
      backing v m (inl q) = or_left (any (backs es r v.point) x.locks) q
      backing v m (inr q) =
          or_right (leb v.point x.floor)
          (backed_in es r v.point x.locks (s.backed v m (leb-false v.point x.floor q)))
