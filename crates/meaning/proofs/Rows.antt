-- A joined list of locks stays joined, and it has no more settled read rows than any list with the same points; lists
-- up to their order (Perm). Rests on Joining.
use Prim.Native.Nat.{ℕ, suc, ◌-◌, ◌≤◌, ◌<◌}
use native.Mathlib.Nat.{le_refl}
use Rattle.meaning.specs.Pointwise.{LockOn}
use mathlib.Core.List.Memᴰ
use native.Mathlib.Omega.{arith}
use mathlib.Core.Path.{◌≡◌, refl, sym, ap, ◌∙◌}
use mathlib.Core.Logic.{◌⊎◌, inl, inr, ◌↔◌}
use mathlib.Core.Bool.{Bool, true, false, not, cond, ◌&&◌, ◌||◌}
use mathlib.Core.List.{List, [], ◌∷◌, map}
use lib.Dec.{leb, ltb, eqb}
use lib.ListN.{length, length-map}
use borrow.Author.Tests.{leb-true, leb-false, le-leb, eqb-true, eq-eqb, not-true, ltb-true, ltb-false, lt-ltb}
use Rattle.meaning.specs.Lists.{◌∈◌, keep, all, pairwise}
use Rattle.types.specs.Limits.{READ, SETTLED}
use Rattle.meaning.specs.Store.{Lock}
use Rattle.meaning.specs.Points.{is_owned}
use Rattle.meaning.specs.Points.{put_lock, is_settled_read, touches, joined_row, join_read, no_later, apart_reads}
use Rattle.meaning.proofs.Lists.{and_in, and_left, and_right, or_out, or_left, or_right, test, keep_in, keep_out}
use Rattle.meaning.proofs.Lists.{all_in, all_out, pairwise_keep, pairwise_out, not_both}
use Rattle.meaning.proofs.Lists.{implies_in, implies_out}
use Rattle.meaning.proofs.Tests.{owned_in, owned_out}
use Rattle.meaning.proofs.Joining.{Touching, put_pairwise, row_own, row_out}

-- two settled read rows with a free point between them
abbrev pub Gap : Lock → Lock → Type 0
Gap l m = (suc l.high < m.low) ⊎ (suc m.high < l.low)

pub gap_out : (l m : Lock) → apart_reads l m ≡ true → is_settled_read l ≡ true → is_settled_read m ≡ true
    → Gap l m
gap_out l m e a b =
    go (or_out (ltb (suc l.high) m.low) (ltb (suc m.high) l.low)
    (implies_out (is_settled_read l && is_settled_read m)
    (ltb (suc l.high) m.low || ltb (suc m.high) l.low) e (and_in a b)))
  where
    go : (ltb (suc l.high) m.low ≡ true) ⊎ (ltb (suc m.high) l.low ≡ true) → Gap l m
    go (inl q) = inl (ltb-true (suc l.high) m.low q)
    go (inr q) = inr (ltb-true (suc m.high) l.low q)

pub gap_in : (l m : Lock) → (is_settled_read l ≡ true → is_settled_read m ≡ true → Gap l m)
    → apart_reads l m ≡ true
gap_in l m f =
    implies_in (is_settled_read l && is_settled_read m)
    (ltb (suc l.high) m.low || ltb (suc m.high) l.low)
    (λ e. go (f (and_left (is_settled_read l) (is_settled_read m) e)
    (and_right (is_settled_read l) (is_settled_read m) e)))
  where
    go : Gap l m → (ltb (suc l.high) m.low || ltb (suc m.high) l.low) ≡ true
    go (inl q) = or_left (ltb (suc m.high) l.low) (lt-ltb (suc l.high) m.low q)
    go (inr q) = or_right (ltb (suc l.high) m.low) (lt-ltb (suc m.high) l.low q)

gap_sym : (l m : Lock) → Gap l m → Gap m l
gap_sym l m (inl q) = inr q
gap_sym l m (inr q) = inl q

module _ (low high : ℕ) (span : low ≤ high) (ls : List Lock) (proper : (l : Lock) → l ∈ ls → l.low ≤ l.high)
    (joined : pairwise apart_reads ls ≡ true) where
  abbrev row : Lock
  row = joined_row low high ls

  abbrev rest : List Lock
  rest = keep (λ l. not (touches low high l)) ls

  gap_of : (l m : Lock) → l ∈ ls → m ∈ ls → is_settled_read l ≡ true → is_settled_read m ≡ true
      → (l ≡ m) ⊎ Gap l m
  gap_of l m i j a b = go (pairwise_out apart_reads ls joined i j)
    where
      go : (l ≡ m) ⊎ ((apart_reads l m ≡ true) ⊎ (apart_reads m l ≡ true)) → (l ≡ m) ⊎ Gap l m
      go (inl z) = inl z
      go (inr (inl e)) = inr (gap_out l m e a b)
      go (inr (inr e)) = inr (gap_sym m l (gap_out m l e b a))

  touching_read : (t : Lock) → Touching low high t → is_settled_read t ≡ true
  touching_read t w = and_in (owned_in SETTLED t w.owned) (eq-eqb t.mode READ w.moded)

  -- a settled read row that stays is apart from low..high, so from all that the joined row takes in
  module _ (m : Lock) (i : m ∈ ls) (b : is_settled_read m ≡ true) (n : touches low high m ≡ false) where
    aside : (suc high < m.low) ⊎ (suc m.high < low)
    aside = go (test (leb m.low (suc high))) (test (leb low (suc m.high)))
      where
        go : (leb m.low (suc high) ≡ true) ⊎ (leb m.low (suc high) ≡ false)
            → (leb low (suc m.high) ≡ true) ⊎ (leb low (suc m.high) ≡ false)
            → (suc high < m.low) ⊎ (suc m.high < low)
        go (inl x) (inl y) = absurd (not_both (and_in b (and_in x y)) n)
        go (inr x) y = inl (leb-false m.low (suc high) x)
        go (inl x) (inr y) = inr (leb-false low (suc m.high) y)

    -- the point p is not a neighbour of m
    far : (t : Lock) → t ∈ ls → Touching low high t → (t ≡ m) ⊎ Gap t m → (t ≡ m → ⊥) × Gap t m
    far t j w (inl z) = absurd (not_both (and_in (touching_read t w) (and_in (le-leb t.low (suc high) w.from)
        (le-leb low (suc t.high) w.upto))) (rw (← z) at n))
    far t j w (inr g) = (
      λ z. absurd (not_both (and_in (touching_read t w) (and_in (le-leb t.low (suc high) w.from)
          (le-leb low (suc t.high) w.upto))) (rw (← z) at n)),
      g,
    )

    pub row_gap : Gap row m
    row_gap = go aside
      where
        upper : suc high < m.low
            → ((low ≤ row.high) × (row.high ≤ high))
            ⊎ ((t : Lock) × (t ∈ ls) × Touching low high t × (t.low ≤ row.high) × (row.high ≤ t.high))
            → Gap row m
        upper h (inl s) = inl (omega (arith, s.1))
        upper h (inr t) = side (far t.0 t.1 t.2 (gap_of t.0 m t.1 i (touching_read t.0 t.2) b)).1
          where
            side : Gap t.0 m → Gap row m
            side (inl g) = inl (omega (arith, g, t.4))
            side (inr g) = absurd (omega (arith, g, h, t.2.from, proper m i))

        lower : suc m.high < low
            → ((low ≤ row.low) × (row.low ≤ high))
            ⊎ ((t : Lock) × (t ∈ ls) × Touching low high t × (t.low ≤ row.low) × (row.low ≤ t.high))
            → Gap row m
        lower h (inl s) = inr (omega (arith, s.0))
        lower h (inr t) = side (far t.0 t.1 t.2 (gap_of t.0 m t.1 i (touching_read t.0 t.2) b)).1
          where
            side : Gap t.0 m → Gap row m
            side (inl g) = absurd (omega (arith, g, h, t.2.upto, proper m i))
            side (inr g) = inr (omega (arith, g, t.3))

        whole : row.low ≤ row.high
        whole = omega (arith, (row_own low high ls).0, (row_own low high ls).1, span)

        go : (suc high < m.low) ⊎ (suc m.high < low) → Gap row m
        go (inl h) = upper h (row_out low high ls row.high whole (omega arith))
        go (inr h) = lower h (row_out low high ls row.low (omega arith) whole)

  -- "join settled read rows that overlap or adjoin": none are left that do
  pub join_joined : pairwise no_later ls ≡ true → pairwise apart_reads (join_read low high ls) ≡ true
  join_joined rises =
      put_pairwise row rest apart_reads
      (λ x i q. gap_in row x (λ a b. stay x i b))
      (λ x i q. gap_in x row (λ a b. gap_sym row x (stay x i a)))
      (pairwise_keep no_later (λ l. not (touches low high l)) ls rises)
      (pairwise_keep apart_reads (λ l. not (touches low high l)) ls joined)
    where
      stay : (x : Lock) → x ∈ rest → is_settled_read x ≡ true → Gap row x
      stay x i b =
          let k = keep_out (λ l. not (touches low high l)) ls i in
          row_gap x k.0 b (not-true (touches low high x) k.1)

-- a row that is no settled read goes among the others
pub put_joined : (l : Lock) (ms : List Lock) → is_settled_read l ≡ false → pairwise no_later ms ≡ true
    → pairwise apart_reads ms ≡ true → pairwise apart_reads (put_lock l ms) ≡ true
put_joined l ms n s e =
    put_pairwise l ms apart_reads (λ x i q. gap_in l x (λ a b. absurd (not_both a n)))
    (λ x i q. gap_in x l (λ a b. absurd (not_both b n))) s e

-- lists up to their order
pub data Perm {A : Type 0} : List A → List A → Type 0 where
  none : Perm [] []
  skip : {x : A} {xs ys : List A} → Perm xs ys → Perm (x ∷ xs) (x ∷ ys)
  swap : {x y : A} {xs : List A} → Perm (x ∷ y ∷ xs) (y ∷ x ∷ xs)
  then : {xs ys zs : List A} → Perm xs ys → Perm ys zs → Perm xs zs

module _ {A : Type 0} where
  pub perm_refl : (xs : List A) → Perm xs xs
  perm_refl [] = none
  perm_refl (x ∷ xs) = skip (perm_refl xs)

  pub perm_length : {xs ys : List A} → Perm xs ys → length xs ≡ length ys
  perm_length none = refl
  perm_length (skip p) = ap suc (perm_length p)
  perm_length swap = refl
  perm_length (then p q) = perm_length p ∙ perm_length q

pub put_perm : (l : Lock) (ms : List Lock) → Perm (l ∷ ms) (put_lock l ms)
put_perm l [] = skip none
put_perm l (m ∷ ms) = go (leb l.low m.low) (put_perm l ms)
  where
    go : (b : Bool) → Perm (l ∷ ms) (put_lock l ms)
        → Perm (l ∷ m ∷ ms) (cond b (l ∷ m ∷ ms) (m ∷ put_lock l ms))
    go true ih = perm_refl (l ∷ m ∷ ms)
    go false ih = then swap (skip ih)

-- numbers that rise strictly and all occur in ys are no more than ys
abbrev without : ℕ → List ℕ → List ℕ
without x [] = []
without x (y ∷ ys) = cond (eqb x y) ys (y ∷ without x ys)

without_length : (x : ℕ) (ys : List ℕ) → x ∈ ys → suc (length (without x ys)) ≡ length ys
without_length x [] i = absurd (Memᴰ.not-nil i)
without_length x (y ∷ ys) i = go (test (eqb x y)) (Memᴰ.cases_cons i) (without_length x ys)
  where
    go : (eqb x y ≡ true) ⊎ (eqb x y ≡ false) → (x ≡ y) ⊎ (x ∈ ys)
        → (x ∈ ys → suc (length (without x ys)) ≡ length ys) → suc (length (without x (y ∷ ys))) ≡ suc (length ys)
    go (inl q) c ih = rw q refl
    go (inr q) (inl z) ih = absurd (not_both (eq-eqb x y z) q)
    go (inr q) (inr j) ih = rw q (ap suc (ih j))

without_in : (x z : ℕ) (ys : List ℕ) → z ∈ ys → (z ≡ x → ⊥) → z ∈ without x ys
without_in x z [] i n = absurd (Memᴰ.not-nil i)
without_in x z (y ∷ ys) i n = go (test (eqb x y)) (Memᴰ.cases_cons i) (λ j. without_in x z ys j n)
  where
    go : (eqb x y ≡ true) ⊎ (eqb x y ≡ false) → (z ≡ y) ⊎ (z ∈ ys) → (z ∈ ys → z ∈ without x ys)
        → z ∈ without x (y ∷ ys)
    go (inl q) (inl e) ih = absurd (n (e ∙ sym (eqb-true x y q)))
    go (inl q) (inr j) ih = rw q j
    go (inr q) (inl e) ih = rw q (Memᴰ.head e)
    go (inr q) (inr j) ih = rw q (Memᴰ.tail (ih j))

abbrev below : ℕ → ℕ → Bool
below x y = ltb x y

pub pigeons : (xs ys : List ℕ) → pairwise below xs ≡ true → ((x : ℕ) → x ∈ xs → x ∈ ys) → length xs ≤ length ys
pigeons [] ys s f = omega arith
pigeons (x ∷ xs) ys s f =
    omega (
      arith,
      without_length x ys (f x (Memᴰ.head refl)),
      pigeons xs (without x ys) (and_right (all (below x) xs) (pairwise below xs) s)
          (λ z i. without_in x z ys (f z (Memᴰ.tail i))
          (λ e. omega (
            arith,
            e,
            ltb-true x z
                (all_out (below x) xs (and_left (all (below x) xs) (pairwise below xs) s) z i),
          ))),
    )

-- the joined table has no more settled read rows than any list of rows with the same points under them
module _ (old new : List Lock) (same : (p : ℕ) → LockOn old SETTLED READ p ↔ LockOn new SETTLED READ p)
    (proper : (l : Lock) → l ∈ new → l.low ≤ l.high) (rises : pairwise no_later new ≡ true)
    (joined : pairwise apart_reads new ≡ true) where
  abbrev reads : List Lock → List Lock
  reads ls = keep is_settled_read ls

  read_parts : (l : Lock) → is_settled_read l ≡ true → (l.owner ≡ SETTLED) × (l.mode ≡ READ)
  read_parts l e = (
    owned_out SETTLED l (and_left (is_owned SETTLED l) (eqb l.mode READ) e),
    eqb-true l.mode READ (and_right (is_owned SETTLED l) (eqb l.mode READ) e),
  )

  lows_rise : (ms : List Lock) → ((l : Lock) → l ∈ ms → (l.low ≤ l.high) × (is_settled_read l ≡ true))
      → pairwise no_later ms ≡ true → pairwise apart_reads ms ≡ true
      → pairwise below (map (λ l. l.low) ms) ≡ true
  lows_rise [] f r j = refl
  lows_rise (l ∷ ms) f r j =
      and_in
      (all_in (below l.low) (map (λ m. m.low) ms) (λ x i. later x (Memᴰ.of_map (λ m. m.low) ms i)))
      (lows_rise ms (λ m i. f m (Memᴰ.tail i))
      (and_right (all (no_later l) ms) (pairwise no_later ms) r)
      (and_right (all (apart_reads l) ms) (pairwise apart_reads ms) j))
    where
      later : (x : ℕ) → (m : Lock) × (m ∈ ms) × (m.low ≡ x) → below l.low x ≡ true
      later x w =
          let m : Lock = w.0 in
          let here = f l (Memᴰ.head refl) in
          let there = f m (Memᴰ.tail w.1) in
          let a = leb-true l.low m.low
          (all_out (no_later l) ms (and_left (all (no_later l) ms) (pairwise no_later ms) r) m w.1) in
          let b = gap_out l m
          (all_out (apart_reads l) ms (and_left (all (apart_reads l) ms) (pairwise apart_reads ms) j) m w.1)
          here.1 there.1 in
          lt-ltb l.low x (go m w.2 a here.0 there.0 b)
        where
          go : (m : Lock) → m.low ≡ x → l.low ≤ m.low → l.low ≤ l.high → m.low ≤ m.high → Gap l m → l.low < x
          go m z a h t (inl g) = omega (arith, z, h, g)
          go m z a h t (inr g) = absurd (omega (arith, a, t, g))

  -- a joined row starts where an old one starts: its first point is locked, the one before is not
  low_in : (l : Lock) → l ∈ new → is_settled_read l ≡ true → l.low ∈ map (λ m. m.low) (reads old)
  low_in l i e =
      let w = (same l.low).1
      (record {
        lock = l;
        member = i;
        owned = (read_parts l e).0;
        moded = (read_parts l e).1;
        from = le_refl l.low;
        upto = proper l i;
      }) in
      start w.lock w.member w.owned w.moded w.from w.upto (test (ltb w.lock.low l.low))
    where
      clash : (m : Lock) → m ∈ new → is_settled_read m ≡ true → m.low < l.low → l.low ≤ suc m.high
          → (l ≡ m) ⊎ ((apart_reads l m ≡ true) ⊎ (apart_reads m l ≡ true)) → ⊥
      clash m j b x y (inl z) = omega (arith, ap (λ k. k.low) z, x)
      clash m j b x y (inr (inl g)) = go (gap_out l m g e b)
        where
          go : Gap l m → ⊥
          go (inl q) = omega (arith, q, x, proper l i)
          go (inr q) = omega (arith, q, y)
      clash m j b x y (inr (inr g)) = go (gap_out m l g b e)
        where
          go : Gap m l → ⊥
          go (inl q) = omega (arith, q, y)
          go (inr q) = omega (arith, q, x, proper l i)

      start : (o : Lock) → o ∈ old → o.owner ≡ SETTLED → o.mode ≡ READ → o.low ≤ l.low → l.low ≤ o.high
          → (ltb o.low l.low ≡ true) ⊎ (ltb o.low l.low ≡ false) → l.low ∈ map (λ m. m.low) (reads old)
      start o j a b x y (inr q) =
          let z : o.low ≡ l.low = omega (arith, x, ltb-false o.low l.low q) in
          rw (← z) (Memᴰ.map (λ m. m.low)
          (keep_in is_settled_read j (and_in (owned_in SETTLED o a) (eq-eqb o.mode READ b))))
      start o j a b x y (inl q) =
          let h = ltb-true o.low l.low q in
          let w = (same (l.low - 1)).0
          (record { lock = o; member = j; owned = a; moded = b; from = omega (arith, h); upto = omega (arith, y) }) in
          absurd (clash w.lock w.member
          (and_in (owned_in SETTLED w.lock w.owned) (eq-eqb w.lock.mode READ w.moded))
          (omega (arith, w.from, h)) (omega (arith, w.upto))
          (pairwise_out apart_reads new joined i w.member))

  pub fewer_reads : length (reads new) ≤ length (reads old)
  fewer_reads =
      omega (
        arith,
        length-map (reads new) (λ l. l.low),
        length-map (reads old) (λ l. l.low),
        pigeons (map (λ l. l.low) (reads new)) (map (λ l. l.low) (reads old))
            (lows_rise (reads new)
            (λ l i. let k = keep_out is_settled_read new i in (proper l k.0, k.1))
            (pairwise_keep no_later is_settled_read new rises)
            (pairwise_keep apart_reads is_settled_read new joined))
            (λ x i. into x (Memᴰ.of_map (λ l. l.low) (reads new) i)),
      )
    where
      into : (x : ℕ) → (m : Lock) × (m ∈ reads new) × (m.low ≡ x) → x ∈ map (λ l. l.low) (reads old)
      into x w = let k = keep_out is_settled_read new w.1 in rw w.2 at (low_in w.0 k.0 k.1)
