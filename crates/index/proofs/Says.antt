-- What the entries of an index say, and what a change of them keeps. Rests on specs.Index and specs.Entries.
use Prim.Native.Nat.{ℕ, ◌+◌, ◌*◌, ◌≤◌, ◌<◌}
use native.Mathlib.Omega.{arith}
use native.Mathlib.Decide.{ℕ_discrete, dec_lt}
use mathlib.Core.Path.{◌≡◌, refl, sym, ap, ◌∙◌}
use mathlib.Core.Logic.{◌⊎◌, inl, inr}
use mathlib.Core.Bool.{Bool, true, false}
use mathlib.Core.List.{List}
use lib.ListN.{length, get_or, set, length-set}
use lib.Seq.{get_or-set_same, get_or-set_other}
use lib.Dec.{eqb, leb}
use borrow.Author.Tests.{eq-eqb, ne_eqb, eqb-true, leb-true, le-leb, lt-leb}
use Rattle.types.specs.Limits.{SLOTS}
use Rattle.meaning.proofs.Lists.{not_both, and_left, and_right}
use Rattle.index.specs.Index.{MARKS, LISTS, LIST, LISTED, UNKNOWN, INDEX, mark_of, count_of, listed_of}
use Rattle.index.specs.Index.{silent}
use Rattle.index.specs.Index.{known, turns, turn, Met, Whole, Marked, Cleared}
use Rattle.index.specs.Entries.{Added, Unmarked, Wiped}

-- an index of the right length
module _ (ix : List ℕ) (h : length ix ≡ INDEX) where
  pub mark_says : (k r : ℕ) → silent ix k r ≡ eqb (mark_of ix k r) 0
  unfolding silent
  mark_says k r = rw (eq-eqb (length ix) INDEX h) refl

  pub list_says : (k : ℕ) → known ix k ≡ leb (count_of ix k) LISTED
  unfolding known
  list_says k = rw (eq-eqb (length ix) INDEX h) refl

  pub marked_set : (k r : ℕ) → (mark_of ix k r ≡ 0 → ⊥) → silent ix k r ≡ false
  marked_set k r n = mark_says k r ∙ ne_eqb (mark_of ix k r) 0 n

  set_marked : (k r : ℕ) → silent ix k r ≡ false → mark_of ix k r ≡ 0 → ⊥
  set_marked k r e z = not_both (mark_says k r ∙ eq-eqb (mark_of ix k r) 0 z) e

pub silent_size : (ix : List ℕ) (k r : ℕ) → silent ix k r ≡ true → length ix ≡ INDEX
unfolding silent
silent_size ix k r e = eqb-true (length ix) INDEX (and_left _ (eqb (mark_of ix k r) 0) e)

-- another length
module _ (ix : List ℕ) (h : length ix ≡ INDEX → ⊥) where
  pub no_mark : (k r : ℕ) → silent ix k r ≡ false
  unfolding silent
  no_mark k r = rw (ne_eqb (length ix) INDEX h) refl

  pub no_list : (k : ℕ) → known ix k ≡ false
  unfolding known
  no_list k = rw (ne_eqb (length ix) INDEX h) refl

-- turns
module _ (ix : List ℕ) (k : ℕ) where
  module _ (e : known ix k ≡ true) where
    pub turns_known : (n : ℕ) → turns ix k n ≡ count_of ix k
    unfolding turns
    turns_known n = rw e refl

    pub turn_known : (i : ℕ) → turn ix k i ≡ listed_of ix k i
    unfolding turn
    turn_known i = rw e refl

    pub count_known : count_of ix k ≤ LISTED
    unfolding known
    count_known = leb-true (count_of ix k) LISTED (and_right (eqb (length ix) INDEX) (leb (count_of ix k) LISTED) e)

    pub known_size : length ix ≡ INDEX
    unfolding known
    known_size = eqb-true (length ix) INDEX (and_left _ (leb (count_of ix k) LISTED) e)

  module _ (e : known ix k ≡ false) where
    pub turns_unknown : (n : ℕ) → turns ix k n ≡ n
    unfolding turns
    turns_unknown n = rw e refl

    pub turn_unknown : (i : ℕ) → turn ix k i ≡ i
    unfolding turn
    turn_unknown i = rw e refl

    pub met_unknown : (n r : ℕ) → r < n → Met ix k n r
    met_unknown n r l = (r, omega arith, omega (arith, turns_unknown n), turn_unknown r)

  -- a turn within the turns is one of the list
  pub turn_within : (n i : ℕ) → i < turns ix k n → known ix k ≡ true → i < count_of ix k
  turn_within n i l e = omega (arith, l, turns_known e n)

  -- a record met among all is met among the first n, if it is one of them
  pub met_among : (n r : ℕ) → r < n → Met ix k MARKS r → Met ix k n r
  met_among n r l m = go (known ix k) refl
    where
      go : (b : Bool) → known ix k ≡ b → Met ix k n r
      go true e = (m.0, m.1, omega (arith, m.2, turns_known e MARKS, turns_known e n), m.3)
      go false e = met_unknown e n r l

-- the entries of slot k are those of another index of the same length
module _ (ix ix' : List ℕ) (size : length ix' ≡ length ix) (k : ℕ) where
  pub same_mark : (r : ℕ) → mark_of ix' k r ≡ mark_of ix k r → silent ix' k r ≡ silent ix k r
  unfolding silent
  same_mark r e = rw (size, e) refl

  module _ (f : count_of ix' k ≡ count_of ix k) where
    same_known : known ix' k ≡ known ix k
    unfolding known
    same_known = rw (size, f) refl

    pub same_turns : (n : ℕ) → turns ix' k n ≡ turns ix k n
    unfolding turns
    same_turns n = rw (same_known, f) refl

    pub same_turn : (i : ℕ) → listed_of ix' k i ≡ listed_of ix k i → turn ix' k i ≡ turn ix k i
    unfolding turn
    same_turn i e = rw (same_known, e) refl

    pub same_met : ((i : ℕ) → i < LISTED → listed_of ix' k i ≡ listed_of ix k i) → (n r : ℕ) → Met ix k n r → Met ix' k
        n r
    same_met g n r m = go (known ix k) refl
      where
        go : (b : Bool) → known ix k ≡ b → Met ix' k n r
        go true e = (
          m.0,
          m.1,
          omega (arith, m.2, same_turns n),
          same_turn m.0 (g m.0 (omega (arith, m.2, turns_known ix k e n, count_known ix k e))) ∙ m.3,
        )
        go false e =
            let z : m.0 ≡ r = sym (turn_unknown ix k e m.0) ∙ m.3 in
            met_unknown ix' k (same_known ∙ e) n r (omega (arith, m.2, turns_unknown ix k e n, z))

-- a record put on a list
module _ (ix : List ℕ) (k r : ℕ) where
  pub added : (n : ℕ) → n ≡ count_of ix k → n < LISTED
      → Added ix (set (set ix (LISTS + k * LIST + 1 + n) r) (LISTS + k * LIST) (n + 1)) k r
  added n z l =
      record {
        size =
            length-set (set ix (LISTS + k * LIST + 1 + n) r) (LISTS + k * LIST) (n + 1)
            ∙ length-set ix (LISTS + k * LIST + 1 + n) r;
        room = λ m. rw z refl;
        full = λ m. absurd (omega (arith, z));
      }

  pub not_added : LISTED ≤ count_of ix k → Added ix (set ix (LISTS + k * LIST) UNKNOWN) k r
  not_added l =
      record {
        size = length-set ix (LISTS + k * LIST) UNKNOWN;
        room = λ m. absurd (omega arith);
        full = λ m. refl;
      }

-- a mark
pub marked_none : (ix : List ℕ) (k r : ℕ) → silent ix k r ≡ false → Marked ix ix k r
marked_none ix k r e = record { less = λ i j hi hj s. s; here = e; whole = λ W. W }

module _ (ix ix₁ ix' : List ℕ) (k r : ℕ) (size : length ix ≡ INDEX) (hk : k < SLOTS) (hr : r < MARKS)
    (e : ix₁ ≡ set ix (k * MARKS + r) 1) (A : Added ix₁ ix' k r) where
  size₁ : length ix₁ ≡ INDEX
  size₁ = ap length e ∙ length-set ix (k * MARKS + r) 1 ∙ size

  -- an entry that is not the mark, and not of slot k's list
  first_step : (i : ℕ) → (i ≡ k * MARKS + r → ⊥) → get_or ix₁ i 0 ≡ get_or ix i 0
  first_step i n = rw (e, get_or-set_other ix (k * MARKS + r) i 1 0 n) refl

  abbrev OfList : ℕ → Type 0
  OfList i = (LISTS + k * LIST ≤ i) × (i ≤ LISTS + k * LIST + LISTED)

  last_step : (i : ℕ) → (OfList i → ⊥) → get_or ix' i 0 ≡ get_or ix₁ i 0
  last_step i n = go (dec_lt (count_of ix₁ k) LISTED)
    where
      go : Dec (count_of ix₁ k < LISTED) → get_or ix' i 0 ≡ get_or ix₁ i 0
      go (yes l) =
          rw (
            A.room l,
            get_or-set_other (set ix₁ (LISTS + k * LIST + 1 + count_of ix₁ k) r) (LISTS + k * LIST) i
                (count_of ix₁ k + 1) 0
                (λ z. n (omega (arith, z), omega (arith, z))),
            get_or-set_other ix₁ (LISTS + k * LIST + 1 + count_of ix₁ k) i r 0
                (λ z. n (omega (arith, z), omega (arith, z, l))),
          ) refl
      go (no l) =
          rw (
            A.full (omega (arith, l)),
            get_or-set_other ix₁ (LISTS + k * LIST) i UNKNOWN 0 (λ z. n (omega (arith, z), omega (arith, z))),
          ) refl

  size' : length ix' ≡ INDEX
  size' = A.size ∙ size₁

  elsewhere : (i : ℕ) → (i ≡ k * MARKS + r → ⊥) → (OfList i → ⊥) → get_or ix' i 0 ≡ get_or ix i 0
  elsewhere i n m = last_step i m ∙ first_step i n

  one : mark_of ix' k r ≡ 1
  one =
      last_step (k * MARKS + r) (λ p. omega (arith, p.0))
      ∙ rw (e, get_or-set_same ix (k * MARKS + r) 1 0 (omega (arith, size))) refl

  marked_here : silent ix' k r ≡ false
  marked_here = marked_set ix' size' k r (λ z. omega (arith, z, one))

  marks : (i j : ℕ) → i < SLOTS → j < MARKS → (i * MARKS + j ≡ k * MARKS + r → ⊥) → silent ix' i j ≡ silent ix i j
  marks i j hi hj n =
      same_mark ix ix' (size' ∙ sym size) i j (elsewhere (i * MARKS + j) n (λ p. omega (arith, p.0)))

  at_mark : (i j : ℕ) → i < SLOTS → j < MARKS → Dec (i * MARKS + j ≡ k * MARKS + r)
      → silent ix' i j ≡ true → silent ix i j ≡ true
  at_mark i j hi hj (yes z) s =
      let a : i ≡ k = omega (arith, z) in
      let b : j ≡ r = omega (arith, z) in
      absurd (not_both s (rw (a, b) marked_here))
  at_mark i j hi hj (no z) s = sym (marks i j hi hj z) ∙ s

  -- the list of slot k
  count₁ : count_of ix₁ k ≡ count_of ix k
  count₁ = first_step (LISTS + k * LIST) (λ z. omega (arith, z))

  module _ (l : count_of ix₁ k < LISTED) where
    counted : count_of ix' k ≡ count_of ix₁ k + 1
    counted =
        rw (
          A.room l,
          get_or-set_same (set ix₁ (LISTS + k * LIST + 1 + count_of ix₁ k) r) (LISTS + k * LIST)
              (count_of ix₁ k + 1) 0 (omega (arith, size₁, length-set ix₁ (LISTS + k * LIST + 1 + count_of ix₁ k) r)),
        ) refl

    known' : known ix' k ≡ true
    known' = list_says ix' size' k ∙ le-leb (count_of ix' k) LISTED (omega (arith, counted, l))

    known₀ : known ix k ≡ true
    known₀ = list_says ix size k ∙ le-leb (count_of ix k) LISTED (omega (arith, count₁, l))

    put : (i : ℕ) → i < LISTED → listed_of ix' k i ≡ get_or (set ix₁ (LISTS + k * LIST + 1 + count_of ix₁ k) r)
        (LISTS + k
        * LIST + 1 + i) 0
    put i h =
        rw (
          A.room l,
          get_or-set_other (set ix₁ (LISTS + k * LIST + 1 + count_of ix₁ k) r) (LISTS + k * LIST)
              (LISTS + k * LIST + 1 + i) (count_of ix₁ k + 1) 0 (λ z. omega (arith, z)),
        ) refl

    new_met : Met ix' k MARKS r
    new_met = (
      count_of ix₁ k,
      omega arith,
      omega (arith, turns_known ix' k known' MARKS, counted),
      turn_known ix' k known' (count_of ix₁ k) ∙ put (count_of ix₁ k) l
          ∙ get_or-set_same ix₁ (LISTS + k * LIST + 1 + count_of ix₁ k) r 0 (omega (arith, l, size₁)),
    )

    old_met : (j : ℕ) → Met ix k MARKS j → Met ix' k MARKS j
    old_met j m =
        let h : m.0 < count_of ix₁ k = omega (arith, m.2, turns_known ix k known₀ MARKS, count₁) in (
          m.0,
          omega arith,
          omega (arith, h, turns_known ix' k known' MARKS, counted),
          turn_known ix' k known' m.0 ∙ put m.0 (omega (arith, h, l))
              ∙ get_or-set_other ix₁ (LISTS + k * LIST + 1 + count_of ix₁ k) (LISTS + k * LIST + 1 + m.0) r 0 (λ z.
              omega (arith, z, h))
              ∙ first_step (LISTS + k * LIST + 1 + m.0) (λ z. omega (arith, z))
              ∙ sym (turn_known ix k known₀ m.0) ∙ m.3,
        )

  given_up : LISTED ≤ count_of ix₁ k → known ix' k ≡ false
  given_up l =
      let z : count_of ix' k ≡ UNKNOWN =
      rw (A.full l, get_or-set_same ix₁ (LISTS + k * LIST) UNKNOWN 0 (omega (arith, size₁))) refl in
      list_says ix' size' k ∙ lt-leb (count_of ix' k) LISTED (omega (arith, z))

  own_met : Whole ix → (j : ℕ) → j < MARKS → silent ix' k j ≡ false → Dec (count_of ix₁ k < LISTED) → Dec (j ≡ r)
      → Met ix' k MARKS j
  own_met W j hj s (yes l) (yes z) = rw z (new_met l)
  own_met W j hj s (yes l) (no z) =
      old_met l j (W k j hk hj (sym (marks k j hk hj (λ y. z (omega (arith, y)))) ∙ s))
  own_met W j hj s (no l) z = met_unknown ix' k (given_up (omega (arith, l))) MARKS j hj

  met : Whole ix → (i j : ℕ) → i < SLOTS → j < MARKS → silent ix' i j ≡ false → Dec (i ≡ k) → Met ix' i MARKS j
  met W i j hi hj s (yes z) =
      rw z (own_met W j hj (rw z at s) (dec_lt (count_of ix₁ k) LISTED) (ℕ_discrete j r))
  met W i j hi hj s (no z) =
      same_met ix ix' (size' ∙ sym size) i
      (elsewhere (LISTS + i * LIST) (λ y. omega (arith, y)) (λ p. z (omega (arith, p.0, p.1))))
      (λ x l. elsewhere (LISTS + i * LIST + 1 + x) (λ y. omega (arith, y)) (λ p. z (omega (arith, p.0, p.1, l))))
      MARKS j
      (W i j hi hj (sym (marks i j hi hj (λ y. z (omega (arith, y)))) ∙ s))

  pub marked : Marked ix ix' k r
  marked =
      record {
        less = λ i j hi hj s. at_mark i j hi hj (ℕ_discrete (i * MARKS + j) (k * MARKS + r)) s;
        here = marked_here;
        whole = λ W i j hi hj s. met W i j hi hj s (ℕ_discrete i k);
      }

-- a mark taken away
module _ (ix : List ℕ) (k r : ℕ) where
  pub unmarked : r < MARKS → Unmarked ix (set ix (k * MARKS + r) 0) k r
  unmarked l =
      record { size = length-set ix (k * MARKS + r) 0; gone = λ m. refl; none = λ m. absurd (omega arith) }

  pub not_unmarked : MARKS ≤ r → Unmarked ix ix k r
  not_unmarked l = record { size = refl; gone = λ m. absurd (omega arith); none = λ m. refl }

-- the marks of slot k wiped, turn by turn
pub wipe_start : (ix : List ℕ) (k : ℕ) → Wiped ix ix k 0
wipe_start ix k =
    record { size = refl; others = λ i o. refl; gone = λ i l m. absurd (omega arith); less = λ r l. inr refl }

module _ (ix ix₁ : List ℕ) (k i : ℕ) (size : length ix ≡ INDEX) (hk : k < SLOTS) (Z : Wiped ix ix₁ k i) where
  -- the list is not touched, so that the turns stay
  pub wipe_turns : (n : ℕ) → turns ix₁ k n ≡ turns ix k n
  wipe_turns n = same_turns ix ix₁ Z.size k (Z.others (LISTS + k * LIST) (inr (omega arith))) n

  pub wipe_turn : (j : ℕ) → turn ix₁ k j ≡ turn ix k j
  wipe_turn j =
      same_turn ix ix₁ Z.size k (Z.others (LISTS + k * LIST) (inr (omega arith))) j
      (Z.others (LISTS + k * LIST + 1 + j) (inr (omega arith)))

  -- a turn that meets no mark
  pub wipe_past : MARKS ≤ turn ix k i → Wiped ix ix₁ k (i + 1)
  wipe_past h = record { size = Z.size; others = Z.others; gone = at; less = Z.less }
    where
      go : (j : ℕ) → j < i + 1 → turn ix k j < MARKS → Dec (j ≡ i) → mark_of ix₁ k (turn ix k j) ≡ 0
      go j l m (yes z) = absurd (omega (arith, h, rw z at m))
      go j l m (no z) = Z.gone j (omega (arith, l, z)) m

      at : (j : ℕ) → j < i + 1 → turn ix k j < MARKS → mark_of ix₁ k (turn ix k j) ≡ 0
      at j l m = go j l m (ℕ_discrete j i)

  module _ (ix' : List ℕ) (r : ℕ) (h : r < MARKS) (t : r ≡ turn ix k i) (e : ix' ≡ set ix₁ (k * MARKS + r) 0) where
    mark_gone : mark_of ix' k r ≡ 0
    mark_gone = rw (e, get_or-set_same ix₁ (k * MARKS + r) 0 0 (omega (arith, size, Z.size))) refl

    mark_stays : (j : ℕ) → (j ≡ k * MARKS + r → ⊥) → get_or ix' j 0 ≡ get_or ix₁ j 0
    mark_stays j n = rw (e, get_or-set_other ix₁ (k * MARKS + r) j 0 0 n) refl

    was_zero : (j : ℕ) → mark_of ix₁ k j ≡ 0 → Dec (j ≡ r) → mark_of ix' k j ≡ 0
    was_zero j z (yes y) = rw y mark_gone
    was_zero j z (no y) = mark_stays (k * MARKS + j) (λ x. y (omega (arith, x))) ∙ z

    gone_next : (j : ℕ) → j < i + 1 → turn ix k j < MARKS → Dec (j ≡ i) → mark_of ix' k (turn ix k j) ≡ 0
    gone_next j l m (yes y) = rw (y, sym t) mark_gone
    gone_next j l m (no y) = was_zero (turn ix k j) (Z.gone j (omega (arith, l, y)) m) (ℕ_discrete (turn ix k j) r)

    less_next : (j : ℕ) → (mark_of ix₁ k j ≡ 0) ⊎ (mark_of ix₁ k j ≡ mark_of ix k j) → Dec (j ≡ r)
        → (mark_of ix' k j ≡ 0) ⊎ (mark_of ix' k j ≡ mark_of ix k j)
    less_next j o (yes y) = inl (rw y mark_gone)
    less_next j (inl z) (no y) = inl (was_zero j z (no y))
    less_next j (inr z) (no y) = inr (mark_stays (k * MARKS + j) (λ x. y (omega (arith, x))) ∙ z)

    pub wipe_one : Wiped ix ix' k (i + 1)
    wipe_one =
        record {
          size = ap length e ∙ length-set ix₁ (k * MARKS + r) 0 ∙ Z.size;
          others = λ j o. mark_stays j (outside j o) ∙ Z.others j o;
          gone = λ j l m. gone_next j l m (ℕ_discrete j i);
          less = λ j l. less_next j (Z.less j l) (ℕ_discrete j r);
        }
      where
        outside : (j : ℕ) → j < k * MARKS ⊎ (k * MARKS + MARKS ≤ j) → j ≡ k * MARKS + r → ⊥
        outside j (inl l) z = omega (arith, z)
        outside j (inr l) z = omega (arith, z, h)

  pub wipe_again : (ix' : List ℕ) (r : ℕ) → r ≡ turn ix₁ k i → Unmarked ix₁ ix' k r → Wiped ix ix' k (i + 1)
  wipe_again ix' r t U = go (dec_lt r MARKS)
    where
      go : Dec (r < MARKS) → Wiped ix ix' k (i + 1)
      go (yes l) = wipe_one ix' r l (t ∙ wipe_turn i) (U.gone l)
      go (no l) = rw (U.none (omega (arith, l))) (wipe_past (omega (arith, l, t, wipe_turn i)))

pub wipe_end : (ix ix' : List ℕ) (k i n : ℕ) → Wiped ix ix' k i → i ≡ n → Wiped ix ix' k n
wipe_end ix ix' k i n Z e = rw (sym e) Z

-- a new slot
pub cleared_none : (ix : List ℕ) (k : ℕ) → Cleared ix ix k
cleared_none ix k = record { less = λ i j n hi hj s. s; whole = λ W. W }

module _ (ix ix₁ ix' : List ℕ) (k : ℕ) (size : length ix ≡ INDEX) (hk : k < SLOTS)
    (Z : Wiped ix ix₁ k (turns ix k MARKS)) (e : ix' ≡ set ix₁ (LISTS + k * LIST) 0) where
  same_size : length ix' ≡ length ix
  same_size = ap length e ∙ length-set ix₁ (LISTS + k * LIST) 0 ∙ Z.size

  beyond : (i : ℕ) → (i ≡ LISTS + k * LIST → ⊥) → get_or ix' i 0 ≡ get_or ix₁ i 0
  beyond i n = rw (e, get_or-set_other ix₁ (LISTS + k * LIST) i 0 0 n) refl

  module _ (i : ℕ) (hi : i < SLOTS) (n : i ≡ k → ⊥) where
    mark_side : (j : ℕ) → j < MARKS → i * MARKS + j < k * MARKS ⊎ (k * MARKS + MARKS ≤ i * MARKS + j)
    mark_side j hj = go (dec_lt i k)
      where
        go : Dec (i < k) → i * MARKS + j < k * MARKS ⊎ (k * MARKS + MARKS ≤ i * MARKS + j)
        go (yes l) = inl (omega (arith, l))
        go (no l) = inr (omega (arith, l, n))

    other_mark : (j : ℕ) → j < MARKS → silent ix' i j ≡ silent ix i j
    other_mark j hj =
        same_mark ix ix' same_size i j
        (beyond (i * MARKS + j) (λ z. omega (arith, z)) ∙ Z.others (i * MARKS + j) (mark_side j hj))

    other_met : (j : ℕ) → Met ix i MARKS j → Met ix' i MARKS j
    other_met j =
        same_met ix ix' same_size i
        (beyond (LISTS + i * LIST) (λ z. n (omega (arith, z))) ∙ Z.others (LISTS + i * LIST) (inr (omega arith)))
        (λ x l. beyond (LISTS + i * LIST + 1 + x) (λ z. n (omega (arith, z, l)))
        ∙ Z.others (LISTS + i * LIST + 1 + x) (inr (omega arith)))
        MARKS j

  -- no mark of slot k is left: each that was set was met
  none_left : Whole ix → (j : ℕ) → j < MARKS → mark_of ix' k j ≡ 0
  none_left W j hj = beyond (k * MARKS + j) (λ z. omega (arith, z)) ∙ go (Z.less j hj) (ℕ_discrete (mark_of ix k j) 0)
    where
      found : Met ix k MARKS j → mark_of ix₁ k j ≡ 0
      found m = rw m.3 at (Z.gone m.0 m.2 (rw m.3 hj))

      go : (mark_of ix₁ k j ≡ 0) ⊎ (mark_of ix₁ k j ≡ mark_of ix k j) → Dec (mark_of ix k j ≡ 0) → mark_of ix₁ k j ≡ 0
      go (inl z) d = z
      go (inr z) (yes y) = z ∙ y
      go (inr z) (no y) = found (W k j hk hj (marked_set ix size k j y))

  met_after : Whole ix → (i j : ℕ) → i < SLOTS → j < MARKS → silent ix' i j ≡ false → Dec (i ≡ k) → Met ix' i MARKS j
  met_after W i j hi hj s (yes z) =
      absurd (set_marked ix' (same_size ∙ size) i j s (rw z (none_left W j hj)))
  met_after W i j hi hj s (no z) = other_met i hi z j (W i j hi hj (sym (other_mark i hi z j hj) ∙ s))

  pub cleared : Cleared ix ix' k
  cleared =
      record {
        less = λ i j n hi hj s. sym (other_mark i hi n j hj) ∙ s;
        whole = λ W i j hi hj s. met_after W i j hi hj s (ℕ_discrete i k);
      }
