-- Slots and handles: which slots are in use, which handles are known and open, and the lowest free slot, from the
-- words. Rests on Decoded of the crate `tables`.
use Prim.Native.Nat.{ℕ, zero, suc, ◌+◌, ◌≤◌, ◌<◌}
use mathlib.Core.Path.{◌≡◌, refl, sym, ap, ◌∙◌}
use mathlib.Core.Logic.{◌⊎◌, inl, inr}
use mathlib.Core.Bool.{Bool, true, false, not, false≢true}
use mathlib.Core.List.{List}
use native.Mathlib.Omega.{arith}
use lib.Dec.{leb, eqb}
use borrow.Author.Tests.{leb-true, leb-false, le-leb, lt-leb, eqb-true, eqb-false, eq-eqb, ne_eqb, not-false}
use Rattle.std.specs.Prelude.{Option, Some, None, MatchOption}
use Rattle.chains.specs.Walk.{IsRow}
use Rattle.types.specs.Limits.{FREE, OPEN}
use Rattle.meaning.specs.Store.{Edit, fresh_edit, edit_of, in_use}
use Rattle.types.specs.Numbers.{slot_of, generation_of}
use Rattle.meaning.specs.Edits.{free_from}
use Rattle.meaning.specs.Outcomes.{knows, is_open}
use Rattle.types.specs.declared.Counts.{Counts}
use Rattle.meaning.proofs.Lists.{test, get_d_past}
use Rattle.tables.specs.Decode.{build, slot_at, edits_of, decode_at}
use Rattle.tables.specs.declared.views.Tables.{Tables}
use Rattle.tables.specs.declared.views.Slot.{Slot}
use Rattle.tables.specs.Views.{store_in, edit_in}
use Rattle.lookups.specs.Slots.{SlotOf, first_free}
use Rattle.tables.proofs.Decoded.{edit_of_lem, edits_length}

module _ (c : Counts) (w : List ℕ) where
  pub used_zero : (k : ℕ) → k ≡ 0 → false ≡ in_use (edits_of c w) k
  unfolding in_use edit_of
  used_zero k e = rw e refl

  pub used_past : (k : ℕ) → c.edits < k → false ≡ in_use (edits_of c w) k
  unfolding in_use edit_of
  used_past zero l = absurd (omega arith)
  used_past (suc i) l = rw (get_d_past (edits_of c w) i fresh_edit (omega (arith, edits_length c w))) refl

  pub used_is : (k : ℕ) {s : ℕ} → IsRow c.edits k → s ≡ (slot_at c w k).state
      → not (eqb s FREE) ≡ in_use (edits_of c w) k
  unfolding in_use
  used_is k l e = rw (e, edit_of_lem c w k l) refl

  -- a slot in use is a slot
  pub used_row : (k : ℕ) {q : Bool} → q ≡ in_use (edits_of c w) k → q ≡ true → IsRow c.edits k
  used_row zero d e = absurd (false≢true (used_zero zero refl ∙ sym d ∙ e))
  used_row (suc i) {q} d e = go (test (leb (suc i) c.edits))
    where
      go : (leb (suc i) c.edits ≡ true) ⊎ (leb (suc i) c.edits ≡ false) → IsRow c.edits (suc i)
      go (inl h) = record { low = omega arith; high = leb-true (suc i) c.edits h }
      go (inr h) = absurd (false≢true (used_past (suc i) (leb-false (suc i) c.edits h) ∙ sym d ∙ e))

-- the slot of a handle: o is what the search for it answers
module _ (t : Tables) (h : ℕ) where
  pub slot_none : (k : ℕ) → k ≡ slot_of h → ((k ≡ 0) ⊎ (t.counts.edits < k)) → SlotOf t h None
  unfolding decode_at
  slot_none k e (inl z) = rw e at (sym (used_zero t.counts t.words.now k z))
  slot_none k e (inr l) = rw e at (sym (used_past t.counts t.words.now k l))

  pub slot_free : (k : ℕ) {q : ℕ} → k ≡ slot_of h → IsRow t.counts.edits k → q ≡ (slot_at t.counts t.words.now k).state
      → q ≡ FREE → SlotOf t h None
  unfolding decode_at
  slot_free k {q} e l d z =
      rw e at (sym (used_is t.counts t.words.now k l d) ∙ ap not (eq-eqb q FREE z))

  pub slot_used : (k : ℕ) {q : ℕ} → k ≡ slot_of h → IsRow t.counts.edits k → q ≡ (slot_at t.counts t.words.now k).state
      → (q ≡ FREE → ⊥) → in_use (store_in t).edits (slot_of h) ≡ true
  unfolding decode_at
  slot_used k {q} e l d n =
      rw e at (sym (used_is t.counts t.words.now k l d) ∙ ap not (ne_eqb q FREE n))

  known_none : SlotOf t h None → false ≡ knows (store_in t) h
  unfolding knows decode_at
  known_none d = rw d refl

  open_none : SlotOf t h None → false ≡ is_open (store_in t) h
  unfolding is_open decode_at in_use
  open_none d =
      let k : ℕ = slot_of h in
      let f : (edit_of (edits_of t.counts t.words.now) k).state ≡ FREE =
      eqb-true (edit_of (edits_of t.counts t.words.now) k).state FREE
      (not-false (eqb (edit_of (edits_of t.counts t.words.now) k).state FREE) d) in
      rw f refl

  -- and what its words say
  module _ (s : Slot) (d : SlotOf t h (Some s)) where
    row : IsRow t.counts.edits (slot_of h)
    unfolding decode_at
    row = used_row t.counts t.words.now (slot_of h) (sym d.2) refl

    known_some : {g j : ℕ} → g ≡ (edit_in s).generation → j ≡ generation_of h → eqb g j ≡ knows (store_in t) h
    unfolding knows decode_at
    known_some e f =
        rw (d.2, edit_of_lem t.counts t.words.now (slot_of h) row, ← d.0, ← d.1, e, f) refl

    open_some : {q : ℕ} → q ≡ (edit_in s).state → eqb q OPEN ≡ is_open (store_in t) h
    unfolding is_open decode_at
    open_some e = rw (edit_of_lem t.counts t.words.now (slot_of h) row, ← d.0, ← d.1, e) refl

  -- what is asked of the slot, if there is one; A s says what the closure answered of it
  module _ (o : Option Slot) {q : Bool} {A : Slot → Type 0} (d : SlotOf t h o) (m : MatchOption o (q ≡ false) A) where
    pub known_of : ((s : Slot) → A s → q ≡ eqb (edit_in s).generation (generation_of h)) → q ≡ knows (store_in t) h
    known_of f = go o d m
      where
        go : (o : Option Slot) → SlotOf t h o → MatchOption o (q ≡ false) A → q ≡ knows (store_in t) h
        go None d m = m ∙ known_none d
        go (Some s) d m = f s m ∙ known_some s d refl refl

    pub open_of : ((s : Slot) → A s → q ≡ eqb (edit_in s).state OPEN) → q ≡ is_open (store_in t) h
    open_of f = go o d m
      where
        go : (o : Option Slot) → SlotOf t h o → MatchOption o (q ≡ false) A → q ≡ is_open (store_in t) h
        go None d m = m ∙ open_none d
        go (Some s) d m = f s m ∙ open_some s d refl

-- the lowest free one of slots built from a function
free_at : (n k : ℕ) (f : ℕ → Edit) (j : ℕ) → j < n → ((i : ℕ) → i < j → (f i).state ≡ FREE → ⊥) → (f j).state ≡ FREE
    → free_from k (build n f) ≡ k + j
unfolding build
free_at zero k f j l h e = absurd (omega arith)
free_at (suc n) k f zero l h e = rw (eq-eqb (f 0).state FREE e) (omega arith)
free_at (suc n) k f (suc j) l h e =
    let s : suc k + j ≡ k + suc j = omega arith in
    rw (ne_eqb (f 0).state FREE (h 0 (omega arith)))
    (free_at n (suc k) (λ i. f (suc i)) j (omega arith) (λ i q. h (suc i) (omega arith)) e ∙ s)

free_none : (n k : ℕ) (f : ℕ → Edit) → ((i : ℕ) → i < n → (f i).state ≡ FREE → ⊥) → free_from k (build n f) ≡ k + n
unfolding build
free_none zero k f h = omega arith
free_none (suc n) k f h =
    let s : suc k + n ≡ k + suc n = omega arith in
    rw (ne_eqb (f 0).state FREE (h 0 (omega arith)))
    (free_none n (suc k) (λ i. f (suc i)) (λ i q. h (suc i) (omega arith)) ∙ s)

-- the search: no slot below k is free
pub record Passed (c : Counts) (w : List ℕ) (k : ℕ) : Type 0 where
  pub low : 1 ≤ k
  pub high : k ≤ suc c.edits
  pub used : (i : ℕ) → suc i < k → (slot_at c w (suc i)).state ≡ FREE → ⊥

module _ {c : Counts} {w : List ℕ} where
  pub passed_on : (k : ℕ) {s : ℕ} → Passed c w k → k ≤ c.edits → s ≡ (slot_at c w k).state → (s ≡ FREE → ⊥)
      → Passed c w (k + 1)
  passed_on k {s} i l e f =
      record { low = omega arith; high = omega arith; used = λ j h z. go j h z (test (eqb (suc j) k)) }
    where
      go : (j : ℕ) → suc j < k + 1 → (slot_at c w (suc j)).state ≡ FREE → (eqb (suc j) k ≡ true)
          ⊎ (eqb (suc j) k ≡ false)
          → ⊥
      go j h z (inl q) = f (e ∙ ap (λ x. (slot_at c w x).state) (sym (eqb-true (suc j) k q)) ∙ z)
      go j h z (inr q) = i.used j (omega (arith, eqb-false (suc j) k q)) z

  pub passed_found : (k : ℕ) {s : ℕ} → Passed c w k → k ≤ c.edits → s ≡ (slot_at c w k).state → s ≡ FREE
      → Some k ≡ first_free (decode_at c w)
  unfolding first_free decode_at edits_of
  passed_found zero i l e f = absurd (omega (arith, i.low))
  passed_found (suc j) i l e f =
      let s : 1 + j ≡ suc j = omega arith in
      let found : free_from 1 (build c.edits (λ x. slot_at c w (suc x))) ≡ suc j =
      free_at c.edits 1 (λ x. slot_at c w (suc x)) j (omega arith) (λ x q. i.used x (omega arith)) (sym e ∙ f) ∙ s in
      rw (found, edits_length c w, le-leb (suc j) c.edits l) refl

  pub passed_done : (k : ℕ) → Passed c w k → c.edits < k → None ≡ first_free (decode_at c w)
  unfolding first_free decode_at edits_of
  passed_done k i l =
      let s : 1 + c.edits ≡ suc c.edits = omega arith in
      let none : free_from 1 (build c.edits (λ x. slot_at c w (suc x))) ≡ suc c.edits =
      free_none c.edits 1 (λ x. slot_at c w (suc x)) (λ x q. i.used x (omega arith)) ∙ s in
      rw (none, edits_length c w, lt-leb (suc c.edits) c.edits (omega arith)) refl
