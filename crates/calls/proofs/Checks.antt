-- The checks that several calls share: what each finds, and what a call under its test replies where it refuses. Rests
-- on Verdicts and specs/Checks.
use Rattle.std.specs.Prelude.{Result, Ok, Err, Option, Some, None}
use Rattle.std.specs.Option.{ok_or}
use Rattle.std.specs.Result.{IsErrAnd}
use Rattle.std.proofs.lemmas.Result.{err_from_is_err_and}
use Prim.Native.Nat.{ℕ, ◌≤◌, ◌<◌}
use mathlib.Core.Path.{◌≡◌, refl, sym, ap, subst, ◌∙◌}
use mathlib.Core.Bool.{Bool, true, false, ◌&&◌, cond}
use native.Mathlib.Omega.{arith}
use lib.Dec.{ltb, leb}
use lib.ListN.{length}
use borrow.Author.Tests.{leb-true, leb-false, le-leb, lt-leb, le-ltb, lt-ltb, ltb-true, ltb-false}
use Rattle.types.specs.Limits.{LAST}
use Rattle.types.specs.Numbers.{slot_of}
use Rattle.types.specs.Replies.{of_refusal}
use Rattle.types.specs.declared.Refusal.{Refusal}
use Rattle.types.specs.declared.Refusal.TheVariants.{NoEdit, EditEnded, NoRecord, NoSlot, BadPoint, BelowFloor}
use Rattle.meaning.specs.Store.{Store}
use Rattle.meaning.specs.Edits.{free_slot}
use Rattle.lookups.specs.Slots.{first_free}
use Rattle.meaning.specs.Outcomes.{Outcome, replies, Verdict, unless, knows, is_open, for_open}
use Rattle.calls.specs.Checks.{record_in, point_from, above_floor, known_slot, open_slot}
use Rattle.meaning.proofs.Lists.{and_left, and_right}
use Rattle.calls.proofs.Verdicts.{no_edit_lem, edit_ended}

-- an error that `?` passes on is the one that was found
pub passed : {A B : Type 0} (q : Result A B) {x : B} → IsErrAnd q (λ y. y ≡ x) → q ≡ Err x
passed q h = let p = err_from_is_err_and q h in p.1 ∙ ap Err p.2

pub ok_not_err : {A : Type 0} {x : A} {e : Refusal} → ◌≡◌ {A = Result A Refusal} (Ok x) (Err e) → ⊥
ok_not_err e = let z : ◌≡◌ {A = ℕ} 0 1 = cc in omega arith

-- one test: what it finds, or its refusal y
by_test : {A : Type 0} (b : Bool) (k x : A) (y : Refusal) → cond b (Ok k) (Err y) ≡ Ok x → (b ≡ true) × (x ≡ k)
by_test true k x y e = (refl, cc)
by_test false k x y e = absurd (ok_not_err (sym e))

no_test : {A : Type 0} (b : Bool) (k : A) (x y : Refusal) → cond b (Ok k) (Err y) ≡ Err x → (b ≡ false) × (x ≡ y)
no_test true k x y e = absurd (ok_not_err e)
no_test false k x y e = (refl, cc)

-- a free slot

as_test : (b : Bool) (k : ℕ) → ok_or (cond b (Some k) None) NoSlot ≡ cond b (Ok k) (Err NoSlot)
as_test true k = refl
as_test false k = refl

module _ (s : Store) {o : Option ℕ} {q : Result ℕ Refusal} (f : o ≡ first_free s) (m : q ≡ ok_or o NoSlot) where
  free_test : q ≡ cond (leb (free_slot s) (length s.edits)) (Ok (free_slot s)) (Err NoSlot)
  unfolding first_free
  free_test = m ∙ ap (λ x. ok_or x NoSlot) f ∙ as_test (leb (free_slot s) (length s.edits)) (free_slot s)

  pub free_out : {x : ℕ} → q ≡ Ok x → (leb (free_slot s) (length s.edits) ≡ true) × (x ≡ free_slot s)
  free_out {x} e = by_test (leb (free_slot s) (length s.edits)) (free_slot s) x NoSlot (sym free_test ∙ e)

  pub free_refused : {x : Refusal} → q ≡ Err x → (leb (free_slot s) (length s.edits) ≡ false) × (x ≡ NoSlot)
  free_refused {x} e = no_test (leb (free_slot s) (length s.edits)) (free_slot s) x NoSlot (sym free_test ∙ e)

-- a record

module _ (n r : ℕ) where
  pub record_none : ltb r n ≡ false → Err NoRecord ≡ record_in n r
  unfolding record_in
  record_none e = rw e refl

  pub record_there : ltb r n ≡ true → Ok r ≡ record_in n r
  unfolding record_in
  record_there e = rw e refl

module _ (n r : ℕ) {q : Result ℕ Refusal} (m : q ≡ record_in n r) where
  pub record_out : {x : ℕ} → q ≡ Ok x → (ltb r n ≡ true) × (x ≡ r)
  unfolding record_in
  record_out e = by_test (ltb r n) r _ NoRecord (sym m ∙ e)

  pub record_refused : {x : Refusal} → q ≡ Err x → (ltb r n ≡ false) × (x ≡ NoRecord)
  unfolding record_in
  record_refused e = no_test (ltb r n) r _ NoRecord (sym m ∙ e)

-- a point

module _ (low p : ℕ) where
  pub point_low : p < low → Err BadPoint ≡ point_from low p
  unfolding point_from
  point_low l = rw (lt-leb low p l) refl

  pub point_high : low ≤ p → LAST < p → Err BadPoint ≡ point_from low p
  unfolding point_from
  point_high m l = rw (le-leb low p m, lt-leb p LAST l) refl

  pub point_there : low ≤ p → p ≤ LAST → Ok p ≡ point_from low p
  unfolding point_from
  point_there m l = rw (le-leb low p m, le-leb p LAST l) refl

module _ (low p : ℕ) {q : Result ℕ Refusal} (m : q ≡ point_from low p) where
  pub point_out : {x : ℕ} → q ≡ Ok x → (low ≤ p) × (p ≤ LAST) × (x ≡ p)
  unfolding point_from
  point_out {x} e =
      let t = by_test (leb low p && leb p LAST) p x BadPoint (sym m ∙ e) in (
        leb-true low p (and_left (leb low p) (leb p LAST) t.0),
        leb-true p LAST (and_right (leb low p) (leb p LAST) t.0),
        t.1,
      )

  pub point_refused : {x : Refusal} → q ≡ Err x → (leb low p && leb p LAST ≡ false) × (x ≡ BadPoint)
  unfolding point_from
  point_refused e = no_test (leb low p && leb p LAST) p _ BadPoint (sym m ∙ e)

-- where every number up to LAST is good
module _ (p : ℕ) {q : Result ℕ Refusal} (m : q ≡ point_from 0 p) where
  pub point_past : {x : Refusal} → q ≡ Err x → (LAST < p) × (x ≡ BadPoint)
  point_past e =
      let t = point_refused 0 p m e in (leb-false p LAST (rw (le-leb 0 p (omega arith)) at t.0), t.1)

-- a point above the floor

module _ (floor p : ℕ) where
  pub floor_not : p ≤ floor → Err BelowFloor ≡ above_floor floor p
  unfolding above_floor
  floor_not l = rw (le-ltb floor p l) refl

  pub floor_above : floor < p → Ok tt ≡ above_floor floor p
  unfolding above_floor
  floor_above l = rw (lt-ltb floor p l) refl

module _ (floor p : ℕ) {q : Result (Unit {0}) Refusal} (m : q ≡ above_floor floor p) where
  pub floor_out : {x : Unit {0}} → q ≡ Ok x → floor < p
  unfolding above_floor
  floor_out {x} e = ltb-true floor p (by_test (ltb floor p) tt x BelowFloor (sym m ∙ e)).0

  pub floor_refused : {x : Refusal} → q ≡ Err x → (p ≤ floor) × (x ≡ BelowFloor)
  unfolding above_floor
  floor_refused {x} e =
      let t = no_test (ltb floor p) tt x BelowFloor (sym m ∙ e) in (ltb-false floor p t.0, t.1)

-- a slot

module _ (s : Store) (h : ℕ) where
  pub known_none : knows s h ≡ false → Err NoEdit ≡ known_slot s h
  unfolding known_slot
  known_none e = rw e refl

  pub known_there : knows s h ≡ true → Ok (slot_of h) ≡ known_slot s h
  unfolding known_slot
  known_there e = rw e refl

module _ (s : Store) (h : ℕ) {q : Result ℕ Refusal} (m : q ≡ known_slot s h) where
  pub known_out : {x : ℕ} → q ≡ Ok x → (knows s h ≡ true) × (x ≡ slot_of h)
  unfolding known_slot
  known_out e = by_test (knows s h) (slot_of h) _ NoEdit (sym m ∙ e)

  pub known_refused : {x : Refusal} → q ≡ Err x → (knows s h ≡ false) × (x ≡ NoEdit)
  unfolding known_slot
  known_refused e = no_test (knows s h) (slot_of h) _ NoEdit (sym m ∙ e)

  pub open_unknown : {x : Refusal} → q ≡ Err x → Err x ≡ open_slot s h
  unfolding open_slot
  open_unknown e = let p = known_refused e in rw (p.0, p.1) refl

  pub open_ended : {x : ℕ} → q ≡ Ok x → is_open s h ≡ false → Err EditEnded ≡ open_slot s h
  unfolding open_slot
  open_ended e f = rw ((known_out e).0, f) refl

  pub open_there : {x : ℕ} → q ≡ Ok x → is_open s h ≡ true → Ok x ≡ open_slot s h
  unfolding open_slot
  open_there e f = let p = known_out e in rw (p.0, f, p.1) refl

by_open : (a b : Bool) (k x : ℕ) → cond a (cond b (Ok k) (Err EditEnded)) (Err NoEdit) ≡ Ok x
    → (a ≡ true) × (b ≡ true) × (x ≡ k)
by_open true true k x e = (refl, refl, cc)
by_open true false k x e = absurd (ok_not_err (sym e))
by_open false b k x e = absurd (ok_not_err (sym e))

-- which of the two tests failed
pub data Closed (a b : Bool) : Refusal → Type 0 where
  unknown : a ≡ false → Closed a b NoEdit
  ended : a ≡ true → b ≡ false → Closed a b EditEnded

no_open : (a b : Bool) (k : ℕ) (x : Refusal) → cond a (cond b (Ok k) (Err EditEnded)) (Err NoEdit) ≡ Err x
    → Closed a b x
no_open true true k x e = absurd (ok_not_err e)
no_open true false k x e = let f : EditEnded ≡ x = cc in subst (Closed true false) f (ended refl refl)
no_open false b k x e = let f : NoEdit ≡ x = cc in subst (Closed false b) f (unknown refl)

module _ (s : Store) (h : ℕ) {q : Result ℕ Refusal} (m : q ≡ open_slot s h) where
  pub open_out : {x : ℕ} → q ≡ Ok x → (knows s h ≡ true) × (is_open s h ≡ true) × (x ≡ slot_of h)
  unfolding open_slot
  open_out e = by_open (knows s h) (is_open s h) (slot_of h) _ (sym m ∙ e)

  -- 2 or 3, for every call that wants an open edit
  pub open_refused : {x : Refusal} (v : Verdict) (o : Outcome) → q ≡ Err x
      → unless s (for_open s h v) o ≡ replies s (of_refusal x)
  unfolding open_slot
  open_refused {x} v o e = go x (no_open (knows s h) (is_open s h) (slot_of h) x (sym m ∙ e))
    where
      go : (y : Refusal) → Closed (knows s h) (is_open s h) y → unless s (for_open s h v) o ≡ replies s (of_refusal y)
      go y (unknown f) = no_edit_lem s o h v f
      go y (ended f g) = edit_ended s o h v f g
