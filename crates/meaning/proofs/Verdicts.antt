-- What a verdict that passes says of each of its tests, and that a call which is refused leaves the store as it is.
-- Rests on Lists and Stores.
use Prim.Native.Nat.{ℕ, ◌<◌}
use native.Mathlib.Omega.{arith}
use mathlib.Core.Path.{◌≡◌, refl}
use mathlib.Core.Bool.{Bool, true, false, cond}
use mathlib.Core.List.{List, [], ◌∷◌}
use lib.Dec.{eqb}
use lib.ListN.{length}
use borrow.Author.Tests.{eqb-true, ltb-true}
use Rattle.types.specs.Limits.{FREE, OPEN}
use Rattle.meaning.specs.Records.{viewing, view_checks}
use Rattle.meaning.specs.Store.{Store, slot_of, generation_of, edit_at, rec_at, in_use, locks_used}
use Rattle.meaning.specs.Points.{frozen, holder}
use Rattle.meaning.specs.Outcomes.{Outcome, replies, Verdict, pass, refuse, or_else, needs, unless, knows, is_open}
use Rattle.meaning.specs.Outcomes.{for_open, judge, handle_at, has_record, lock_room}
use Rattle.meaning.proofs.Lists.{and_left, and_right}
use Rattle.meaning.proofs.Stores.{InRange, used_out, used_range}

pub refuse_not_pass : (n : ℕ) (more : List ℕ) → refuse n more ≡ pass → ⊥
refuse_not_pass n more e = let z : ◌≡◌ {A = ℕ} 0 1 = cc in omega arith

pub or_else_pass : (b : Bool) (r v : Verdict) → (r ≡ pass → ⊥) → or_else b r v ≡ pass → (b ≡ true) × (v ≡ pass)
or_else_pass true r v h e = (refl, e)
or_else_pass false r v h e = absurd (h e)

pub needs_pass : (b : Bool) (n : ℕ) (v : Verdict) → needs b n v ≡ pass → (b ≡ true) × (v ≡ pass)
needs_pass b n v e = or_else_pass b (refuse n []) v (refuse_not_pass n []) e

pub judge_refuses : (s : Store) (r mode k p : ℕ) → judge s r mode k p ≡ pass → ⊥
unfolding judge
judge_refuses s r mode k p e = go (frozen s r mode p) e
  where
    go : (b : Bool) → cond b (refuse 9 []) (refuse 8 (handle_at s (holder mode k (rec_at s r) p) ∷ [])) ≡ pass → ⊥
    go true q = refuse_not_pass 9 [] q
    go false q = refuse_not_pass 8 (handle_at s (holder mode k (rec_at s r) p) ∷ []) q

-- what holds of the store, and of the store after a call that passes, holds after the call
pub unless_keeps : (P : Store → Type 0) (s : Store) (v : Verdict) (o : Outcome) → P s → (v ≡ pass → P o.store)
    → P (unless s v o).store
unless_keeps P s pass o h f = f refl
unless_keeps P s (refuse n more) o h f = h

-- the handle names an edit
pub record Known (s : Store) (h : ℕ) : Type 0 where
  pub in_use_lem : in_use s.edits (slot_of h) ≡ true
  pub used : (edit_at s (slot_of h)).state ≡ FREE → ⊥
  pub range : InRange s.edits (slot_of h)
  pub generation : (edit_at s (slot_of h)).generation ≡ generation_of h

pub knows_out : (s : Store) (h : ℕ) → knows s h ≡ true → Known s h
unfolding knows
knows_out s h e =
    let g = eqb (edit_at s (slot_of h)).generation (generation_of h) in
    let u = and_left (in_use s.edits (slot_of h)) g e in
    let f = used_out s.edits (slot_of h) u in
    record {
      in_use_lem = u;
      used = f;
      range = used_range s.edits (slot_of h) f;
      generation =
          eqb-true (edit_at s (slot_of h)).generation (generation_of h) (and_right (in_use s.edits (slot_of h)) g e);
    }

pub is_open_out : (s : Store) (h : ℕ) → is_open s h ≡ true → (edit_at s (slot_of h)).state ≡ OPEN
unfolding is_open
is_open_out s h e = eqb-true (edit_at s (slot_of h)).state OPEN e

-- a verdict for an open edit that passes: the handle names an edit, it is open, and the rest passes
pub record PassedOpen (s : Store) (h : ℕ) (v : Verdict) : Type 0 where
  pub known : Known s h
  pub state : (edit_at s (slot_of h)).state ≡ OPEN
  pub rest : v ≡ pass

pub for_open_pass : (s : Store) (h : ℕ) (v : Verdict) → for_open s h v ≡ pass → PassedOpen s h v
for_open_pass s h v e =
    let a = needs_pass (knows s h) 2 (needs (is_open s h) 3 v) e in
    let b = needs_pass (is_open s h) 3 v a.1 in
    record { known = knows_out s h a.0; state = is_open_out s h b.0; rest = b.1 }

-- the record is there, and a lock row is free
pub has_record_out : (s : Store) (r : ℕ) → has_record s r ≡ true → r < length s.records
unfolding has_record
has_record_out s r e = ltb-true r (length s.records) e

pub lock_room_out : (s : Store) → lock_room s ≡ true → locks_used s < s.lock_rows
unfolding lock_room
lock_room_out s e = ltb-true (locks_used s) s.lock_rows e

-- a view leaves the store as it is
pub view_same : (r p : ℕ) (s : Store) → (viewing r p s).store ≡ s
unfolding viewing
view_same r p s = unless_keeps (λ (t : Store). t ≡ s) s (view_checks s r p) (replies s _) refl (λ e. refl)
