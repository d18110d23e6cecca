-- Sessions and intervals: what the small functions give. Rests on specs/Desk.
use Prim.Native.Nat.{ℕ, ◌+◌, ◌-◌, ◌≤◌, ◌<◌, min, max}
use native.Mathlib.Omega.{arith}
use native.Mathlib.Nat.{min-le_right, le-max_right}
use mathlib.Core.Path.{◌≡◌, refl}
use mathlib.Core.Bool.{true, false, cond, ◌&&◌}
use mathlib.Core.List.{List, [], ◌∷◌}
use Rattle.std.specs.Prelude.{Result, Ok, Err, Some, None}
use lib.Dec.{leb}
use types.Run.{OneOf, miss}
use denote.Enum.Declared.{tag_of}
use borrow.Author.Tests.{lt-ltb, leb-true}
use Rattle.types.specs.Limits.{LAST}
use Rattle.types.specs.Replies.{of_view, of_refusal, refusing}
use Rattle.types.specs.declared.Point.{Point}
use Rattle.types.specs.declared.Refusal.{Refusal}
use Rattle.types.specs.contracts.Refusal.{the_type}
use Rattle.types.specs.declared.Refusal.TheVariants.{Unsound, NoEdit, EditEnded, EditOpen, NoRecord, BadPoint}
use Rattle.types.specs.declared.Refusal.TheVariants.{BelowFloor, Held, Frozen, NoAccessRow, NoLockRow, NoVersionRow}
use Rattle.types.specs.declared.Refusal.TheVariants.{NoSlot, NotCommon, LockedBelow, BadFormat}
use Rattle.types.specs.declared.Seen.{Seen}
use Rattle.meaning.specs.Records.{viewing}
use Rattle.meaning.proofs.Lists.{and_left, and_right}
use Rattle.store.specs.Promises.{Shows}
use Rattle.layers.specs.Programs.{view}
use Rattle.desk.specs.Desk.{ended, between, cut_to, good_start, ended_reply, ByLook}
use Rattle.desk.specs.declared.Session.{Session}

pub good_start_fits : (t width : ℕ) → good_start t width ≡ true → t + width ≤ LAST
unfolding good_start
good_start_fits t width g =
    let l = leb-true t LAST (and_right (leb 1 t) (leb t LAST) (and_left (leb 1 t && leb t LAST) _ g)) in
    let k = leb-true width (LAST - t) (and_right (leb 1 t && leb t LAST) _ g) in
    omega arith

-- an interval cut, by the session that the code makes of its ends
module _ (s : Session) (a b : ℕ) (low high : Point) (e : low.0 ≡ max s.low.0 a) (f : high.0 ≡ min s.high.0 b) where
  left_is : cond (ended (between s low.0 high.0)) None (Some (between s low.0 high.0)) ≡ cut_to s a b
  unfolding cut_to
  left_is = rw (e, f) refl

  pub cut_empty : ended (between s low.0 high.0) ≡ true → None ≡ cut_to s a b
  cut_empty t = rw t at left_is

  pub cut_left : ended (between s low.0 high.0) ≡ false → Some (between s low.0 high.0) ≡ cut_to s a b
  cut_left t = rw t at left_is

-- there is no point above tr
pub cut_above : (s : Session) (a b : ℕ) → b < a → None ≡ cut_to s a b
unfolding cut_to ended
cut_above s a b l =
    rw
    (lt-ltb (min s.high.0 b) (max s.low.0 a) (omega (arith, l, min-le_right s.high.0 b, le-max_right s.low.0 a)))
    refl

-- what an ended session is refused with: the refusals but 1, by their place
abbrev others : List ℕ
others = 1 ∷ 2 ∷ 3 ∷ 4 ∷ 5 ∷ 6 ∷ 7 ∷ 8 ∷ 9 ∷ 10 ∷ 11 ∷ 12 ∷ 13 ∷ 14 ∷ 15 ∷ []

not_one : (r : Refusal) → OneOf others (tag_of the_type r) → refusing 3 [] ≡ ended_reply (of_refusal r)
not_one Unsound k = absurd (miss others 0 tt k)
not_one NoEdit k = refl
not_one EditEnded k = refl
not_one EditOpen k = refl
not_one NoRecord k = refl
not_one BadPoint k = refl
not_one BelowFloor k = refl
not_one (Held h) k = refl
not_one Frozen k = refl
not_one NoAccessRow k = refl
not_one NoLockRow k = refl
not_one NoVersionRow k = refl
not_one NoSlot k = refl
not_one NotCommon k = refl
not_one LockedBelow k = refl
not_one BadFormat k = refl

module _ {w : List ℕ} (p : Point) (z : p.0 ≡ 0) (q : Result Seen Refusal)
    (d : Shows (viewing 0 p.0) w (of_view q)) where
  at_zero : Shows (viewing 0 0) w (of_view q)
  at_zero = rw z at d

  pub ended_seen : (x : Seen) → q ≡ Ok x → ByLook (view 0 0) ended_reply w EditEnded
  ended_seen x e = record { seen = of_view q; shows = at_zero; is = rw e refl }

  pub ended_one : q ≡ Err Unsound → ByLook (view 0 0) ended_reply w Unsound
  ended_one e = record { seen = of_view q; shows = at_zero; is = rw e refl }

  pub ended_other : (x : Refusal) → q ≡ Err x → OneOf others (tag_of the_type x)
      → ByLook (view 0 0) ended_reply w EditEnded
  ended_other x e k = record { seen = of_view q; shows = at_zero; is = rw e (not_one x k) }
