-- Lock judged along the order of the checks. Rests on Judging, CauseTests, SoundParts and Denials.
use Prim.Native.Nat.{ℕ, ◌≤◌}
use mathlib.Core.Path.{◌≡◌, refl}
use mathlib.Core.Logic.{◌↔◌}
use mathlib.Core.Bool.{Bool, true, ◌&&◌}
use mathlib.Core.List.{[], ◌∷◌}
use lib.Dec.{leb, ltb}
use borrow.Author.Tests.{leb-true}
use Rattle.types.specs.Limits.{LAST, WRITE}
use Rattle.meaning.specs.Store.{Lock, Rec, Store, slot_of, rec_at}
use Rattle.meaning.specs.Points.{first_blocked, frozen, holder}
use Rattle.meaning.specs.Outcomes.{knows, is_open, has_record, judge, handle_at, lock_room}
use Rattle.meaning.specs.Locking.{lock_from, lock_end, lock_granted, locking, locking_by, lock_checks, lock_wanted_by}
use Rattle.meaning.specs.Locking.{lock_verdict}
use Rattle.meaning.specs.Sound.{sound_store}
use Rattle.meaning.specs.Pointwise.{Proper, Frozen}
use Rattle.meaning.specs.Causes.{LockJudged}
use Rattle.meaning.specs.Order.{order, concerns}
use Rattle.types.specs.declared.Handle.{Handle}
use Rattle.types.specs.declared.Point.{Point}
use Rattle.types.specs.declared.Extent.{Extent}
use Rattle.types.specs.declared.Call.TheVariants as C
use Rattle.meaning.proofs.Lists.{and_left, not_both}
use Rattle.meaning.proofs.SoundParts.{sound_out}
use Rattle.meaning.proofs.Points.{frozen_is}
use Rattle.meaning.proofs.Denials.{lock_granted_lem, lock_denied, lock_judged_one}
use Rattle.meaning.proofs.CauseTests.{known_test, open_test, record_test, span_test, below_test, lock_row_test}
use Rattle.meaning.proofs.Judging.{Judging, granted, refuses, ◌next◌, never, listed, decided, shown, by_test}

-- each lock of a sound store is a span of points
pub proper : (s : Store) → sound_store s ≡ true → (r : ℕ) → Proper (rec_at s r)
proper s g r l m = (((sound_out s g).recs r).span l m).some

-- 9, at the point judged
frozen_lock : (s : Store) (k r low high : ℕ) (w : Extent) (p : ℕ) → LockJudged s k r low high w p
    → (frozen s r WRITE p ≡ true) ↔ ((q : ℕ) × LockJudged s k r low high w q × Frozen s r WRITE q)
frozen_lock s k r low high w p j =
    (λ e. (p, j, (frozen_is s r WRITE p).0 e), λ f. (frozen_is s r WRITE p).1 (rw (lock_judged_one j f.1) f.2))

pub judging_lock : (h : Handle) (r : ℕ) (low high : Point) (w : Extent) (s : Store)
    → Judging (C.Lock h r low high w) s (locking h.0 r low.0 high.0 w s) order
unfolding locking_by lock_checks lock_wanted_by lock_verdict judge
judging_lock h r low high w s =
    let k : ℕ = slot_of h.0 in
    let x : Rec = rec_at s r in
    let span : Bool = leb low.0 high.0 && leb high.0 LAST in
    let from : ℕ = lock_from w k x low.0 high.0 in
    let end : ℕ = lock_end w k x low.0 high.0 in
    let p : ℕ = first_blocked WRITE k x low.0 high.0 in
    not_both next
    never next
    decided (knows s h.0) (λ g. known_test s h.0) refl (λ a. rw a) λ a.
    decided (is_open s h.0) (λ g. open_test s h.0 ((sound_out s g).edits k).state a) refl (λ b. rw (a, b)) λ b.
    never next
    decided (has_record s r) (λ g. record_test s r) refl (λ c. rw (a, b, c)) λ c.
    decided span (λ g. span_test low.0 high.0) refl (λ d. rw (a, b, c, d)) λ d.
    never next
    decided (ltb x.floor low.0) (λ g. below_test x.floor low.0) refl (λ e. rw (a, b, c, d, e)) λ e.
    never next never next never next
    let l : low.0 ≤ high.0 = leb-true low.0 high.0 (and_left (leb low.0 high.0) (leb high.0 LAST) d) in
    by_test (lock_granted w k x low.0 high.0)
    (λ t.
    (λ g j. lock_granted_lem s k r low.0 high.0 w (proper s g r) l t j.1) next
    (λ g j. lock_granted_lem s k r low.0 high.0 w (proper s g r) l t j.1) next
    never next
    decided (lock_room s) (λ g. lock_row_test s) refl (λ u. rw (a, b, c, d, e, t, u)) λ u.
    never next
    granted (rw (a, b, c, d, e, t, u) (from, (end, refl))))
    (λ t.
    let j : sound_store s ≡ true → LockJudged s k r low.0 high.0 w p =
    λ g. lock_denied s k r low.0 high.0 w (proper s g r) l t
    in
    shown (frozen s r WRITE p) (λ g. frozen_lock s k r low.0 high.0 w p (j g)) refl
    (λ u. rw (a, b, c, d, e, t, u)) λ u.
    refuses 8 (handle_at s (holder WRITE k x p) ∷ []) (λ g. (p, j g, tt)) (_, refl)
    (record { number = listed 8 (concerns (C.Lock h r low high w)) refl; holder = λ q. refl })
    (rw (a, b, c, d, e, t, u)))
