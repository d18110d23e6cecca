-- Read judged along the order of the checks. Rests on Judging, JudgeLocking, CauseTests, SoundParts, Denials and
-- Accessed.
use Prim.Native.Nat.{ℕ, ◌-◌, ◌≤◌, ◌<◌}
use native.Mathlib.Omega.{arith}
use mathlib.Core.Path.{◌≡◌, refl}
use mathlib.Core.Logic.{◌⊎◌, inl, inr, ◌↔◌}
use mathlib.Core.Bool.{true, false}
use mathlib.Core.List.{[], ◌∷◌}
use lib.Dec.{leb, ltb}
use borrow.Author.Tests.{leb-true, ltb-true, ltb-false}
use Rattle.types.specs.Limits.{LAST, READ}
use Rattle.meaning.specs.Store.{Value, Access, Rec, Store, slot_of, edit_at, rec_at, access_of, has_read, version_on}
use Rattle.meaning.specs.Points.{first_blocked, frozen, holder}
use Rattle.types.specs.Replies.{own, again}
use Rattle.meaning.specs.Outcomes.{knows, is_open, has_record, is_point, judge, handle_at, access_room, lock_room}
use Rattle.meaning.specs.Locking.{read_granted, read_version, read_from, reading, reading_by, read_checks, read_open_by}
use Rattle.meaning.specs.Locking.{read_new_by}
use Rattle.meaning.specs.Locking.{read_verdict}
use Rattle.meaning.specs.Sound.{sound_store}
use Rattle.meaning.specs.SoundFacts.{SoundStore}
use Rattle.meaning.specs.Pointwise.{Frozen, NewestIs}
use Rattle.meaning.specs.Causes.{Accessed, ReadJudged}
use Rattle.meaning.specs.Order.{order, concerns}
use Rattle.types.specs.declared.Handle.{Handle}
use Rattle.types.specs.declared.Point.{Point}
use Rattle.types.specs.declared.Extent.{Extent}
use Rattle.types.specs.declared.Call.TheVariants as C
use Rattle.meaning.proofs.Lists.{and_left, not_both}
use Rattle.meaning.proofs.SoundParts.{sound_out}
use Rattle.meaning.proofs.Points.{frozen_is}
use Rattle.meaning.proofs.Newest.{newest_below_is, newest_below_lem}
use Rattle.meaning.proofs.Denials.{read_granted_lem, read_denied, read_judged_one}
use Rattle.meaning.proofs.Accessed.{accessed_in, accessed_out}
use Rattle.meaning.proofs.CauseTests.{known_test, open_test, record_test, point_test, below_test, access_test}
use Rattle.meaning.proofs.CauseTests.{lock_row_test}
use Rattle.meaning.proofs.JudgeLocking.{proper}
use Rattle.meaning.proofs.Judging.{Judging, granted, refuses, answers, ◌next◌, never, listed, decided, shown}
use Rattle.meaning.proofs.Judging.{by_test}
use Rattle.meaning.specs.Store.{has_written, written_value}

-- an access without a mark is neither an own value nor a read
not_accessed : (s : Store) (k r : ℕ) → SoundStore s → has_written (access_of (edit_at s k) r) ≡ false
    → has_read (access_of (edit_at s k) r) ≡ false → Accessed s k r → ⊥
not_accessed s k r g w h d = go (accessed_out s k r (g.edits k).once d)
  where
    go : (has_written (access_of (edit_at s k) r) ≡ true) ⊎ (0 < (access_of (edit_at s k) r).from) → ⊥
    go (inl e) = not_both e w
    go (inr l) = omega (arith, ltb-false 0 (access_of (edit_at s k) r).from h)

-- 9, at the point judged
frozen_read : (s : Store) (k r m : ℕ) (w : Extent) (p : ℕ) → ReadJudged s k r m w p
    → (frozen s r READ p ≡ true) ↔ ((q : ℕ) × ReadJudged s k r m w q × Frozen s r READ q)
frozen_read s k r m w p j =
    (λ e. (p, j, (frozen_is s r READ p).0 e), λ f. (frozen_is s r READ p).1 (rw (read_judged_one j f.1) f.2))

pub judging_read : (h : Handle) (r : ℕ) (m : Point) (w : Extent) (s : Store)
    → Judging (C.Read h r m w) s (reading h.0 r m.0 w s) order
unfolding reading_by read_checks read_open_by read_new_by read_verdict judge
judging_read h r m w s =
    let k : ℕ = slot_of h.0 in
    let x : Rec = rec_at s r in
    let a : Access = access_of (edit_at s k) r in
    let old : Value = (version_on x.versions (a.from - 1)).value in
    let low : ℕ = read_from s r m.0 in
    let p : ℕ = first_blocked READ k x low m.0 in
    let n : sound_store s ≡ true → NewestIs x.versions m.0 (read_version s r m.0) =
    λ g. newest_below_is x m.0 ((sound_out s g).recs r).falls
    in
    not_both next
    never next
    decided (knows s h.0) (λ g. known_test s h.0) refl (λ e₁. rw e₁) λ e₁.
    decided (is_open s h.0) (λ g. open_test s h.0 ((sound_out s g).edits k).state e₁) refl (λ e₂. rw (e₁, e₂))
    λ e₂.
    never next
    decided (has_record s r) (λ g. record_test s r) refl (λ e₃. rw (e₁, e₂, e₃)) λ e₃.
    decided (is_point m.0) (λ g. point_test m.0) refl (λ e₄. rw (e₁, e₂, e₃, e₄)) λ e₄.
    by_test (has_written a)
    (λ e₅. answers (own (written_value a)) (λ g. accessed_in s k r (inl e₅)) (inl (written_value a, refl)) refl
    (rw (e₁, e₂, e₃, e₄, e₅)))
    λ e₅.
    by_test (has_read a)
    (λ e₆. answers (again (a.from - 1) old) (λ g. accessed_in s k r (inr (ltb-true 0 a.from e₆)))
    (inr (a.from - 1, (old, refl))) refl (rw (e₁, e₂, e₃, e₄, e₅, e₆))) λ e₆.
    (λ g. not_accessed s k r (sound_out s g) e₅ e₆) next
    decided (ltb x.floor m.0) (λ g. below_test x.floor m.0) refl (λ e₇. rw (e₁, e₂, e₃, e₄, e₅, e₆, e₇))
    λ e₇.
    never next never next never next
    let l : sound_store s ≡ true → low ≤ m.0 =
    λ g. newest_below_lem (n g) (leb-true 1 m.0 (and_left (leb 1 m.0) (leb m.0 LAST) e₄))
    in
    by_test (read_granted w k x low m.0)
    (λ e₈.
    (λ g j. read_granted_lem s k r m.0 w (proper s g r) (n g) (l g) e₈ j.1) next
    (λ g j. read_granted_lem s k r m.0 w (proper s g r) (n g) (l g) e₈ j.1) next
    decided (access_room s k r) (λ g. access_test s k r) refl (λ e₉. rw (e₁, e₂, e₃, e₄, e₅, e₆, e₇, e₈, e₉)) λ e₉.
    decided (lock_room s) (λ g. lock_row_test s) refl (λ u. rw (e₁, e₂, e₃, e₄, e₅, e₆, e₇, e₈, e₉, u)) λ u.
    never next
    granted (rw (e₁, e₂, e₃, e₄, e₅, e₆, e₇, e₈, e₉, u) (_, (_, (_, refl)))))
    (λ e₈.
    let j : sound_store s ≡ true → ReadJudged s k r m.0 w p =
    λ g. read_denied s k r m.0 w (proper s g r) (n g) (l g) e₈
    in
    shown (frozen s r READ p) (λ g. frozen_read s k r m.0 w p (j g)) refl
    (λ u. rw (e₁, e₂, e₃, e₄, e₅, e₆, e₇, e₈, u)) λ u.
    refuses 8 (handle_at s (holder READ k x p) ∷ []) (λ g. (p, j g, tt)) (_, refl)
    (record { number = listed 8 (concerns (C.Read h r m w)) refl; holder = λ q. refl })
    (rw (e₁, e₂, e₃, e₄, e₅, e₆, e₇, e₈, u)))
