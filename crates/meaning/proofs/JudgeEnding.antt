-- Commit, Abort and Settle judged along the order of the checks. Rests on Judging, CauseTests, SoundParts and
-- CommonEnds.
use Prim.Native.Nat.{ℕ}
use mathlib.Core.Path.{refl}
use mathlib.Core.Bool.{not}
use Rattle.meaning.specs.Store.{Store, slot_of, edit_at}
use Rattle.types.specs.Replies.{nopoint}
use Rattle.meaning.specs.Outcomes.{knows, is_open, version_room}
use Rattle.meaning.specs.Ending.{good_pick, chosen, allowed, no_common, committing, committing_by, commit_checks}
use Rattle.meaning.specs.Ending.{commit_open_by}
use Rattle.meaning.specs.Ending.{commit_verdict, aborting, aborting_by, abort_checks, settling, settling_by}
use Rattle.meaning.specs.Ending.{settle_checks}
use Rattle.meaning.specs.Causes.{BadPoint, NotCommon}
use Rattle.meaning.specs.Order.{order}
use Rattle.types.specs.declared.Handle.{Handle}
use Rattle.types.specs.declared.Pick.{Pick}
use Rattle.types.specs.declared.Pick.TheVariants.{Earliest, Latest, Named}
use Rattle.types.specs.declared.Finish.{Finish}
use Rattle.types.specs.declared.Call.TheVariants as C
use Rattle.meaning.proofs.Lists.{not_both}
use Rattle.meaning.proofs.CommonSet.{common_set_is}
use Rattle.meaning.proofs.CommonEnds.{no_common_is_empty}
use Rattle.meaning.proofs.SoundParts.{sound_out}
use Rattle.meaning.proofs.CauseTests.{Refutes, known_test, open_test, closed_test, point_test, version_row_test}
use Rattle.meaning.proofs.Judging.{Judging, granted, answers, ◌next◌, never, decided, by_test}

pub judging_abort : (h : Handle) (f : Finish) (s : Store) → Judging (C.Abort h f) s (aborting h.0 f s) order
unfolding aborting_by abort_checks
judging_abort h f s =
    not_both next
    never next
    decided (knows s h.0) (λ g. known_test s h.0) refl (λ a. rw a) λ a.
    decided (is_open s h.0) (λ g. open_test s h.0 ((sound_out s g).edits (slot_of h.0)).state a) refl
    (λ b. rw (a, b)) λ b.
    never next never next never next never next never next never next never next
    never next never next never next never next never next never next
    granted (rw (a, b))

pub judging_settle : (h : Handle) (s : Store) → Judging (C.Settle h) s (settling h.0 s) order
unfolding settling_by settle_checks
judging_settle h s =
    not_both next
    never next
    decided (knows s h.0) (λ g. known_test s h.0) refl (λ a. rw a) λ a.
    never next
    decided (not (is_open s h.0)) (λ g. closed_test s h.0) refl (λ b. rw (a, b)) λ b.
    never next never next never next never next never next never next
    never next never next never next never next never next never next
    granted (rw (a, b))

-- 6
pick_test : (h : Handle) (pick : Pick) (f : Finish) → Refutes (good_pick pick) (BadPoint (C.Commit h pick f))
pick_test h Earliest f = record { stands = λ e. absurd (not_both refl e); free = never }
pick_test h Latest f = record { stands = λ e. absurd (not_both refl e); free = never }
pick_test h (Named p) f = point_test p.0

-- 14
common_test : (h : Handle) (pick : Pick) (f : Finish) (s : Store)
    → Refutes (allowed s (slot_of h.0) pick) (NotCommon (C.Commit h pick f) s)
common_test h Earliest f s = record { stands = λ e. absurd (not_both refl e); free = never }
common_test h Latest f s = record { stands = λ e. absurd (not_both refl e); free = never }
common_test h (Named p) f s =
    let w = common_set_is s.records (slot_of h.0) (edit_at s (slot_of h.0)) p.0 in
    record { stands = λ e m. not_both (w.1 m) e; free = λ e m. m (w.0 e) }

pub judging_commit : (h : Handle) (pick : Pick) (f : Finish) (s : Store)
    → Judging (C.Commit h pick f) s (committing h.0 pick f s) order
unfolding committing_by commit_checks commit_open_by commit_verdict
judging_commit h pick f s =
    let k : ℕ = slot_of h.0 in
    not_both next
    never next
    decided (knows s h.0) (λ g. known_test s h.0) refl (λ a. rw a) λ a.
    decided (is_open s h.0) (λ g. open_test s h.0 ((sound_out s g).edits k).state a) refl (λ b. rw (a, b)) λ b.
    never next
    never next
    decided (good_pick pick) (λ g. pick_test h pick f) refl (λ c. rw (a, b, c)) λ c.
    never next
    never next
    by_test (no_common s k)
    (λ d. answers nopoint (λ g. (no_common_is_empty s k).0 d) refl refl (rw (a, b, c, d))) λ d.
    (λ g z. not_both ((no_common_is_empty s k).1 z) d) next
    decided (allowed s k pick) (λ g. common_test h pick f s) refl (λ e. rw (a, b, c, d, e)) λ e.
    never next never next never next never next never next
    decided (version_room s k) (λ g. version_row_test s k) refl (λ u. rw (a, b, c, d, e, u)) λ u.
    granted (rw (a, b, c, d, e, u) (chosen s k pick, refl))
