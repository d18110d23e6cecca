-- What every change that a call makes keeps, every call keeps. Rests on the calls of the crate meaning.
use Prim.Native.Nat.{ℕ, ◌-◌}
use mathlib.Core.Path.{◌≡◌, refl}
use mathlib.Core.Bool.{Bool, true, false, cond}
use lib.Dec.{leb}
use Rattle.meaning.specs.Store.{Edit, Store, edit_at, rec_at, with_edit, with_rec, access_of, has_read, newest_at}
use Rattle.types.specs.Numbers.{slot_of}
use Rattle.types.specs.Replies.{ok, own, again, commit, nopoint, purged}
use Rattle.meaning.specs.Outcomes.{Outcome, replies}
use Rattle.meaning.specs.Edits.{begun, begin_checks, beginning, written, write_checks, writing}
use Rattle.meaning.specs.Locking.{with_lock, lock_verdict, lock_checks, lock_wanted, lock_wanted_by, locking_by}
use Rattle.meaning.specs.Locking.{read_verdict}
use Rattle.meaning.specs.Locking.{read_store, read_store_by}
use Rattle.meaning.specs.Locking.{read_new, read_new_by, read_open, read_open_by, read_checks, reading_by}
use Rattle.meaning.specs.Ending.{settled, finished, committed, aborted, chosen, no_common, commit_verdict, commit_open}
use Rattle.meaning.specs.Ending.{commit_open_by}
use Rattle.meaning.specs.Ending.{commit_checks, committing_by, abort_checks, aborting_by, settle_checks}
use Rattle.meaning.specs.Ending.{settling_by}
use Rattle.meaning.specs.Records.{purged_rec, purge_verdict, purge_to, purge_checks, purging, view_checks, viewing}
use Rattle.meaning.specs.Calls.{act, act_by}
use Rattle.types.specs.declared.Point.{Point}
use Rattle.types.specs.declared.Finish.{Finish}
use Rattle.types.specs.declared.Finish.TheVariants as F
use Rattle.types.specs.declared.Call.{Call}
use Rattle.types.specs.declared.Call.TheVariants as C
use Rattle.meaning.proofs.Verdicts.{unless_keeps}
use Rattle.meaning.specs.Store.{has_written, written_value}

-- the changes: of a slot, of a record's locks, a commit, a settling, a purge of r to a version at v, where that may be
pub record Kept (P : Store → Type 0) (May : ℕ → ℕ → Type 0) : Type 0 where
  pub edit : (s : Store) (k : ℕ) (e : Edit) → P s → P (with_edit s k e)
  pub lock : (s : Store) (r mode k low high : ℕ) → P s → P (with_lock s r mode k low high)
  pub commits : (s : Store) (k t : ℕ) → P s → P (committed s k t)
  pub settles : (s : Store) (k : ℕ) → P s → P (settled s k)
  pub purges : (s : Store) (r v : ℕ) → May r v → P s → P (with_rec s r (purged_rec (rec_at s r) v))

abbrev pub Always : ℕ → ℕ → Type 0
Always r v = Unit {0}

-- the version to which a call would purge may be purged to
abbrev pub MayPurge : (ℕ → ℕ → Type 0) → Call → Store → Type 0
MayPurge May c s = (r : ℕ) (b : Point) → c ≡ C.Purge r b → May r (newest_at (rec_at s r).versions b.0).point

cond_keeps : (P : Store → Type 0) (b : Bool) (o q : Outcome) → P o.store → P q.store → P (cond b o q).store
cond_keeps P true o q f g = f
cond_keeps P false o q f g = g

module _ {P : Store → Type 0} {May : ℕ → ℕ → Type 0} (kept : Kept P May) where
  finished_keeps : (f : Finish) (s : Store) (k : ℕ) → P s → P (finished f s k)
  finished_keeps F.Settle s k h = kept.settles s k h
  finished_keeps F.Keep s k h = h

  pub aborted_keeps : (s : Store) (k : ℕ) → P s → P (aborted s k)
  unfolding aborted
  aborted_keeps s k h = kept.edit s k _ h

  pub call_keeps : (c : Call) (s : Store) → MayPurge May c s → P s → P (act c s).store
  unfolding act_by beginning begun writing written locking_by lock_wanted_by reading_by read_open_by
      read_new_by read_store_by
      committing_by
      commit_open_by aborting_by settling_by purging purge_to viewing
  call_keeps C.Begin s may h = unless_keeps P s (begin_checks s) (replies (begun s _) _) h (λ e. kept.edit s _ _ h)
  call_keeps (C.Write g r v) s may h =
      unless_keeps P s (write_checks s g.0 r) (replies (written s (slot_of g.0) r v) ok) h (λ e. kept.edit s _ _ h)
  call_keeps (C.Lock g r low high w) s may h =
      unless_keeps P s (lock_checks s g.0 r low.0 high.0) (lock_wanted s (slot_of g.0) r low.0 high.0 w)
      h (λ e.
      unless_keeps P s (lock_verdict s (slot_of g.0) r low.0 high.0 w) _ h (λ d. kept.lock s r _ _ _ _ h))
  call_keeps (C.Read g r m w) s may h =
      unless_keeps P s (read_checks s g.0 r m.0) (read_open s (slot_of g.0) r m.0 w) h (λ e.
      let k = slot_of g.0 in
      cond_keeps P (has_written (access_of (edit_at s k) r))
      (replies s (own (written_value (access_of (edit_at s k) r)))) _ h
      (cond_keeps P (has_read (access_of (edit_at s k) r)) (replies s (again ((access_of (edit_at s k) r).from - 1) _))
      (read_new s k r m.0 w) h
      (unless_keeps P s (read_verdict s k r m.0 w) (replies (read_store s k r _ _) _) h
      (λ d. kept.edit _ _ _ (kept.lock s r _ _ _ _ h)))))
  call_keeps (C.Commit g pick f) s may h =
      unless_keeps P s (commit_checks s g.0 pick) (commit_open s (slot_of g.0) pick f) h (λ e.
      let k = slot_of g.0 in
      cond_keeps P (no_common s k) (replies (finished f (aborted s k) k) nopoint) _
      (finished_keeps f (aborted s k) k (aborted_keeps s k h))
      (unless_keeps P s (commit_verdict s k pick)
      (replies (finished f (committed s k (chosen s k pick)) k) (commit (chosen s k pick))) h
      (λ d. finished_keeps f (committed s k (chosen s k pick)) k (kept.commits s k (chosen s k pick) h))))
  call_keeps (C.Abort g f) s may h =
      unless_keeps P s (abort_checks s g.0) (replies (finished f (aborted s (slot_of g.0)) (slot_of g.0)) ok) h
      (λ e. finished_keeps f (aborted s (slot_of g.0)) (slot_of g.0) (aborted_keeps s (slot_of g.0) h))
  call_keeps (C.Settle g) s may h =
      unless_keeps P s (settle_checks s g.0) (replies (settled s (slot_of g.0)) ok) h
      (λ e. kept.settles s (slot_of g.0) h)
  call_keeps (C.Purge r b) s may h =
      unless_keeps P s (purge_checks s r b.0) (purge_to s r (newest_at (rec_at s r).versions b.0).point) h (λ e.
      let v = (newest_at (rec_at s r).versions b.0).point in
      cond_keeps P (leb v (rec_at s r).floor) (replies s (purged 0 0)) _ h
      (unless_keeps P s (purge_verdict (rec_at s r) v) (replies (with_rec s r (purged_rec (rec_at s r) v)) _) h
      (λ d. kept.purges s r v (may r b refl) h)))
  call_keeps (C.View r p) s may h = unless_keeps P s (view_checks s r p.0) (replies s _) h (λ e. h)
