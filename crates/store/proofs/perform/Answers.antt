-- `perform` meets its contract: each arm is the public call of its kind, granted or refused. Rests on Performing.
use mathlib.Core.Path.{refl}
use Rattle.types.specs.Replies.{ok, edit, locked, purged, at, of_found, of_picked}
use Rattle.meaning.specs.Calls.{act_by}
use Rattle.calls.proofs.Checks.{passed}
use Rattle.store.proofs.Performing.{granted, refused_by, shows_does}
use Rattle.store.proofs.perform.Goals as goal

pub returns-in_err-begin-in-Begin : goal.returns-in_err-begin-in-Begin
unfolding act_by
returns-in_err-begin-in-Begin c =
    refused_by c.in-Begin.is (λ s. refl) (λ h. edit h.0) c.begin.ensures c.in_err-begin-in-Begin.was
    (passed c.from_residual.result c.from_residual.ensures.1)

pub returns-in_ok-begin-in-Begin : goal.returns-in_ok-begin-in-Begin
unfolding act_by
returns-in_ok-begin-in-Begin c = granted c.in-Begin.is (λ s. refl) (λ h. edit h.0) c.begin.ensures
    c.in_ok-begin-in-Begin.was

pub returns-in_err-write-in-Write : goal.returns-in_err-write-in-Write
unfolding act_by
returns-in_err-write-in-Write c =
    refused_by c.in-Write.is (λ s. refl) (λ _. ok) c.write.ensures c.in_err-write-in-Write.was
    (passed c.from_residual-in_err-write-in-Write.result c.from_residual-in_err-write-in-Write.ensures.1)

pub returns-in_ok-write-in-Write : goal.returns-in_ok-write-in-Write
unfolding act_by
returns-in_ok-write-in-Write c = granted c.in-Write.is (λ s. refl) (λ _. ok) c.write.ensures c.in_ok-write-in-Write.was

pub returns-in_err-lock-in-Lock : goal.returns-in_err-lock-in-Lock
unfolding act_by
returns-in_err-lock-in-Lock c =
    refused_by c.in-Lock.is (λ s. refl) (λ s. locked s.low.0 s.high.0) c.lock.ensures c.in_err-lock-in-Lock.was
    (passed c.from_residual-in_err-lock-in-Lock.result c.from_residual-in_err-lock-in-Lock.ensures.1)

pub returns-in_ok-lock-in-Lock : goal.returns-in_ok-lock-in-Lock
unfolding act_by
returns-in_ok-lock-in-Lock c = granted c.in-Lock.is (λ s. refl) (λ s. locked s.low.0 s.high.0) c.lock.ensures
    c.in_ok-lock-in-Lock.was

pub returns-in_err-read-in-Read : goal.returns-in_err-read-in-Read
unfolding act_by
returns-in_err-read-in-Read c =
    refused_by c.in-Read.is (λ s. refl) of_found c.read.ensures c.in_err-read-in-Read.was
    (passed c.from_residual-in_err-read-in-Read.result c.from_residual-in_err-read-in-Read.ensures.1)

pub returns-in_ok-read-in-Read : goal.returns-in_ok-read-in-Read
unfolding act_by
returns-in_ok-read-in-Read c = granted c.in-Read.is (λ s. refl) of_found c.read.ensures c.in_ok-read-in-Read.was

pub returns-in_err-commit-in-Commit : goal.returns-in_err-commit-in-Commit
unfolding act_by
returns-in_err-commit-in-Commit c =
    refused_by c.in-Commit.is (λ s. refl) of_picked c.commit.ensures c.in_err-commit-in-Commit.was
    (passed c.from_residual-in_err-commit-in-Commit.result c.from_residual-in_err-commit-in-Commit.ensures.1)

pub returns-in_ok-commit-in-Commit : goal.returns-in_ok-commit-in-Commit
unfolding act_by
returns-in_ok-commit-in-Commit c = granted c.in-Commit.is (λ s. refl) of_picked c.commit.ensures
    c.in_ok-commit-in-Commit.was

pub returns-in_err-abort-in-Abort : goal.returns-in_err-abort-in-Abort
unfolding act_by
returns-in_err-abort-in-Abort c =
    refused_by c.in-Abort.is (λ s. refl) (λ _. ok) c.abort.ensures c.in_err-abort-in-Abort.was
    (passed c.from_residual-in_err-abort-in-Abort.result c.from_residual-in_err-abort-in-Abort.ensures.1)

pub returns-in_ok-abort-in-Abort : goal.returns-in_ok-abort-in-Abort
unfolding act_by
returns-in_ok-abort-in-Abort c = granted c.in-Abort.is (λ s. refl) (λ _. ok) c.abort.ensures c.in_ok-abort-in-Abort.was

pub returns-in_err-settle-in-Settle : goal.returns-in_err-settle-in-Settle
unfolding act_by
returns-in_err-settle-in-Settle c =
    refused_by c.in-Settle.is (λ s. refl) (λ _. ok) c.settle.ensures c.in_err-settle-in-Settle.was
    (passed c.from_residual-in_err-settle-in-Settle.result c.from_residual-in_err-settle-in-Settle.ensures.1)

pub returns-in_ok-settle-in-Settle : goal.returns-in_ok-settle-in-Settle
unfolding act_by
returns-in_ok-settle-in-Settle c = granted c.in-Settle.is (λ s. refl) (λ _. ok) c.settle.ensures
    c.in_ok-settle-in-Settle.was

pub returns-in_err-purge-in-Purge : goal.returns-in_err-purge-in-Purge
unfolding act_by
returns-in_err-purge-in-Purge c =
    refused_by c.in-Purge.is (λ s. refl) (λ f. purged f.versions f.locks) c.purge.ensures c.in_err-purge-in-Purge.was
    (passed c.from_residual-in_err-purge-in-Purge.result c.from_residual-in_err-purge-in-Purge.ensures.1)

pub returns-in_ok-purge-in-Purge : goal.returns-in_ok-purge-in-Purge
unfolding act_by
returns-in_ok-purge-in-Purge c = granted c.in-Purge.is (λ s. refl) (λ f. purged f.versions f.locks) c.purge.ensures
    c.in_ok-purge-in-Purge.was

pub returns-in_err-view-in-View : goal.returns-in_err-view-in-View
unfolding act_by
returns-in_err-view-in-View c =
    refused_by c.in-View.is (λ s. refl) (λ s. at s.point.0 s.value) (shows_does _ _ c.view.ensures)
    c.in_err-view-in-View.was
    (passed c.from_residual-in_err-view-in-View.result c.from_residual-in_err-view-in-View.ensures.1)

pub returns-in_ok-view-in-View : goal.returns-in_ok-view-in-View
unfolding act_by
returns-in_ok-view-in-View c = granted c.in-View.is (λ s. refl) (λ s. at s.point.0 s.value)
    (shows_does _ _ c.view.ensures) c.in_ok-view-in-View.was
