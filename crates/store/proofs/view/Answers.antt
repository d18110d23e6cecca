-- `view` meets its contract: sound words have a good header, and unsound words are refused. Rests on Doing.
use Rattle.calls.proofs.Checks.{passed}
use Rattle.calls.proofs.Viewing.{sound_header}
use Rattle.store.proofs.Doing.{shows_sound, checked_sound, shows_refused}
use Rattle.store.proofs.view.Goals as goal

pub returns-in_err-check : goal.returns-in_err-check
returns-in_err-check c =
    rw (passed c.from_residual.result c.from_residual.ensures.1) (shows_refused _ c.check.ensures c.in_err-check.was)

pub view-requires : goal.view-requires
view-requires c = sound_header _ (checked_sound _ c.check.ensures c.in_ok-check.was)

pub returns : goal.returns
returns c = shows_sound (checked_sound _ c.check.ensures c.in_ok-check.was) c.view.ensures
