-- `Chart::at` meets its contract: View on sound words, and refusal 1 on others. Rests on Doing of `store`.
use Rattle.calls.proofs.Checks.{passed}
use Rattle.calls.proofs.Viewing.{sound_header}
use Rattle.store.proofs.Doing.{checked_sound, shows_sound, shows_refused}
use Rattle.view.proofs.Chart.at.Goals as goal

pub view-requires : goal.view-requires
view-requires c = sound_header _ (checked_sound _ c.args.self.verdict c.in_ok-self.was)

pub returns-in_err-self : goal.returns-in_err-self
returns-in_err-self c =
    rw (passed c.from_residual.result c.from_residual.ensures.1)
    (shows_refused _ c.args.self.verdict c.in_err-self.was)

pub returns : goal.returns
returns c = shows_sound (checked_sound _ c.args.self.verdict c.in_ok-self.was) c.view.ensures
