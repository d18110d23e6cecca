-- `answer` meets its contract: the call on sound words, and refusal 1 on others. Rests on Doing of `store`.
use Rattle.calls.proofs.Checks.{passed}
use Rattle.store.proofs.Doing.{checked_sound, does_refused}
use Rattle.batch.proofs.answer.Goals as goal

pub perform-requires : goal.perform-requires
perform-requires c =
    record {
      sound = checked_sound _ c.requires.0 c.in_ok-checked.was;
      index = c.requires.1;
    }

pub returns-in_err-checked : goal.returns-in_err-checked
returns-in_err-checked c = (
  rw (passed c.from_residual.result c.from_residual.ensures.1) (does_refused _ c.requires.0 c.in_err-checked.was),
  c.requires.1,
)

pub returns : goal.returns
returns c = (c.perform.ensures.does, c.perform.ensures.opened.index)
