-- `step` meets its contract: the row of the call's reply goes to its place. Assumes nothing.
use Rattle.batch.proofs.Running.{stepped}
use Rattle.batch.proofs.step.Goals as goal

pub answer-reply-requires : goal.answer-reply-requires
answer-reply-requires c = (
  c.requires.0,
  c.requires.3,
)

pub returns : goal.returns
returns c = (
  stepped c.call_at.ensures c.answer-reply.ensures.0 c.row_of.ensures c.put_row.ensures,
  c.answer-reply.ensures.1,
)
