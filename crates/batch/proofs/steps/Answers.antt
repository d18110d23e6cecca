-- `batch::steps` meets its contract: after i turns the first i calls are done and told. Rests on Running.
use mathlib.Core.Path.{refl}
use native.Mathlib.Omega.{arith}
use Rattle.batch.proofs.Running.{call_fits, reply_fits, verdict_now, run_start, run_again, run_done}
use borrow.Author.Rules.{rules}
use Rattle.batch.proofs.steps.Goals as goal

pub loop-i-init : goal.loop-i-init
loop-i-init c = (
  run_start c.fitting-n.ensures,
  c.requires,
  refl,
)

pub step-requires : goal.step-requires
step-requires c =
    let r = c.loop-i.invariant.0 in (
      verdict_now r (omega arith) c.check-checked.ensures,
      call_fits r (omega arith),
      reply_fits r
          (omega arith),
      c.loop-i.invariant.1,
    )

pub loop-i-preserved : goal.loop-i-preserved
loop-i-preserved c = (
  run_again c.loop-i.invariant.0 (omega arith) (search rules) c.step.ensures.0,
  c.step.ensures.1,
  omega (
    arith,
    c.loop-i.invariant.2,
  ),
)

pub shape_of-words : goal.shape_of-words
shape_of-words c = c.loop-i.invariant.0.size

pub shape_of-replies : goal.shape_of-replies
shape_of-replies c = c.loop-i.invariant.0.told.size

pub shape_of-ix : goal.shape_of-ix
shape_of-ix c = c.loop-i.invariant.2

pub returns : goal.returns
returns c = run_done c.loop-i.invariant.0 (omega arith)
