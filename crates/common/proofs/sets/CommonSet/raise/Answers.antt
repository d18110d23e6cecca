-- Each turn asks one access more, or finds that it allows no point further on. Rests on Lifts.
use mathlib.Core.Path.{ap, ◌∙◌}
use native.Mathlib.Omega.{arith}
use Rattle.std.specs.Iterator.Adapters.{take_source, take_count}
use Rattle.tables.specs.Walked.{values_left}
use Rattle.common.proofs.Common.{named_all, named_next, named_on}
use Rattle.common.proofs.Fronts.{first_taken}
use Rattle.common.proofs.Lifts.{raise_start, raise_on, raise_out}
use Rattle.common.proofs.sets.CommonSet.raise.Goals as goal

pub loop-a-init : goal.loop-a-init
loop-a-init g c =
    let s = c.take-a-items.ensures in
    let e =
    ap (λ t. values_left (take_source t)) c.into_iter-a-iterator.ensures.into_iter_gives ∙ ap values_left s.source
    ∙ c.accesses.ensures in
    let n = ap take_count c.into_iter-a-iterator.ensures.into_iter_gives ∙ s.count in (
      raise_start (omega (arith, c.requires.1)) (first_taken _ _ _ n e),
      rw e (named_all _ _ _ c.args.self.named),
      c.requires.1,
    )

pub limit-requires : goal.limit-requires
limit-requires g c = named_next _ _ c.loop-a.invariant.1 c.in-Some.ensures.steps.0

pub returns-in_err-q : goal.returns-in_err-q
returns-in_err-q g c =
    rw c.from_residual.ensures
    (raise_out (take_count c.loop-a.a-iterator) (take_count c.next.new.self) c.loop-a.invariant.0
    c.in-Some.ensures.steps.0 c.in-Some.ensures.steps.1
    (rw (c.limit.ensures.0, c.limit.ensures.1, c.limit.ensures.2, c.in_err-q.was) at c.next_allowed.ensures))

pub loop-a-preserved : goal.loop-a-preserved
loop-a-preserved g c =
    let b = rw (c.limit.ensures.0, c.limit.ensures.1, c.limit.ensures.2, c.in_ok-q.was) at c.next_allowed.ensures in (
      raise_on (take_count c.loop-a.a-iterator) (take_count c.next.new.self) c.loop-a.invariant.0
          c.in-Some.ensures.steps.0 c.in-Some.ensures.steps.1 b.0,
      named_on _ _ c.loop-a.invariant.1 c.in-Some.ensures.steps.0,
      b.1,
    )
