-- `calls::point` meets its contract. Rests on Checks.
use Rattle.calls.proofs.Checks.{point_low, point_high, point_there}
use Rattle.calls.proofs.point.Goals.{then-q-least-via-then-q-least, then-q-least-via-else-q-least+then-q-gt-LAST}
use Rattle.calls.proofs.point.Goals as goal

pub returns-then-q-least : goal.returns-then-q-least
returns-then-q-least c = elim c.then-q-least.branch [
  | then-q-least-via-then-q-least w ↦ point_low _ _ (rw c.from-q.ensures at w.if-q-least.true)
  | then-q-least-via-else-q-least+then-q-gt-LAST w ↦
      point_high _ _ (rw c.from-q.ensures at w.if-q-least.false) (rw c.from-q.ensures at w.if-q-gt-LAST.true)
]

pub returns : goal.returns
returns c = rw c.from-q.ensures
    (point_there _ _ (rw c.from-q.ensures at c.if-q-least.false) (rw c.from-q.ensures at c.if-q-gt-LAST.false))
