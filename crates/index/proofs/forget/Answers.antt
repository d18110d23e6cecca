-- `index::forget` meets its contract. Rests on Unknown.
use Rattle.index.proofs.Unknown.{filled}
use Rattle.index.proofs.forget.Goals as goal

pub returns : goal.returns
returns c = λ s. filled _ _ (c.fill.ensures.after (λ y e. e))
