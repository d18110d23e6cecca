-- `encoding::call_at` meets its contract: the call of the row. Rests on Decoding.
use native.Mathlib.Omega.{arith}
use mathlib.Core.Path.{◌∙◌}
use Rattle.encoding.proofs.Decoding.{row_at}
use Rattle.encoding.proofs.call_at.Goals as goal

pub returns : goal.returns
returns c =
    rw c.as_chunks.ensures.front at c.call_of.ensures
    ∙ row_at _ _ _ (omega (arith, c.as_chunks.ensures.front_len, c.requires))
