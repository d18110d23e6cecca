-- `asks::view_step` meets its contract: the row of the reply goes to its place. Rests on Viewing.
use Prim.Native.Nat.{◌/◌}
use native.Mathlib.Omega.{arith}
use mathlib.Core.Path.{◌∙◌}
use lib.ListN.{length}
use Rattle.asks.specs.Views.{ASK_WORDS}
use Rattle.asks.proofs.Viewing.{asked_as, asked_row}
use Rattle.asks.proofs.view_step.Goals as goal

pub returns : goal.returns
returns c =
    let shown = rw (c.from.ensures, c.as_chunks.ensures.front) at c.at-reply.ensures in
    let ask =
    asked_row c.args.chart.words.now c.args.list.now (length c.args.list.now / ASK_WORDS) c.args.i
    (omega (arith, c.requires.0)) in
    rw (c.row_of.ensures, asked_as _ _ _ shown ∙ ask) at c.put_row.ensures
