-- `chains::placed::Placed::chain_length` meets its contract. The loop's invariant is LengthInv. Rests on Loops.
use Rattle.chains.specs.Table.{link}
use Rattle.chains.proofs.Loops.{LengthInv}
use Rattle.chains.proofs.placed.Placed.chain_length.Given as goal

abbrev pub invariant-loop : goal.invariant-loop
invariant-loop l = LengthInv (link l.self.table l.self.words.now) l.self.table.count l.head l.walk.row l.walk.left

abbrev pub decreases-loop : goal.decreases-loop
decreases-loop l = l.walk.left
