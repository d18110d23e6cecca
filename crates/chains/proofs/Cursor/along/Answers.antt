use Rattle.chains.proofs.Walks.{row_of, fuel_of}
use Rattle.chains.proofs.Stepping.{met, halted}
use Rattle.chains.proofs.Cursor.along.Goals as goal

pub returns-then-not-goes_on : goal.returns-then-not-goes_on
returns-then-not-goes_on c = halted _ _ _ c.goes_on.ensures c.if-not-goes_on.true

pub link-self-requires : goal.link-self-requires
link-self-requires c = row_of _ _ _ c.goes_on.ensures c.if-not-goes_on.false

pub overflow_sub-self : goal.overflow_sub-self
overflow_sub-self c = fuel_of _ _ _ c.goes_on.ensures c.if-not-goes_on.false

pub returns : goal.returns
returns c = met _ _ _ c.goes_on.ensures c.if-not-goes_on.false c.link-self.ensures
