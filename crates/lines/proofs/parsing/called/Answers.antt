-- `lines::called` meets its contract: a purge and a view are what is made of a record and a point. Assumes nothing.
use Rattle.types.specs.declared.Call.TheVariants.{Purge, View}
use Rattle.lines.specs.Calls.{recording, purging, viewing, called}
use Rattle.lines.proofs.parsing.called.Goals as goal

pub returns-in-80 : goal.returns-in-80
unfolding recording purging called
returns-in-80 c = rw c.in-80.is (c.of_record_and_point.ensures Purge (λ r p q e. e.1))

pub returns-in-86 : goal.returns-in-86
unfolding recording viewing called
returns-in-86 c = rw c.in-86.is (c.of_record_and_point-in-86.ensures View (λ r p q e. e.1))
