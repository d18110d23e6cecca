-- `index::wipe_listed` meets its contract. Rests on Says.
use Rattle.index.specs.Entries.{Wiped}
use Rattle.index.proofs.wipe_listed.Given as goal

abbrev pub invariant-loop-i : goal.invariant-loop-i
invariant-loop-i l = Wiped l.initial.ix l.ix l.k l.i
