-- `format::link_rows` meets its contract. Rests on Laying.
use Rattle.format.proofs.Laying.{Linking}
use Rattle.format.proofs.link_rows.Given as goal

abbrev pub invariant-loop-i : goal.invariant-loop-i
invariant-loop-i l = Linking l.t l.initial.w l.i l.w
