-- `endings::free_locks` meets its contract. The loop's invariant is Freeing. Rests on FreeLoop.
use Rattle.tables.specs.Decode.{decode_at}
use Rattle.endings.specs.Steps.{freed_all}
use Rattle.endings.proofs.FreeLoop.{Freeing}
use Rattle.endings.proofs.free_locks.Given as goal

abbrev pub invariant-loop-i : goal.invariant-loop-i
invariant-loop-i l =
    Freeing l.index.slot l.c l.index.numbers.now (freed_all l.index.slot (decode_at l.c l.initial.w)) l.w l.i-end l.i
