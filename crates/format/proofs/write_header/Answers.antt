-- `format::write_header` meets its contract: eight stores. Rests on nothing.
use mathlib.Core.Path.{refl}
use native.Mathlib.Omega.{arith}
use lib.ListN.{length-set}
use Rattle.format.proofs.write_header.Goals as goal

pub bounds-w-1 : goal.bounds-w-1
bounds-w-1 c = simp length-set (omega arith)

pub bounds-w-2 : goal.bounds-w-2
bounds-w-2 c = simp length-set (omega arith)

pub bounds-w-3 : goal.bounds-w-3
bounds-w-3 c = simp length-set (omega arith)

pub bounds-w-4 : goal.bounds-w-4
bounds-w-4 c = simp length-set (omega arith)

pub bounds-w-5 : goal.bounds-w-5
bounds-w-5 c = simp length-set (omega arith)

pub bounds-w-6 : goal.bounds-w-6
bounds-w-6 c = simp length-set (omega arith)

pub bounds-w-7 : goal.bounds-w-7
bounds-w-7 c = simp length-set (omega arith)

pub shape_of-w : goal.shape_of-w
shape_of-w c = simp length-set

pub returns : goal.returns
returns c = refl
