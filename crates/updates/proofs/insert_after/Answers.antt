-- `updates::insert_after` meets its contract. Rests on Steps (insert-law).
use native.Mathlib.Omega.{arith}
use Rattle.chains.proofs.Steps.{insert_ready, insert_law}
use Rattle.updates.proofs.insert_after.Goals as goal

pub link-head-requires : goal.link-head-requires
link-head-requires c =
    (insert_ready c.requires.0 c.requires.1 c.requires.2
    c.requires.3).1

pub next_after-next-requires : goal.next_after-next-requires
next_after-next-requires c = (
  c.requires.0.laid,
  c.requires.0.a_in,
  omega (
    arith,
    (insert_ready c.requires.0 c.requires.1
        c.requires.2 c.requires.3).2,
  ),
)

pub relink-requires : goal.relink-requires
relink-requires c =
    insert_ready c.requires.0
    c.requires.1
    c.requires.2
    c.requires.3

pub returns : goal.returns
returns c =
    insert_law c.requires.0 c.requires.1 c.requires.2 c.requires.3
    c.link-head.ensures
    c.next_after-next.ensures c.relink.ensures
