-- `slots::empty_accesses` meets its contract. Rests on Accesses, on Places of `chains`.
use Rattle.chains.proofs.Places.{start_place}
use Rattle.slots.proofs.Accesses.{access_ready_back, emptied_changed, empty_accesses_law}
use Rattle.slots.proofs.empty_accesses.Goals as goal

pub empty_after-requires : goal.empty_after-requires
empty_after-requires c =
    rw (c.table.ensures, c.heads.ensures) (
      access_ready_back c.requires.0 c.requires.1,
      start_place _ _ _ _,
    )

pub returns : goal.returns
returns c =
    empty_accesses_law c.requires.0
    c.requires.1
    (emptied_changed c.requires.0
    c.requires.1 _
    (rw (c.table.ensures, c.heads.ensures) at
    c.empty_after.ensures))
