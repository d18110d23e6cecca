-- Answers for `trims::trim_locks`. Rests on Trims, and on Cells of `chains`.
use native.Mathlib.Numerals.{add-one}
use native.Mathlib.Omega.{arith}
use borrow.Author.Tests.{tests}
use Rattle.std.proofs.Common.{rules}
use Rattle.chains.proofs.Cells.{heads_lie}
use Rattle.tables.specs.Layout.{lock_heads}
use Rattle.tables.proofs.Places.{locks_laid}
use Rattle.trims.proofs.Trims.{trims_start, trims_fits, trims_ready}
use Rattle.trims.proofs.Trims.{trims_hit, trims_miss, trim_locks_law}
use Rattle.trims.proofs.trim_locks.Goals as goal

pub head_of-requires : goal.head_of-requires
unfolding lock_heads
head_of-requires c = rw c.heads-h.ensures (heads_lie (locks_laid c.requires.0.fits), omega arith)

pub loop-i-init : goal.loop-i-init
loop-i-init c =
    trims_start _ c.requires.0 c.requires.1
    (rw (c.table-t.ensures, c.head_of.ensures, c.heads-h.ensures, add-one) at c.new-walk.ensures)

pub invariant_of-part : goal.invariant_of-part
invariant_of-part c = record { fits = trims_fits c.loop-i.invariant }

pub unlink-requires : goal.unlink-requires
unlink-requires c =
    rw (c.table-t.ensures, c.heads-h.ensures, add-one)
    (trims_ready c.loop-i.invariant (rw (c.part.ensures.0, c.part.ensures.1) at c.in-Some.ensures)
    (rw (c.raised_low.ensures, c.read-l.ensures) at c.set_word.ensures))

pub loop-i-preserved-then-l-v : goal.loop-i-preserved-then-l-v
loop-i-preserved-then-l-v c =
    trims_hit c.loop-i.invariant (rw (c.part.ensures.0, c.part.ensures.1) at c.in-Some.ensures)
    (rw (c.raised_low.ensures, c.read-l.ensures) at c.set_word.ensures)
    c.read-l.ensures (search (rules, tests))
    (rw (c.table-t.ensures, c.heads-h.ensures, add-one) at c.unlink.ensures)

pub loop-i-preserved : goal.loop-i-preserved
loop-i-preserved c =
    trims_miss c.loop-i.invariant (rw (c.part.ensures.0, c.part.ensures.1) at c.in-Some.ensures)
    (rw (c.raised_low.ensures, c.read-l.ensures) at c.set_word.ensures)
    c.read-l.ensures (search (rules, tests))

pub returns : goal.returns
returns c = trim_locks_law c.loop-i.invariant (rw (c.part.ensures.0, c.part.ensures.1) at c.in_default.ensures)
