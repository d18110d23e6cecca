-- `changes::drop_touching` meets its contract. Rests on Joins.
use mathlib.Core.Path.{sym, ◌∙◌}
use native.Mathlib.Numerals.{add-one}
use native.Mathlib.Omega.{arith}
use Rattle.tables.specs.Layout.{lock_heads}
use Rattle.changes.proofs.Joins.{joins_start, joins_fits, joins_ready, joins_hit, joins_miss, joins_end}
use Rattle.changes.proofs.drop_touching.Goals as goal

pub first-requires : goal.first-requires
unfolding lock_heads
first-requires c = omega arith

pub loop-i-init : goal.loop-i-init
loop-i-init c =
    joins_start _ _ c.requires.0 c.requires.1
    (rw (c.table-t.ensures, c.first.ensures, add-one) at c.new-walk.ensures)

pub invariant_of-part : goal.invariant_of-part
invariant_of-part c = record { fits = joins_fits c.requires.0 c.loop-i.invariant }

pub unlink-requires : goal.unlink-requires
unlink-requires c =
    rw (c.table-t.ensures, c.heads-h.ensures, add-one) (joins_ready c.requires.0 c.loop-i.invariant
    (rw (c.part.ensures.0, c.part.ensures.1) at c.in-Some.ensures))

pub loop-i-preserved-then-touches : goal.loop-i-preserved-then-touches
loop-i-preserved-then-touches c =
    joins_hit c.requires.0 c.loop-i.invariant (rw (c.part.ensures.0, c.part.ensures.1) at c.in-Some.ensures)
    c.read-l.ensures c.taken_in-row.ensures (sym c.touches.ensures ∙ c.if-touches.true)
    (rw (c.table-t.ensures, c.heads-h.ensures, add-one) at c.unlink.ensures)

pub loop-i-preserved : goal.loop-i-preserved
loop-i-preserved c =
    joins_miss c.requires.0 c.loop-i.invariant (rw (c.part.ensures.0, c.part.ensures.1) at c.in-Some.ensures)
    c.read-l.ensures c.taken_in-row.ensures (sym c.touches.ensures ∙ c.if-touches.false)

pub returns : goal.returns
returns c =
    joins_end c.requires.0 c.loop-i.invariant c.requires.1
    (rw (c.part.ensures.0, c.part.ensures.1) at c.in_default.ensures)
