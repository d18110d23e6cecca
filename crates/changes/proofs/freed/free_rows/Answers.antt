-- Answers for `changes::freed::free_rows`. Rests on Freeing.
use mathlib.Core.Path.{sym, ap, ◌∙◌}
use native.Mathlib.Numerals.{add-one}
use Rattle.std.proofs.Common.{rules}
use Rattle.changes.proofs.Freeing.{freeing_start, freeing_ready, freeing_hit, freeing_miss, freeing_room, freeing_end}
use Rattle.changes.proofs.Freeing.{freeing_fits, freeing_entry}
use Rattle.changes.proofs.freed.free_rows.Goals as goal

pub loop-i-init : goal.loop-i-init
loop-i-init g c =
    λ p d. freeing_start _ (rw (c.table-t.ensures, c.heads-h.ensures) c.requires.ready.2)
    (rw (c.head_of.ensures, add-one) at c.new-walk.ensures)

pub invariant_of-part : goal.invariant_of-part
invariant_of-part g c =
    let q = c.requires.tested in record {
      fits = freeing_fits (c.loop-i.invariant q.0 q.1) c.args.c c.requires.kept c.table-t.ensures c.heads-h.ensures;
    }

pub unlink-requires : goal.unlink-requires
unlink-requires g c =
    let q = c.requires.tested in
    rw add-one (freeing_ready (c.loop-i.invariant q.0 q.1)
    (rw (c.part.ensures.0, c.part.ensures.1, sym c.table-t.ensures) at c.in-Some.ensures))

pub overflow_add-freed : goal.overflow_add-freed
overflow_add-freed g c =
    let q = c.requires.tested in
    let room =
    freeing_room (c.loop-i.invariant q.0 q.1)
    (rw (c.part.ensures.0, c.part.ensures.1, sym c.table-t.ensures) at c.in-Some.ensures) _
    (rw add-one at c.unlink.ensures) in
    search rules

pub loop-i-preserved-then-test : goal.loop-i-preserved-then-test
loop-i-preserved-then-test g c =
    λ p d. let i = c.loop-i.invariant p d in
    let m = rw (c.part.ensures.0, c.part.ensures.1, sym c.table-t.ensures) at c.in-Some.ensures in
    freeing_hit i m
    (ap p
    (sym (freeing_entry i c.args.c c.requires.kept c.table-t.ensures c.heads-h.ensures m) ∙ sym c.read-row.ensures)
    ∙ sym (d _ _ c.test.ensures) ∙ c.if-test.true)
    (rw add-one at c.unlink.ensures)

pub loop-i-preserved : goal.loop-i-preserved
loop-i-preserved g c =
    λ p d. let i = c.loop-i.invariant p d in
    let m = rw (c.part.ensures.0, c.part.ensures.1, sym c.table-t.ensures) at c.in-Some.ensures in
    freeing_miss i m
    (ap p
    (sym (freeing_entry i c.args.c c.requires.kept c.table-t.ensures c.heads-h.ensures m) ∙ sym c.read-row.ensures)
    ∙ sym (d _ _ c.test.ensures) ∙ c.if-test.false)

pub returns : goal.returns
returns g c =
    λ p d. rw (c.table-t.ensures, c.heads-h.ensures) at
    (freeing_end (c.loop-i.invariant p d)
    (rw (c.part.ensures.0, c.part.ensures.1, sym c.table-t.ensures) at c.in_default.ensures))
