-- Answers for `updates::unlink_if`: a row's word o is no link word, so the turns leave it as it was. Rests on Turns of
-- `chains`.
use mathlib.Core.Path.{sym, ◌∙◌}
use borrow.Author.Tests.{eq-eqb, ne_eqb}
use Rattle.chains.specs.Table.{holds}
use Rattle.chains.proofs.Turns.{turn_start, turn_field, turn_ready, turn_hit, turn_miss, turn_end}
use Rattle.updates.proofs.unlink_if.Goals as goal

pub loop-r-init : goal.loop-r-init
loop-r-init c = turn_start _ c.requires.0 (rw c.head_of.ensures at c.new-walk.ensures)

pub unlink-requires : goal.unlink-requires
unlink-requires c = turn_ready c.loop-r.invariant c.in-Some.ensures

pub loop-r-preserved-then-x-v : goal.loop-r-preserved-then-x-v
unfolding holds
loop-r-preserved-then-x-v c =
    let i = c.loop-r.invariant in
    let m = c.in-Some.ensures in
    let r = c.requires in
    turn_hit i m
    (eq-eqb _ _ (sym (turn_field i m c.args.o r.1 r.2 r.0) ∙ sym c.word-x.ensures ∙ c.if-x-v.true))
    c.unlink.ensures

pub loop-r-preserved : goal.loop-r-preserved
unfolding holds
loop-r-preserved c =
    let i = c.loop-r.invariant in
    let m = c.in-Some.ensures in
    let r = c.requires in
    turn_miss i m (ne_eqb _ _ (λ e. c.if-x-v.false (c.word-x.ensures ∙ turn_field i m c.args.o r.1 r.2 r.0 ∙ e)))

pub returns : goal.returns
returns c = turn_end c.loop-r.invariant c.in_default.ensures
