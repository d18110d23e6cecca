-- Answers for `updates::empty_after`: a turn unlinks the row after the place. Rests on Turns of `chains`.
use Rattle.chains.specs.Change.{Emptied}
use Rattle.chains.proofs.Words.{place_in}
use Rattle.chains.proofs.Turns.{every_row, turn_start_at, turn_ready, empty_again, empty_end}
use Rattle.updates.proofs.empty_after.Goals as goal

pub next_after-requires : goal.next_after-requires
next_after-requires c = (
  c.requires.0.laid,
  c.requires.0.a_in,
  place_in c.args.p.of.table c.args.p.of.heads c.args.w.now c.requires.0.parted c.requires.0.a_in c.requires.1.split,
)

pub loop-i-init : goal.loop-i-init
loop-i-init c =
    λ ks ys s. turn_start_at every_row c.requires.0 s (rw c.next_after.ensures at c.new-walk.ensures)

pub unlink-requires : goal.unlink-requires
unlink-requires c =
    let p = c.requires.1 in turn_ready (c.loop-i.invariant p.upto p.beyond p.split) c.in-Some.ensures

pub loop-i-preserved : goal.loop-i-preserved
loop-i-preserved c = λ ks ys s. empty_again (c.loop-i.invariant ks ys s) c.in-Some.ensures c.unlink.ensures

pub returns : goal.returns
unfolding Emptied
returns c = λ ks ys s. empty_end (c.loop-i.invariant ks ys s) c.in_default.ensures
