-- `format_room::words_for` meets its contract: the tests are those of `words_for`.
-- Assumes nothing.
use mathlib.Core.Path.{sym, ap, ◌∙◌}
use lib.Dec.{leb}
use borrow.Author.Tests.{le-leb, lt-leb}
use Rattle.tables.proofs.Header.{good_ranged}
use Rattle.format_room.specs.Room.{room_for, words_for}
use native.Mathlib.Omega.{arith}
use Rattle.format_room.proofs.words_for.Goals as goal

pub returns-then-not-good_counts : goal.returns-then-not-good_counts
unfolding words_for room_for
returns-then-not-good_counts c = rw (sym c.good_counts.ensures ∙ c.if-not-good_counts.true)

pub size_of-n-requires : goal.size_of-n-requires
size_of-n-requires c = good_ranged _ (sym c.good_counts.ensures ∙ c.if-not-good_counts.false)

pub returns-then-n-room : goal.returns-then-n-room
unfolding words_for room_for
returns-then-n-room c =
    rw (sym c.good_counts.ensures ∙ c.if-not-good_counts.false)
    (rw (ap (λ x. leb x c.args.room) (sym c.size_of-n.ensures)
    ∙ le-leb c.size_of-n.result c.args.room
    (omega (arith, c.if-n-room.true)))
    c.size_of-n.ensures)

pub returns-else-n-room : goal.returns-else-n-room
unfolding words_for room_for
returns-else-n-room c =
    rw (sym c.good_counts.ensures ∙ c.if-not-good_counts.false)
    (rw (ap (λ x. leb x c.args.room) (sym c.size_of-n.ensures)
    ∙ lt-leb c.size_of-n.result c.args.room
    (omega (arith, c.if-n-room.false))))
