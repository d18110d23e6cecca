-- `tables::header_ok` meets its contract. Rests on Header.
use mathlib.Core.Path.{sym, ◌∙◌}
use Rattle.tables.proofs.Header.{header_short, header_bad, header_size, good_ranged}
use Rattle.tables.proofs.header_ok.Goals as goal

pub returns-then-w-lt-HEADER : goal.returns-then-w-lt-HEADER
returns-then-w-lt-HEADER c = sym (header_short _ c.if-w-lt-HEADER.true)

pub size_of-requires : goal.size_of-requires
size_of-requires c = good_ranged _ (sym c.good_counts.ensures ∙ c.if-good_counts.true)

pub returns-then-good_counts : goal.returns-then-good_counts
returns-then-good_counts c =
    rw c.size_of.ensures
    (sym (header_size _ _ c.counts_of-c.ensures (sym c.good_counts.ensures ∙ c.if-good_counts.true)))

pub returns-else-good_counts : goal.returns-else-good_counts
returns-else-good_counts c =
    rw c.if-good_counts.false
    (sym (header_bad _ _ c.counts_of-c.ensures (sym c.good_counts.ensures ∙ c.if-good_counts.false)))
