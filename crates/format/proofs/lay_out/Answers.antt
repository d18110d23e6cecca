-- `format::lay_out` meets its contract: its steps are those of `formatted_words`. Rests on Laying.
use mathlib.Core.Path.{◌∙◌}
use native.Mathlib.Omega.{arith}
use Rattle.tables.proofs.Header.{size_least}
use Rattle.format.specs.Format.{formatted_words}
use Rattle.format.proofs.Laying.{blank_words_lem, versions_lie_lem, locks_lie_lem, accesses_lie}
use Rattle.format.proofs.lay_out.Goals as goal

pub write_header-requires : goal.write_header-requires
write_header-requires c =
    omega (
      arith,
      size_least c.args.c,
      c.requires.1,
      c.fill.ensures.len,
    )

pub link_rows-requires : goal.link_rows-requires
link_rows-requires c =
    rw c.table.ensures
    (versions_lie_lem _ _ (c.write_header.auto.w
    ∙ c.fill.ensures.len ∙ c.requires.1))

pub link_rows-requires-2 : goal.link_rows-requires-2
link_rows-requires-2 c =
    rw c.table-2.ensures
    (locks_lie_lem _ _ (c.link_rows.auto.w ∙ c.write_header.auto.w
    ∙ c.fill.ensures.len ∙ c.requires.1))

pub link_rows-requires-3 : goal.link_rows-requires-3
link_rows-requires-3 c =
    rw c.table-3.ensures
    (accesses_lie _ _ (c.link_rows-2.auto.w
    ∙ c.link_rows.auto.w
    ∙ c.write_header.auto.w
    ∙ c.fill.ensures.len ∙ c.requires.1))

pub returns : goal.returns
unfolding formatted_words
returns c =
    rw (
      c.link_rows-3.ensures,
      c.table-3.ensures,
      c.link_rows-2.ensures,
      c.table-2.ensures,
      c.link_rows.ensures,
      c.table.ensures,
      c.write_header.ensures,
      c.fill.ensures.after (λ y e. e),
      blank_words_lem c.args.c _ c.requires.1,
    )
