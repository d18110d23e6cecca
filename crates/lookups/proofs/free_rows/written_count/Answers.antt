use mathlib.Core.Path.{◌∙◌, ap}
use mathlib.Core.Logic.{inl}
use native.Mathlib.Omega.{arith}
use lib.ListN.{length}
use borrow.Author.Tests.{tests}
use Rattle.std.proofs.Common.{rules}
use Rattle.std.proofs.lemmas.Iterator.Consumers.{YieldsList-at, YieldsList-from_first, YieldsList-from_filter}
use Rattle.std.proofs.lemmas.Iterator.Consumers.{count_from_yields_List}
use Rattle.types.specs.declared.Access.{Access}
use Rattle.tables.specs.Views.{edit_in}
use Rattle.tables.specs.Walked.{values_left}
use Rattle.tables.proofs.Chained.{keep_list}
use Rattle.tables.proofs.Decoded.{accesses_few}
use Rattle.lookups.proofs.free_rows.written_count.Goals as goal
use Rattle.meaning.specs.Store.{has_written}

pub count-requires-clause-fits : goal.count-requires-clause-fits
count-requires-clause-fits c = inl (omega (
  arith,
  accesses_few c.args.s.tables.counts c.args.s.tables.words.now c.args.s.number,
  c.args.s.tables.fits.ranged.accesses_high,
  ap (λ s. length (values_left s)) c.filter.ensures.source,
  ap length c.accesses.ensures,
))

pub returns : goal.returns
returns c =
    count_from_yields_List c.filter.result _ c.count.ensures.ran
    (YieldsList-from_filter _ (λ (a : Access). has_written a)
    (YieldsList-at c.filter.ensures.source (YieldsList-from_first (λ a. a) values_left _ c.accesses.ensures))
    c.filter.ensures.closure (λ x b q k. search (rules, tests)))
    ∙ ap length (keep_list (λ (a : Access). has_written a) (edit_in c.args.s).accesses)
