-- `lookups::edits::known` meets its contract. Rests on Slots.
use borrow.Author.Tests.{tests}
use Rattle.std.proofs.Common.{rules}
use Rattle.lookups.proofs.Slots.{known_of}
use Rattle.lookups.proofs.edits.known.Goals as goal

pub returns : goal.returns
returns c = known_of c.args.t c.args.h.0 c.slot_of.result c.slot_of.ensures c.is_some_and.ensures
    (λ s k. search (rules, tests))
