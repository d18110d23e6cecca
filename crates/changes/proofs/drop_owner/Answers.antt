-- `changes::drop_owner` meets its contract. Rests on Locks and Lists.
use mathlib.Core.Path.{refl, ◌∙◌}
use Rattle.std.proofs.Common.{rules}
use borrow.Author.Tests.{tests}
use Rattle.meaning.specs.Points.{is_owned, drop_owner}
use Rattle.tables.specs.Decode.{lock_at}
use Rattle.changes.proofs.Locks.{lock_ready_back, drop_locks_law, locks_dropped}
use Rattle.changes.proofs.Keeping.{locks_keep}
use Rattle.changes.proofs.Lists.{drop_keep}
use Rattle.changes.proofs.drop_owner.Goals as goal

pub free_rows-requires-clause-ready : goal.free_rows-requires-clause-ready
free_rows-requires-clause-ready c = (c.requires.0.fits, c.requires.1, lock_ready_back c.requires.0 c.requires.1)

pub free_rows-requires-clause-kept : goal.free_rows-requires-clause-kept
free_rows-requires-clause-kept c = locks_keep c.requires.0.fits

pub free_rows-requires-clause-tested : goal.free_rows-requires-clause-tested
free_rows-requires-clause-tested c = (is_owned c.args.k, λ x b q. search (rules, tests))

pub returns : goal.returns
unfolding drop_owner
returns c =
    drop_locks_law c.requires.0 c.requires.1 (λ i. is_owned _ (lock_at _ _ i))
    (c.free_rows.ensures (is_owned c.args.k) (λ x b q. search (rules, tests))).unlinked
    (locks_dropped _ _ _ c.requires.1 (is_owned _) ∙ drop_keep (is_owned _) _ (λ x. refl) _)
