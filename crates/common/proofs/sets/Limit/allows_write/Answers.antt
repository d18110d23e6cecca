-- The locks are those of the slot on the record that the access names. Rests on Common.
use mathlib.Core.Path.{sym, ap, ◌∙◌}
use mathlib.Core.Bool.{not}
use Rattle.std.specs.Prelude.{is_some}
use Rattle.meaning.specs.Store.{has_written}
use Rattle.meaning.specs.Points.{covered, writes}
use Rattle.common.proofs.Common.{when, own_in}
use Rattle.common.proofs.sets.Limit.allows_write.Goals as goal

pub returns-else-is_none : goal.returns-else-is_none
returns-else-is_none c =
    when (has_written c.args.self.access)
    (sym (ap is_some c.written.ensures) ∙ c.is_none.ensures ∙ ap not c.if-is_none.false)
    (c.write_on.ensures
    ∙ ap (λ ls. covered (writes ls) c.args.p) (own_in c.args.self c.named.result c.owner.ensures c.named.ensures))
