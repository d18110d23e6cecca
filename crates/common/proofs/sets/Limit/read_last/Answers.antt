-- Nothing was read, or what was read ends before the first free point. Rests on Reach and Common.
use mathlib.Core.Path.{◌∙◌}
use Rattle.common.specs.Commit.{own_locks}
use Rattle.common.proofs.Common.{own_free}
use Rattle.common.proofs.Reach.{read_end_none, read_up}
use Rattle.common.proofs.sets.Limit.read_last.Goals as goal

pub returns-then-self-eq0 : goal.returns-then-self-eq0
returns-then-self-eq0 c = read_end_none (own_locks c.args.self) c.args.self.access c.if-self-eq0.true

pub overflow_sub-result : goal.overflow_sub-result
overflow_sub-result c =
    (read_up (own_locks c.args.self) c.args.self.access c.if-self-eq0.false c.requires c.unwrap_or.ensures
    (c.first_free.ensures ∙ own_free c.args.self c.named.result c.owner.ensures c.named.ensures)).0

pub returns : goal.returns
returns c =
    (read_up (own_locks c.args.self) c.args.self.access c.if-self-eq0.false c.requires c.unwrap_or.ensures
    (c.first_free.ensures ∙ own_free c.args.self c.named.result c.owner.ensures c.named.ensures)).1
