-- `record_clauses::committed_at` meets its contract. Rests on Backing of `clauses`.
use mathlib.Core.Path.{◌≡◌, refl, ◌∙◌}
use mathlib.Core.Bool.{◌&&◌}
use lib.Dec.{eqb}
use Rattle.std.specs.Prelude.{Option, None, Some}
use Rattle.std.proofs.Common.{rules}
use Rattle.std.proofs.lemmas.Option.{MatchOption-at_none, MatchOption-at_some}
use Rattle.types.specs.Limits.{COMMITTED}
use Rattle.tables.specs.declared.views.Slot.{Slot}
use Rattle.tables.specs.Views.{edit_in}
use Rattle.clauses.specs.Views.{edits_in, committed_at}
use Rattle.clauses.proofs.Backing.{uncommitted_none, committed_some}
use Rattle.record_clauses.proofs.committed_at.Goals as goal

pub returns : goal.returns
returns c = go c.slot_of.result refl
  where
    go : (o : Option Slot) → c.slot_of.result ≡ o
        → c.is_some_and.result ≡ committed_at (edits_in c.args.t) c.args.k c.args.p
    go None e =
        MatchOption-at_none _ _ e c.is_some_and.ensures
        ∙ uncommitted_none c.args.t c.args.k c.args.p (rw e at c.slot_of.ensures)
    go (Some s) e =
        let h = MatchOption-at_some _ _ s e c.is_some_and.ensures in
        let b : c.is_some_and.result ≡ (eqb (edit_in s).state COMMITTED && eqb (edit_in s).point c.args.p) =
        search rules in
        b ∙ committed_some c.args.t c.args.k s (rw e at c.slot_of.ensures) c.args.p refl refl
