-- `record_clauses::slot_used` meets its contract. Rests on Backing of `clauses`.
use mathlib.Core.Path.{◌≡◌, refl, ◌∙◌}
use mathlib.Core.Bool.{not}
use lib.Dec.{eqb}
use Rattle.std.specs.Prelude.{Option, None, Some}
use Rattle.std.proofs.Common.{rules}
use Rattle.std.proofs.lemmas.Option.{MatchOption-at_none, MatchOption-at_some}
use Rattle.types.specs.Limits.{FREE}
use Rattle.meaning.specs.Store.{in_use}
use Rattle.tables.specs.declared.views.Slot.{Slot}
use Rattle.tables.specs.Views.{edit_in}
use Rattle.clauses.specs.Views.{edits_in}
use Rattle.clauses.proofs.Backing.{unused_none, used_some}
use Rattle.record_clauses.proofs.slot_used.Goals as goal

pub returns : goal.returns
returns c = go c.slot_of.result refl
  where
    go : (o : Option Slot) → c.slot_of.result ≡ o → c.is_some_and.result ≡ in_use (edits_in c.args.t) c.args.k
    go None e =
        MatchOption-at_none _ _ e c.is_some_and.ensures ∙ unused_none c.args.t c.args.k (rw e at c.slot_of.ensures)
    go (Some s) e =
        let h = MatchOption-at_some _ _ s e c.is_some_and.ensures in
        let b : c.is_some_and.result ≡ not (eqb (edit_in s).state FREE) = search rules in
        b ∙ used_some c.args.t c.args.k s (rw e at c.slot_of.ensures) refl
