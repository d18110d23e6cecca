-- `commits::SaveStep::turn` meets its contract. Rests on Saving of `endings`.
use mathlib.Core.Path.{sym, ap, ◌∙◌}
use Rattle.std.specs.Prelude.{is_some}
use Rattle.tables.specs.Layout.{access_table}
use Rattle.endings.proofs.Saving.{version_needs, row_saved, row_unsaved}
use Rattle.commits.proofs.SaveStep.turn.Goals as goal

pub read-a-requires : goal.read-a-requires
unfolding access_table
read-a-requires c = c.requires.1

pub add_version-requires : goal.add_version-requires
add_version-requires c =
    version_needs c.args.c
    c.args.w.now
    c.args.i c.read-a.result
    c.args.self.t
    c.requires.0
    c.requires.2 c.read-a.ensures
    c.args.self.later (ap is_some (sym c.written.ensures ∙ c.in-Some.is))

pub returns-in-Some : goal.returns-in-Some
returns-in-Some c =
    row_saved c.args.c c.args.w.now c.args.i
    c.read-a.result c.args.self.t c.requires.0
    c.requires.2 c.read-a.ensures
    (ap is_some (sym c.written.ensures ∙ c.in-Some.is)) _
    (rw (sym c.written.ensures ∙ c.in-Some.is) c.add_version.ensures)

pub returns-in_default : goal.returns-in_default
returns-in_default c =
    row_unsaved c.args.c c.args.w.now
    c.args.i c.read-a.result
    c.args.self.t c.requires.0
    c.requires.2 c.read-a.ensures (ap is_some (sym c.written.ensures ∙ c.in_default.is))
