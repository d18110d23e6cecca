-- The row is one of the record's. Rests on Marks of `clauses`.
use mathlib.Core.Path.{ap}
use Rattle.tables.specs.Layout.{lock_table}
use Rattle.clauses.proofs.Marks.{lock_row}
use Rattle.record_clauses.proofs.Marked.row_backs.Goals as goal

pub read-l-requires : goal.read-l-requires
unfolding lock_table
read-l-requires c =
    let r = c.args.self.record in lock_row r.tables.counts r.tables.words.now r.number c.args.i c.requires

pub owner_wrote-requires : goal.owner_wrote-requires
owner_wrote-requires c = (c.requires, ap (λ l. l.owner) c.read-l.ensures)
