-- The row is one of the record's, so that it has a mark, which tells of its owner. Rests on Backing and Marks of
-- `clauses`.
use mathlib.Core.Path.{sym, ◌∙◌}
use mathlib.Core.Bool.{true, false}
use native.Mathlib.Omega.{arith}
use lib.ListN.{get_or}
use Rattle.clauses.proofs.Backing.{wrote_is}
use Rattle.clauses.proofs.Marks.{lock_row}
use Rattle.record_clauses.proofs.Marked.owner_wrote.Goals as goal

pub bounds-self-i : goal.bounds-self-i
bounds-self-i c =
    let r = c.args.self.record in
    let row = lock_row r.tables.counts r.tables.words.now r.number c.args.i c.requires.0 in
    omega (arith, row.high, r.tables.fits.ranged.locks_high)

pub returns-then-committed_at : goal.returns-then-committed_at
returns-then-committed_at c =
    let r = c.args.self.record in
    wrote_is r.tables.counts r.tables.words.now c.args.k r.number c.args.p {b = true}
    (sym c.if-committed_at.true ∙ c.committed_at.ensures)
    (λ row. rw c.requires.1 (c.args.self.wrote.wrote c.args.i c.requires.0 (rw c.requires.1 at row)))

pub returns-else-committed_at : goal.returns-else-committed_at
returns-else-committed_at c =
    let r = c.args.self.record in
    c.if-committed_at.false
    ∙ wrote_is r.tables.counts r.tables.words.now c.args.k r.number c.args.p {b = false}
    {m = get_or c.args.self.marks.now.rows c.args.i false}
    (sym c.if-committed_at.false ∙ c.committed_at.ensures)
    (λ row. rw c.requires.1 (c.args.self.wrote.wrote c.args.i c.requires.0 (rw c.requires.1 at row)))
