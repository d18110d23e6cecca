-- `updates::move_first` meets its contract: the first row stands after place 0. Rests on Steps (move-law).
use mathlib.Core.Path.{refl, sym, ◌∙◌}
use Rattle.chains.proofs.Cells.{heads_lie}
use Rattle.chains.proofs.Steps.{first_follows, move_law}
use Rattle.updates.proofs.move_first.Goals as goal

pub head_of-r-requires : goal.head_of-r-requires
head_of-r-requires c = (heads_lie c.requires.laid, c.requires.a_in)

pub returns-then-r-eq0 : goal.returns-then-r-eq0
returns-then-r-eq0 c = record { head = sym c.head_of-r.ensures ∙ c.if-r-eq0.true; same = refl }

pub unlink-requires : goal.unlink-requires
unlink-requires c = (
  c.requires,
  first_follows c.requires c.head_of-r.ensures
      c.if-r-eq0.false,
)

pub returns : goal.returns
returns c =
    move_law c.requires
    c.head_of-r.ensures c.if-r-eq0.false
    c.unlink.ensures
