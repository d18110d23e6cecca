-- `updates::insert_sorted` meets its contract. Rests on Places (sorted-law).
use mathlib.Core.Path.{refl, sym, ◌∙◌}
use Rattle.chains.proofs.Cells.{heads_lie}
use Rattle.chains.proofs.Places.{front_place, sorted_law}
use Rattle.updates.proofs.insert_sorted.Goals as goal

pub head_of-r-requires : goal.head_of-r-requires
head_of-r-requires g c = (heads_lie c.requires.0.laid, c.requires.0.b_in)

pub returns-then-r-eq0 : goal.returns-then-r-eq0
returns-then-r-eq0 g c = record { head = sym c.head_of-r.ensures ∙ c.if-r-eq0.true; same = refl }

pub head_of-head-requires : goal.head_of-head-requires
head_of-head-requires g c = (
  heads_lie c.requires.0.laid,
  c.requires.0.a_in,
)

pub find_place-place-requires : goal.find_place-place-requires
find_place-place-requires g c = c.requires.1

pub insert_after-requires : goal.insert_after-requires
insert_after-requires g c = (
  c.requires.0,
  front_place _ _ _ _ _ c.head_of-head.ensures c.find_place-place.ensures,
  c.head_of-r.ensures,
  c.if-r-eq0.false,
)

pub returns : goal.returns
returns g c =
    sorted_law c.args.o c.args.q g.O.Order.precedes c.requires.0
    c.head_of-r.ensures
    c.if-r-eq0.false
    c.head_of-head.ensures
    c.find_place-place.ensures c.insert_after.ensures
