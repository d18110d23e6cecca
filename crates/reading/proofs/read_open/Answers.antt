-- `reading::read_open` meets its contract: an own value, the version read before, or what `read_new` makes. Rests on
-- Reading.
use mathlib.Core.Path.{ap, sym, ◌∙◌}
use Rattle.std.specs.Prelude.{is_some}
use Rattle.std.specs.Option.{unwrap_or}
use Rattle.types.specs.Values.{Value, blank}
use Rattle.lookups.proofs.Found.{access_row_in}
use Rattle.reading.proofs.Reading.{opened_own, opened_again, opened_new}
use Rattle.reading.proofs.read_open.Goals as goal

pub access_row-i-requires : goal.access_row-i-requires
access_row-i-requires c = (c.requires.2, c.requires.4)

pub access_in-a-requires : goal.access_in-a-requires
access_in-a-requires c = access_row_in _ _ c.args.k c.args.r c.access_row-i.ensures

pub returns-in-Some : goal.returns-in-Some
returns-in-Some c =
    rw (← ap (λ (v : Value). unwrap_or v blank) (sym c.written.ensures ∙ c.in-Some.is))
    (opened_own _ _ c.requires.0 _ _ _ _ c.requires.1 _
    (c.access_in-a.ensures c.args.k c.access_row-i.ensures) (ap is_some (sym c.written.ensures ∙ c.in-Some.is)))

pub returns-then-a-gt0 : goal.returns-then-a-gt0
returns-then-a-gt0 c =
    opened_again _ _ c.requires.0 _ _ _ _ c.requires.1 _
    (c.access_in-a.ensures c.args.k c.access_row-i.ensures)
    (ap is_some (sym c.written.ensures ∙ c.in_default.is)) _ _ c.requires.2 c.if-a-gt0.true
    c.version_on-v.ensures c.from.ensures

pub read_new-requires : goal.read_new-requires
read_new-requires c = (
  c.requires.0,
  c.requires.1,
  c.requires.2,
  c.requires.3,
  c.access_row-i.ensures,
)

pub returns : goal.returns
returns c =
    opened_new _ _ c.requires.0 _ _ _ _ c.requires.1 _
    (c.access_in-a.ensures c.args.k c.access_row-i.ensures)
    (ap is_some (sym c.written.ensures ∙ c.in_default.is)) _ _ c.if-a-gt0.false
    c.read_new.ensures
