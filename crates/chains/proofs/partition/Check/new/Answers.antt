-- `chains::partition::Check::new` meets its contract. Rests on Parts.
use mathlib.Core.Path.{refl, ap, ◌∙◌}
use Rattle.chains.specs.Cursor.{start}
use Rattle.chains.proofs.Parts.{clear_new}
use Rattle.chains.proofs.partition.Check.new.Goals as goal

pub returns : goal.returns
returns c = record {
  table = refl;
  words = refl;
  walk = c.new.ensures ∙ ap (start c.args.c.table) c.head_of.ensures;
  clear = clear_new _ refl;
}
