-- `index::touch` meets its contract. Rests on Noting.
use mathlib.Core.Path.{refl}
use Rattle.index.proofs.Noting.{touch_marked, touch_none}
use Rattle.index.proofs.touch.Goals as goal

pub returns-then-r-lt-MARKS : goal.returns-then-r-lt-MARKS
returns-then-r-lt-MARKS c =
    touch_marked _ _ _ _ _ _ c.slot.ensures refl c.mark.ensures

pub returns-else-r-lt-MARKS : goal.returns-else-r-lt-MARKS
returns-else-r-lt-MARKS c = touch_none _ _ _ _ refl c.if-r-lt-MARKS.false
