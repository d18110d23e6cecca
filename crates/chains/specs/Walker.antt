-- What the iterators along a chain have still to give: row numbers, and row numbers with a word of the row. Rests on
-- Cursor.
use Rattle.std.specs.Prelude.{ℕ, List, map}
use Rattle.chains.specs.declared.walk.Walk.{Walk}
use Rattle.chains.specs.declared.walk.Fields.{Fields}
use Rattle.chains.specs.declared.Table.{Table}
use Rattle.chains.specs.Table.{field}
use Rattle.chains.specs.Cursor.{ahead}

unfoldable pub rows_left : Walk → List ℕ
rows_left s = ahead s.of.table s.of.words.now s.cursor

-- rows with their word o
unfoldable pub with_word : Table → List ℕ → ℕ → List ℕ → List (ℕ × ℕ)
with_word t w o rs = map (λ i. (i, field t w i o)) rs

unfoldable pub fields_left : Fields → List (ℕ × ℕ)
fields_left s = with_word s.of.table s.of.words.now s.off (ahead s.of.table s.of.words.now s.cursor)
