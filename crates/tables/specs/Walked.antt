-- What an iterator over rows has still to give, by value. Rests on the chains of `chains`.
use Rattle.std.specs.Prelude.{List, map}
use Rattle.chains.specs.Cursor.{ahead}
use Rattle.tables.specs.declared.parts.Part
use Rattle.tables.specs.declared.rows.Row
use Rattle.tables.specs.declared.rows.Rows.{Rows}

unfoldable pub values_left : {R : Type 0} {row : Row.Ghosts R} {part : Part.Ghosts R} → Rows R row part → List R
values_left {R} {row} {part} s =
    map (row.at s.tables.counts s.tables.words.now) (ahead (part.table s.tables.counts) s.tables.words.now s.cursor)
