-- A lock row that takes in another. Rests on the crate `types`.
use Rattle.std.specs.Prelude.{min, max, Bool, cond}
use Rattle.types.specs.declared.Lock.{Lock}

-- the row with the points of l and those between too, if l is taken in
abbrev pub widened : Lock → Bool → Lock → Lock
widened row hit l =
    cond hit
    (record {
      low = min row.low l.low;
      high = max row.high l.high;
      mode = row.mode;
      owner = row.owner;
    })
    row
