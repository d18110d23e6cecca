-- The example of joined rows, by computation. Rests on nothing.
use mathlib.Core.Path.{refl}
use Rattle.meaning.specs.Calls.{opened}
use Rattle.meaning.specs.JoinedRows.{join_calls, join_replies, JoinedRows}

pub joined_rows : JoinedRows
unfolding join_calls join_replies opened
joined_rows = record { replies = refl; rows = refl; shortened = refl; old_replies = refl; old_rows = refl }
