-- The room that a Format of a script has: "It lays out at most 8,000 words (more: `no 16`)". Rests on good_counts of
-- `meaning` and Layout of `tables`.
use Rattle.std.specs.Prelude.{ℕ, Bool, cond, ◌&&◌, leb}
use Rattle.meaning.specs.Records.{good_counts}
use Rattle.types.specs.declared.Counts.{Counts}
use Rattle.tables.specs.Layout.{size_of}

-- the counts are in range, and there is room for the words that they ask for
unfoldable pub room_for : ℕ → Counts → Bool
room_for room c = good_counts c && leb (size_of c) room

-- how many words Format is lent
unfoldable pub words_for : ℕ → Counts → ℕ
words_for room c = cond (room_for room c) (size_of c) 0
