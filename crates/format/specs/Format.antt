-- What Format leaves: every word of a formatted slice, when Format is refused, and the two laws about it. Rests on
-- Words of the crate `tables`.
use Rattle.std.specs.Prelude.{ℕ, zero, suc, ◌-◌, ◌≡◌, Bool, true, false, cond, ◌&&◌, List, [], ◌++◌, length, set}
use Rattle.std.specs.Prelude.{replicate, ltb, eqb}
use Rattle.chains.specs.declared.Table.{Table}
use Rattle.chains.specs.Table.{link_cell}
use Rattle.meaning.specs.Records.{good_counts}
use Rattle.types.specs.Replies.{Reply, ok, refusing}
use Rattle.meaning.specs.Store.{fresh}
use Rattle.types.specs.declared.Counts.{Counts}
use Rattle.tables.specs.Layout.{HEADER, H_RECORDS, H_EDITS, H_VERSIONS, H_LOCKS, H_ACCESSES, FREE_VERSION, FREE_LOCK}
use Rattle.tables.specs.Layout.{FREE_ACCESS, size_of, version_table, lock_table, access_table}
use Rattle.tables.specs.Words.{lent, decode, sound_words}

-- "Format writes the counts, free chains in rising order, and zero elsewhere": the header, with row 1 first on each
-- free chain
abbrev pub free_first : List ℕ → List ℕ
free_first w = set (set (set w FREE_VERSION 1) FREE_LOCK 1) FREE_ACCESS 1

abbrev pub with_counts : Counts → List ℕ → List ℕ
with_counts c w =
    set (set (set (set (set w H_RECORDS c.records) H_EDITS c.edits) H_VERSIONS c.versions) H_LOCKS c.locks)
    H_ACCESSES c.accesses

abbrev pub header_words : Counts → List ℕ
header_words c = free_first (with_counts c (replicate HEADER 0))

unfoldable pub blank_words : Counts → List ℕ
blank_words c = header_words c ++ replicate (size_of c - HEADER) 0

-- the row after row i on a free chain of n rows
unfoldable pub next_free : ℕ → ℕ → ℕ
next_free n i = cond (ltb i n) (suc i) 0

-- w with the links of the first m rows of a table set so
unfoldable pub linked_to : Table → ℕ → List ℕ → List ℕ
linked_to t zero w = w
linked_to t (suc m) w = set (linked_to t m w) (link_cell t (suc m)) (next_free t.count (suc m))

unfoldable pub linked : Table → List ℕ → List ℕ
linked t w = linked_to t t.count w

unfoldable pub formatted_words : Counts → List ℕ
formatted_words c = linked (access_table c) (linked (lock_table c) (linked (version_table c) (blank_words c)))

-- 16: "count out of range, or slice length not the sum"
unfoldable pub format_fits : Counts → ℕ → Bool
format_fits c n = good_counts c && eqb n (size_of c)

-- what Format does with a slice, whatever it held
pub record Formats (c : Counts) (before after : List ℕ) (r : Reply) : Type 0 where
  pub refused : format_fits c (length before) ≡ false → (r ≡ refusing 16 []) × (after ≡ before)
  pub done : format_fits c (length before) ≡ true → (r ≡ ok) × (after ≡ formatted_words c)

-- formatted words are sound and mean the fresh store
abbrev pub FormattedIsSound : Type 0
FormattedIsSound = (c : Counts) → good_counts c ≡ true → sound_words (lent (formatted_words c)) ≡ true

abbrev pub FormattedIsFresh : Type 0
FormattedIsFresh = (c : Counts) → good_counts c ≡ true → decode (lent (formatted_words c)) ≡ fresh c
