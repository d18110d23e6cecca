-- The session of document 01, computed over one list of lines: the thirteen lines give the thirteen replies, whatever
-- the slice held before. Rests on Calls.
use Rattle.std.specs.Prelude.{ℕ, ◌≡◌, List, [], ◌∷◌, Some, None}
use Rattle.meaning.specs.Store.{Store}
use Rattle.types.specs.Replies.{Reply, ok, edit, locked, read, commit, purged, refusing}
use Rattle.meaning.specs.Calls.{Line, format, call, lines}
use Rattle.types.specs.declared.Handle.{Handle}
use Rattle.types.specs.declared.Point.{Point}
use Rattle.types.specs.declared.Extent.TheVariants.{All, Part}
use Rattle.types.specs.declared.Pick.TheVariants.{Earliest, Latest}
use Rattle.types.specs.declared.Finish.TheVariants.{Settle}
use Rattle.types.specs.declared.Call.TheVariants as C

-- "edit 65": the handle of the first begin in slot 1
abbrev edit_65 : Handle
edit_65 = record { 0 = 65 }

-- "edit 66": the first in slot 2
abbrev edit_66 : Handle
edit_66 = record { 0 = 66 }

-- "edit 129": the second in slot 1
abbrev edit_129 : Handle
edit_129 = record { 0 = 129 }

-- a number of a script line where a point stands
abbrev at_point : ℕ → Point
at_point p = record { 0 = p }

-- "The thirteen session lines, in a fresh run": the input, on the left
unfoldable pub session : List Line
session =
    format (record { records = 2; edits = 2; versions = 4; locks = 8; accesses = 8 })
    ∷ call C.Begin
    ∷ call C.Begin
    ∷ call (C.Read edit_65 0 (at_point 6) All)
    ∷ call (C.Lock edit_66 0 (at_point 4) (at_point 9) Part)
    ∷ call (C.Write edit_66 0 501)
    ∷ call (C.Commit edit_66 Earliest Settle)
    ∷ call (C.Commit edit_65 Latest Settle)
    ∷ call C.Begin
    ∷ call (C.Read edit_129 0 (at_point 9) All)
    ∷ call (C.Lock edit_129 0 (at_point 3) (at_point 3) All)
    ∷ call (C.Purge 0 (at_point 8))
    ∷ call (C.Read edit_65 0 (at_point 6) All)
    ∷ []

-- the output, on the right
unfoldable pub session_replies : List Reply
session_replies =
    ok
    ∷ edit 65
    ∷ edit 66
    ∷ read 0 6 None
    ∷ locked 7 9
    ∷ ok
    ∷ commit 7
    ∷ commit 6
    ∷ edit 129
    ∷ read 7 9 (Some 501)
    ∷ refusing 9 []
    ∷ purged 0 2
    ∷ refusing 2 []
    ∷ []

-- "one computed check over a single list shows them of the definitions"; proofs/Session computes it
abbrev pub SessionRight : Type 0
SessionRight = (s : Store) → lines session s ≡ session_replies
