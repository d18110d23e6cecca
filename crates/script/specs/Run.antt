-- What the script program has between two bytes of input: the words in use, and the bytes that wait to be written.
-- Rests on Shown of the crate `replies`.
use Rattle.std.specs.Prelude.{ℕ, ◌-◌, List, [], ◌∷◌, ◌++◌, cond, length, leb}
use Rattle.replies.specs.declared.Line.{Line}
use Rattle.replies.specs.Shown.{shown}

-- "It lays out at most 8,000 words"
abbrev pub WORDS : ℕ
WORDS = 8000

-- the bytes that are collected before they are written, and those of a line with its newline
abbrev pub BUFFER : ℕ
BUFFER = 65536

abbrev pub WHOLE : ℕ
WHOLE = 81

abbrev pub NEWLINE : ℕ
NEWLINE = 10

-- the bytes that wait, or none where they might leave no room for a line
abbrev pub with_room : List ℕ → List ℕ
with_room ready = cond (leb (length ready) (BUFFER - WHOLE)) ready []

-- a line is collected after the bytes that wait, once there is room for it
abbrev pub collected : List ℕ → Line → List ℕ
collected ready l = with_room ready ++ (shown l ++ NEWLINE ∷ [])
