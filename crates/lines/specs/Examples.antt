-- Computed examples: the session of document 01 from its texts and back to them, and lines at the edges of the form.
-- proofs/Examples computes each claim. Rests on Calls, on Shown of the crate `replies` and meaning's session.
use Rattle.std.specs.Prelude.{ℕ, ◌≡◌, List, [], ◌∷◌, map, replicate, Some}
use Rattle.meaning.specs.Session.{session, session_replies}
use Rattle.meaning.specs.Calls as M
use Rattle.types.specs.declared.Call.TheVariants as C
use Rattle.texts.specs.Text.{text}
use Rattle.fields.specs.Kinds.{handle}
use Rattle.lines.specs.Calls.{parsed}
use Rattle.replies.specs.Shown.{shown}
use Rattle.replies.specs.Lines.{line_of}
use Rattle.fields.specs.Fields.{Parsed, Malformed}
use Rattle.fields.specs.declared.Command.TheVariants as P

abbrev pub of_line : M.Line → Parsed
of_line (M.format c) = Some (P.Format c)
of_line (M.call c) = Some (P.Call c)

-- the lines on the left of the session, and those on the right
unfoldable pub input : List (List ℕ)
input =
    text "F 2 2 4 8 8"
    ∷ text "B"
    ∷ text "B"
    ∷ text "R 65 0 6 A"
    ∷ text "L 66 0 4 9 P"
    ∷ text "W 66 0 501"
    ∷ text "C 66 E S"
    ∷ text "C 65 L S"
    ∷ text "B"
    ∷ text "R 129 0 9 A"
    ∷ text "L 129 0 3 3 A"
    ∷ text "P 0 8"
    ∷ text "R 65 0 6 A"
    ∷ []

unfoldable pub output : List (List ℕ)
output =
    text "ok"
    ∷ text "edit 65"
    ∷ text "edit 66"
    ∷ text "read 0 6 -"
    ∷ text "locked 7 9"
    ∷ text "ok"
    ∷ text "commit 7"
    ∷ text "commit 6"
    ∷ text "edit 129"
    ∷ text "read 7 9 501"
    ∷ text "no 9"
    ∷ text "purged 0 2"
    ∷ text "no 2"
    ∷ []

abbrev pub SessionRead : Type 0
SessionRead = map parsed input ≡ map of_line session

abbrev pub SessionShown : Type 0
SessionShown = map (λ r. shown (line_of r)) session_replies ≡ output

-- leading zeros, and the largest number
abbrev pub Accepted : Type 0
Accepted =
    map parsed (text "W 065 00 7" ∷ text "W 65 0 18446744073709551615" ∷ text "W 65 0 00000000000000000000000001"
    ∷ text "C 65 12 K" ∷ [])
    ≡ Some (P.Call (C.Write (handle 65) 0 7))
    ∷ Some (P.Call (C.Write (handle 65) 0 18446744073709551615))
    ∷ Some (P.Call (C.Write (handle 65) 0 1))
    ∷ parsed (text "C 65 0012 K")
    ∷ []

unfoldable pub wrong : List (List ℕ)
wrong =
    text ""
    ∷ text " B"
    ∷ text "B "
    ∷ text "b"
    ∷ text "B\r"
    ∷ text "W 65 0 18446744073709551616"
    ∷ text "W 65 0 99999999999999999999"
    ∷ text "W 65 0 +1"
    ∷ text "W 65 0 -1"
    ∷ text "W 65 0 1_0"
    ∷ text "W 65 0 0x1"
    ∷ text "W 65  0 1"
    ∷ text "W 65 0 "
    ∷ text "W 65 0"
    ∷ text "W 65 0 1 1"
    ∷ text "W\t65 0 1"
    ∷ text "L 65 0 1 2 a"
    ∷ text "C 65 EE S"
    ∷ text "F 2 2 4 8"
    ∷ text "X 1"
    ∷ []

abbrev pub WrongRefused : Type 0
WrongRefused = map parsed wrong ≡ replicate 20 Malformed
