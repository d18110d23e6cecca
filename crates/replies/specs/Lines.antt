-- The line of each reply of document 01: its kind and its values, with a case of its own for refusal 8. Rests on
-- Replies of `types` and the type Line.
use Rattle.std.specs.Prelude.{[], ◌∷◌}
use Rattle.types.specs.Replies as R
use Rattle.replies.specs.declared.Line.{Line}
use Rattle.replies.specs.declared.Line.TheVariants as L

-- the line of a reply; no line of a script calls Point
abbrev pub line_of : R.Reply → Line
line_of R.ok = L.Ok
line_of (R.edit h) = L.Edit h
line_of (R.locked low high) = L.Locked low high
line_of (R.read tr end v) = L.Read tr end v
line_of (R.own v) = L.Own v
line_of (R.again tr v) = L.Again tr v
line_of (R.commit p) = L.Commit p
line_of R.nopoint = L.NoPoint
line_of (R.purged vs ls) = L.Purged vs ls
line_of (R.at p v) = L.At p v
line_of (R.point p) = L.Malformed
line_of (R.refusing n []) = L.No n
line_of (R.refusing n (h ∷ more)) = L.Held h
