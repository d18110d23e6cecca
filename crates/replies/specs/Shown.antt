-- The line that a reply prints, without its newline. "Replies: `ok`; `edit` handle; `locked` low high; `read` tr end
-- value; `own` value; `again` tr value; `commit` point; `nopoint`; `purged` versions locks; `at` point value; `no`
-- number (8: then the handle)." Rests on the crate `texts` and the type Line.
use Rattle.std.specs.Prelude.{ℕ, List}
use Rattle.texts.specs.Text.{text}
use Rattle.texts.specs.Parts.{one, two, one_value, two_value}
use Rattle.replies.specs.declared.Line.{Line}
use Rattle.replies.specs.declared.Line.TheVariants as L

abbrev pub shown : Line → List ℕ
shown L.Ok = text "ok"
shown (L.Edit h) = one (text "edit ") h
shown (L.Locked low high) = two (text "locked ") low high
shown (L.Read tr end v) = two_value (text "read ") tr end v
shown (L.Own v) = one (text "own ") v
shown (L.Again tr v) = one_value (text "again ") tr v
shown (L.Commit p) = one (text "commit ") p
shown L.NoPoint = text "nopoint"
shown (L.Purged vs ls) = two (text "purged ") vs ls
shown (L.At p v) = one_value (text "at ") p v
shown (L.No n) = one (text "no ") n
shown (L.Held h) = one (text "no 8 ") h
shown L.Malformed = text "?"
