-- `fields::number_in` meets its contract: digits of value n were passed, and the number that goes on from there is the
-- field's. Assumes nothing.
use Rattle.std.proofs.Common.{◌≡◌, ◌≤◌, drop}
use Rattle.texts.specs.Text.{LARGEST}
use Rattle.fields.specs.Reads.{number_of}
use Rattle.fields.proofs.Digits.{going}
use Rattle.fields.proofs.number_in.Given as goal

abbrev pub invariant-loop-b : goal.invariant-loop-b
invariant-loop-b l = record { small : l.n ≤ LARGEST; same : number_of l.field ≡ going l.n (drop l.b-index l.field) }
