-- What a chart reader answers: the reply of View, for every slice of words and every reader. Rests on Words of `tables`
-- and Records of `meaning`.
use Rattle.std.specs.Prelude.{ℕ, List}
use Rattle.types.specs.Replies.{Reply}
use Rattle.meaning.specs.Records.{viewing}
use Rattle.store.specs.Promises.{Shows}

-- q is what the call View shows of record r at p: the same promise as that of the public call
abbrev pub Viewed : ℕ → ℕ → List ℕ → Reply → Type 0
Viewed r p w q = Shows (viewing r p) w q
