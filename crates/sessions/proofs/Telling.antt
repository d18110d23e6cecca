-- The answer of a desk that is told is the one promised. Rests on specs/Sessions.
use Prim.Native.Nat.{ℕ}
use mathlib.Core.List.{List}
use Rattle.desk.specs.Replies.{Opening, After}
use Rattle.sessions.specs.Sessions.{TellsAfter, TellsOpening, Reports, Opens}

-- the answer told is the answer promised
pub reported : {Promise : After → Type 0} {a : After} {code : ℕ} {held left xs ys : List ℕ}
    → TellsAfter a code held left xs ys → Promise a → Reports Promise code held left xs ys
reported t p = record { after = _; kept = p; told = t }

pub opened_as : {Promise : Opening → Type 0} {o : Opening} {code : ℕ} {xs ys : List ℕ}
    → TellsOpening o code xs ys → Promise o → Opens Promise code xs ys
opened_as t p = record { opening = _; kept = p; told = t }
