-- What a session rests on, and what its calls promise. Rests on Index of `index` and Promises of `store`.
use Rattle.std.specs.Prelude.{ℕ, ◌≡◌, true, cond, List, []}
use Rattle.types.specs.Replies.{Reply, ok, refusing}
use Rattle.meaning.specs.Store.{Store}
use Rattle.meaning.specs.Outcomes.{Outcome}
use Rattle.tables.specs.Words.{lent, decode, sound_words}
use Rattle.index.specs.Index.{Indexed}
use Rattle.store.specs.Promises.{Does}

-- the words are sound, and what the index says of them is so
pub record Opened (words ix : List ℕ) : Type 0 where
  pub sound : sound_words (lent words) ≡ true
  pub index : Indexed (decode (lent words)) ix

-- opening: `ok` and an open session, or refusal 1 where the words are not sound; the index then stays as it was
pub record Opens (words ix ix' : List ℕ) (r : Reply) : Type 0 where
  pub verdict : r ≡ cond (sound_words (lent words)) ok (refusing 1 [])
  pub opened : r ≡ ok → Opened words ix'
  pub stays : r ≡ refusing 1 [] → ix' ≡ ix

-- a call in a session: what the public call promises, and the session is open again
pub record Within (call : Store → Outcome) (before after ix' : List ℕ) (r : Reply) : Type 0 where
  pub does : Does call before after r
  pub opened : Opened after ix'
