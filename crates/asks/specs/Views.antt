-- What the many views promise: the reply of View to each ask of the list, as rows of words. Rests on Encoding of the
-- crate `encoding`, Words of `tables` and Records of `meaning`.
use Rattle.std.specs.Prelude.{ℕ, zero, suc, ◌+◌, ◌*◌, ◌/◌, min, ◌≡◌, cond, List, [], ◌∷◌, ◌++◌, length, drop}
use Rattle.types.specs.Replies.{Reply, refusing}
use Rattle.meaning.specs.Records.{viewing}
use Rattle.tables.specs.Words.{lent, decode, sound_words}
use Rattle.encoding.specs.Encoding.{word_at, rows_of}

-- View of record r at p, or refusal 1 where the words are not sound
unfoldable pub asked : ℕ → ℕ → List ℕ → Reply
asked r p w = cond (sound_words (lent w)) (viewing r p (decode (lent w))).reply (refusing 1 [])

-- an ask is a record and a point
abbrev pub ASK_WORDS : ℕ
ASK_WORDS = 2

-- its reply is a code, a point, whether the value was ever written, and its bits
abbrev pub VIEW_NUMBERS : ℕ
VIEW_NUMBERS = 3

abbrev pub VIEW_WORDS : ℕ
VIEW_WORDS = suc VIEW_NUMBERS

-- the reply to ask i of a list, and the replies to the first n
unfoldable pub asked_at : List ℕ → List ℕ → ℕ → Reply
asked_at words list i = asked (word_at list (i * ASK_WORDS)) (word_at list (i * ASK_WORDS + 1)) words

abbrev pub replies_of : List ℕ → List ℕ → ℕ → List Reply
replies_of words list zero = []
replies_of words list (suc n) = replies_of words list n ++ (asked_at words list n ∷ [])

-- the rows of the replies stand first in the reply area; the words after them stay
pub record Views (words list area area' : List ℕ) (n : ℕ) : Type 0 where
  pub count : n ≡ min (length list / ASK_WORDS) (length area / VIEW_WORDS)
  pub told : area' ≡ rows_of VIEW_NUMBERS (replies_of words list n) ++ drop (n * VIEW_WORDS) area
