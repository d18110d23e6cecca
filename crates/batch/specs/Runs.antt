-- What the batch promises: the calls of the list, each with its own contract on what the one before left, and their
-- replies as rows of words. Rests on Encoding of the crate `encoding` and on the lists of calls of
-- `history`.
use Rattle.std.specs.Prelude.{ℕ, ◌*◌, ◌/◌, min, ◌≡◌, List, ◌++◌, length, drop}
use Rattle.std.proofs.lemmas.List.Edits.{sets}
use Rattle.types.specs.Replies.{Reply}
use Rattle.meaning.specs.Calls.{act}
use Rattle.tables.specs.Words.{Lent, lent, decode, sound_words}
use Rattle.history.specs.Words.{Calls}
use Rattle.store.specs.Promises.{Does}
use Rattle.encoding.specs.Encoding.{CALL_WORDS, NUMBERS, REPLY_WORDS, call_at, calls_of, row_of, rows_of}

-- call i of the list: its reply stands in row i of the reply area
pub record Steps (list : List ℕ) (i : ℕ) (before after area area' : List ℕ) : Type 0 where
  pub reply : Reply
  pub does : Does (act (call_at list i)) before after reply
  pub told : area' ≡ sets area (i * REPLY_WORDS) (row_of NUMBERS reply)

-- as many calls as there are both whole calls in the list and whole rows in the reply area
abbrev pub fitting : List ℕ → List ℕ → ℕ
fitting list area = min (length list / CALL_WORDS) (length area / REPLY_WORDS)

-- the first n calls of the list: "its contract is the list of the calls' own contracts". The rows of their replies
-- stand first in the reply area; the words after them stay
pub record Runs (list before after area area' : List ℕ) (n : ℕ) : Type 0 where
  pub count : n ≡ fitting list area
  pub replies : List Reply
  pub calls : Calls Lent decode sound_words (lent before) (calls_of list n) replies (lent after)
  pub told : area' ≡ rows_of NUMBERS replies ++ drop (n * REPLY_WORDS) area
