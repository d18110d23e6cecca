-- What a call on sound words does: its reply and the store that the words then mean are those of its definition, the
-- words are sound again, and a refusal changes not one word. Rests on `Words` of the crate `tables` and the definitions
-- of `meaning`.
use Rattle.std.specs.Prelude.{ℕ, ◌≡◌, true, List}
use Rattle.meaning.specs.Store.{Store}
use Rattle.types.specs.Replies.{Reply, refused}
use Rattle.meaning.specs.Outcomes.{Outcome}
use Rattle.meaning.specs.Sound.{sound_store}
use Rattle.types.specs.declared.Counts.{Counts}
use Rattle.tables.specs.Decode.{decode_at}
use Rattle.tables.specs.Words.{Lent, decode, sound_words, Well}

pub record Acts (call : Store → Outcome) (before after : Lent) (r : Reply) : Type 0 where
  pub reply : r ≡ (call (decode before)).reply
  pub store : decode after ≡ (call (decode before)).store
  pub stays : sound_words after ≡ true
  pub unchanged : refused r ≡ true → after ≡ before

-- Sound words with their counts, as the parts of a call ask for them.
pub record Ready (c : Counts) (w : List ℕ) : Type 0 where
  pub well : Well c w
  pub store : sound_store (decode_at c w) ≡ true

-- The same of a part of a call, with the counts: it replies and leaves what the outcome says.
pub record Makes (c : Counts) (o : Outcome) (before after : List ℕ) (r : Reply) : Type 0 where
  pub reply : r ≡ o.reply
  pub store : decode_at c after ≡ o.store
  pub well : Well c after
  pub unchanged : refused r ≡ true → after ≡ before
