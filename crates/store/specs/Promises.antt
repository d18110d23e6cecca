-- What the public calls promise of the words they are lent: the contract records of `meaning` over the words of
-- `tables`. Rests on both.
use Rattle.std.specs.Prelude.{ℕ, List, cond, Result, Ok, Err}
use Rattle.meaning.specs.Store.{Store}
use Rattle.types.specs.Replies.{Reply, ok}
use Rattle.meaning.specs.Outcomes.{Outcome, replies, unless}
use Rattle.meaning.specs.Edits.{begin_checks}
use Rattle.meaning.specs.Contract as contract
use Rattle.types.specs.declared.Refusal.{Refusal}
use Rattle.types.specs.declared.Refusal.TheVariants.{Unsound}
use Rattle.tables.specs.Words.{Lent, lent, decode, sound_words}

-- what a call does with the words it is lent, and what one that only looks shows
abbrev pub Does : (Store → Outcome) → List ℕ → List ℕ → Reply → Type 0
Does call before after r = contract.Does Lent decode sound_words call (lent before) (lent after) r

abbrev pub Shows : (Store → Outcome) → List ℕ → Reply → Type 0
Shows call words r = contract.Shows Lent decode sound_words call (lent words) r

-- Begin's checks alone: `ok`, or how Begin would be refused
unfoldable pub may_begin : Store → Outcome
may_begin s = unless s (begin_checks s) (replies s ok)

-- the check of the words: refusal 1 unless they are a sound store
unfoldable pub sound_or_refused : List ℕ → Result (Unit {0}) Refusal
sound_or_refused words = cond (sound_words (lent words)) (Ok tt) (Err Unsound)
