-- Steps over words are a history (`steps_history`), from four equations for each step, which compute: its reply, what
-- the words mean after it, that they are well formed, and that a refused call changes none. That the meaning stays
-- sound is the law of the calls. Rests on WordSteps.
use Prim.Native.Nat.{ℕ}
use mathlib.Core.Path.{◌≡◌, refl, ap, ◌∙◌}
use mathlib.Core.Bool.{Bool, true, false}
use mathlib.Core.List.{List, [], ◌∷◌}
use lib.ListN.{length}
use lib.Dec.{eqb}
use borrow.Author.Tests.{eq-eqb}
use Rattle.types.specs.Replies.{Reply, ok, refused}
use Rattle.meaning.specs.Records.{good_counts}
use Rattle.meaning.specs.Calls.{act}
use Rattle.meaning.specs.Sound.{sound_store}
use Rattle.meaning.specs.Contract.{Does}
use Rattle.types.specs.declared.Counts.{Counts}
use Rattle.types.specs.declared.Call.{Call}
use Rattle.meaning.proofs.Lists.{and_in, and_right, not_both}
use Rattle.meaning.proofs.Laws.{calls_keep_sound}
use Rattle.tables.specs.Layout.{size_of}
use Rattle.tables.specs.Words.{Lent, lent, decode, formed, sound_words}
use Rattle.format.specs.Format.{Formats, format_fits, formatted_words}
use Rattle.format.proofs.Formatted.{formatted_sound}
use Rattle.history.specs.Words.{Calls, done, then}
use Rattle.history.specs.StoreWords.{HistoryOn}
use Rattle.history.specs.WordSteps.{Changes, changed, Step, calls_of, replies_of, end_of}

-- a refused call changes nothing
abbrev idle : Bool → Changes → Bool
idle false cs = true
idle true [] = true
idle true (c ∷ cs) = false

idle_same : (b : Bool) (cs : Changes) (w : List ℕ) → idle b cs ≡ true → b ≡ true → changed cs w ≡ w
unfolding changed
idle_same false cs w p q = absurd (not_both q refl)
idle_same true [] w p q = refl
idle_same true (c ∷ cs) w p q = absurd (not_both p refl)

abbrev Stepped : List ℕ → List ℕ → Step → Type 0
Stepped w w' s = (s.reply ≡ (act s.call (decode (lent w))).reply)
    × (decode (lent w') ≡ (act s.call (decode (lent w))).store)
    × (formed w' ≡ true)
    × (idle (refused s.reply) s.changes ≡ true)

-- each step, on the words that the last one left
abbrev pub AllStepped : List ℕ → List Step → Type 0
AllStepped w [] = Unit {0}
AllStepped w (s ∷ ss) = Stepped w (changed s.changes w) s × AllStepped (changed s.changes w) ss

-- the contract of a call on sound words, from its reply, what the words mean after it, and their form
pub word_does : (c : Call) (w w' : List ℕ) (q : Reply) → sound_words (lent w) ≡ true
    → q ≡ (act c (decode (lent w))).reply
    → decode (lent w') ≡ (act c (decode (lent w))).store
    → formed w' ≡ true
    → (refused q ≡ true → w' ≡ w)
    → Does Lent decode sound_words (act c) (lent w) (lent w') q
unfolding sound_words
word_does c w w' q h reply store form same =
    record {
      unsound = λ e. absurd (not_both h e);
      reply = λ e. reply;
      store = λ e. store;
      stays =
          λ e. and_in form (ap sound_store store
          ∙ calls_keep_sound c (decode (lent w)) (and_right (formed w) (sound_store (decode (lent w))) h));
      unchanged = λ e. ap lent (same e);
    }

step_does : (w : List ℕ) (s : Step) → sound_words (lent w) ≡ true → Stepped w (changed s.changes w) s
    → Does Lent decode sound_words (act s.call) (lent w) (lent (changed s.changes w)) s.reply
step_does w s h (reply, store, form, same) =
    word_does s.call w (changed s.changes w) s.reply h reply store form
    (idle_same (refused s.reply) s.changes w same)

steps_calls : (ss : List Step) (w : List ℕ) → sound_words (lent w) ≡ true → AllStepped w ss
    → Calls Lent decode sound_words (lent w) (calls_of ss) (replies_of ss) (lent (end_of ss w))
unfolding calls_of replies_of end_of
steps_calls [] w h a = done
steps_calls (s ∷ ss) w h (a, b) =
    let d = step_does w s h a in
    then d (steps_calls ss (changed s.changes w) (d.stays h) b)

-- Format replies `ok` on every slice of the right length
pub formats_any : (c : Counts) (w : List ℕ) → good_counts c ≡ true → length w ≡ size_of c
    → Formats c w (formatted_words c) ok
unfolding format_fits
formats_any c w g n =
    record { refused = λ e. absurd (not_both (and_in g (eq-eqb (length w) (size_of c) n)) e); done = λ e. (refl, refl) }

pub steps_history : (c : Counts) (ss : List Step) (w : List ℕ) → good_counts c ≡ true
    → AllStepped (formatted_words c) ss
    → length w ≡ size_of c
    → (h : HistoryOn c (calls_of ss) (replies_of ss) (end_of ss (formatted_words c))) × (h.before ≡ w)
steps_history c ss w g a n = (
  record {
    before = w;
    start = formatted_words c;
    formats = formats_any c w g n;
    calls = steps_calls ss (formatted_words c) (formatted_sound c g) a;
  },
  refl,
)

-- and the words at its end are sound
sound_left : (ss : List Step) (w : List ℕ) → sound_words (lent w) ≡ true → AllStepped w ss
    → sound_words (lent (end_of ss w)) ≡ true
unfolding end_of
sound_left [] w h a = h
sound_left (s ∷ ss) w h (a, b) = sound_left ss (changed s.changes w) ((step_does w s h a).stays h) b

pub steps_sound : (c : Counts) (ss : List Step) → good_counts c ≡ true → AllStepped (formatted_words c) ss
    → sound_words (lent (end_of ss (formatted_words c))) ≡ true
steps_sound c ss g a = sound_left ss (formatted_words c) (formatted_sound c g) a
