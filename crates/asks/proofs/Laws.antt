-- The laws of specs/Laws. Rests on Viewing and on Charts of `history`.
use Prim.Native.Nat.{ℕ, ◌*◌}
use mathlib.Core.Path.{◌≡◌, refl, sym, ap, ◌∙◌}
use mathlib.Core.Bool.{true}
use mathlib.Core.List.{List}
use Rattle.types.specs.Replies.{at}
use Rattle.types.specs.Values.{Value}
use Rattle.meaning.specs.Records.{viewing}
use Rattle.tables.specs.Words.{lent, decode, sound_words}
use Rattle.history.proofs.Charts.{store_words_chart}
use Rattle.encoding.specs.Encoding.{word_at}
use Rattle.asks.specs.Views.{ASK_WORDS, asked, asked_at}
use Rattle.asks.specs.Laws.{AskedShows, AsksFor, AsksShowChart}
use Rattle.asks.proofs.Viewing.{asked_sound, asked_unsound}

pub asked_shows : AskedShows
asked_shows r p w =
    record { unsound = λ s. sym (asked_unsound r p w s); reply = λ s. sym (asked_sound r p w s refl) }

-- on sound words a reply is that of View
as_view : (words list : List ℕ) (p r q : ℕ) (v : Value) → sound_words (lent words) ≡ true
    → AsksFor words list p r q v
    → (viewing r p (decode (lent words))).reply ≡ at q v
unfolding asked_at
as_view words list p r q v s a =
    asked_sound r p words s refl
    ∙ ap (λ (n : ℕ). asked n p words) (sym a.rec)
    ∙ ap (λ (n : ℕ). asked (word_at list (a.ask * ASK_WORDS)) n words) (sym a.at_point)
    ∙ a.reply

pub asks_show_chart : AsksShowChart
asks_show_chart counts cs qs words h list p =
    store_words_chart h p _ (λ sound r q v a. as_view words list p r q v sound a)
