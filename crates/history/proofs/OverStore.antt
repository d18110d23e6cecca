-- Demand 3 over the words of the store: the theorems over what is lent, with the words of `tables`, from the contracts
-- of `format` and the public calls. Rests on OverWords and the laws of formatted words.
use Prim.Native.Nat.{ℕ}
use mathlib.Core.Path.{◌≡◌, refl, ap, ◌∙◌}
use mathlib.Core.Bool.{Bool, true, false}
use mathlib.Core.List.{List, []}
use native.Mathlib.Omega.{arith}
use lib.ListN.{length}
use Rattle.meaning.specs.Records.{good_counts}
use Rattle.types.specs.Replies.{Reply, ok, refusing}
use Rattle.types.specs.declared.Counts.{Counts}
use Rattle.types.specs.declared.Call.{Call}
use Rattle.meaning.specs.Contract as contract
use Rattle.meaning.proofs.Lists.{and_left}
use Rattle.tables.specs.Words.{Lent, lent, decode, sound_words}
use Rattle.format.specs.Format.{Formats, format_fits, formatted_words}
use Rattle.format.proofs.Formatted.{formatted_sound, formatted_fresh}
use Rattle.history.specs.Words.{Listed}
use Rattle.history.specs.StoreWords.{HistoryOn, StoreWordsSerializable, StoreWordsOrderExists}
use Rattle.history.specs.StoreWords.{StoreWordsPointIsOne}
use Rattle.history.proofs.OverWords.{words_serializable, words_order_exists, words_point_is_one}

-- a Format that replied `ok` was given counts in range and a slice of their length
fits : {c : Counts} {w w' : List ℕ} → Formats c w w' ok → format_fits c (length w) ≡ true
fits {c} {w} f = go (format_fits c (length w)) refl
  where
    go : (b : Bool) → format_fits c (length w) ≡ b → b ≡ true
    go true e = refl
    go false e =
        let q : ok ≡ refusing 16 [] = (f.refused e).0 in
        let z : ◌≡◌ {A = ℕ} 0 1 = cc in
        absurd (omega arith)

good : (c : Counts) (n : ℕ) → format_fits c n ≡ true → good_counts c ≡ true
unfolding format_fits
good c n h = and_left (good_counts c) _ h

-- so its words are sound and mean the fresh store
pub formats : {c : Counts} {w w' : List ℕ} → Formats c w w' ok → contract.Formats Lent decode sound_words c (lent w')
formats {c} {w} {w'} f =
    let h = fits f in
    let g = good c (length w) h in
    let e : w' ≡ formatted_words c = (f.done h).1 in
    record {
      good = g;
      stays = ap (λ v. sound_words (lent v)) e ∙ formatted_sound c g;
      store = ap (λ v. decode (lent v)) e ∙ formatted_fresh c g;
    }

pub listed : (counts : Counts) (cs : List Call) (qs : List Reply) (end : List ℕ) → HistoryOn counts cs qs end
    → Listed Lent decode sound_words counts cs qs (lent end)
listed counts cs qs end h = record { start = lent h.start; format = formats h.formats; calls = h.calls }

pub store_words_serializable : StoreWordsSerializable
store_words_serializable counts cs qs end h =
    words_serializable Lent decode sound_words counts cs qs (lent end) (listed counts cs qs end h)

pub store_words_order_exists : StoreWordsOrderExists
store_words_order_exists counts cs qs end h =
    words_order_exists Lent decode sound_words counts cs qs (lent end) (listed counts cs qs end h)

pub store_words_point_is_one : StoreWordsPointIsOne
store_words_point_is_one counts cs qs end h =
    words_point_is_one Lent decode sound_words counts cs qs (lent end) (listed counts cs qs end h)
