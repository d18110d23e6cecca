-- Demand 3 and charts over a list of calls of the store and of layers: it is a history of the store. Rests on OverStore
-- and Charts of `history`, whose theorems these are; nothing is said here of locks.
use Prim.Native.Nat.{ℕ}
use mathlib.Core.List.{List}
use Rattle.types.specs.Replies.{Reply}
use Rattle.types.specs.declared.Counts.{Counts}
use Rattle.types.specs.declared.Call.{Call}
use Rattle.tables.specs.Words.{Lent, decode, sound_words}
use Rattle.history.specs.StoreWords.{HistoryOn}
use Rattle.history.proofs.OverStore.{store_words_serializable, store_words_order_exists, store_words_point_is_one}
use Rattle.history.proofs.Charts.{store_words_charts}
use Rattle.layers.specs.Serial.{StepsOn, LayersSerializable, LayersOrderExists, LayersPointIsOne, LayersCharts}
use Rattle.layers.proofs.Layers.{steps_are_calls}

module _ (counts : Counts) (cs : List Call) (qs : List Reply) (end : List ℕ) where
  history_on : StepsOn counts cs qs end → HistoryOn counts cs qs end
  history_on h =
      record {
        before = h.before;
        start = h.start;
        formats = h.formats;
        calls = steps_are_calls Lent decode sound_words h.steps;
      }

pub layers_serializable : LayersSerializable
layers_serializable counts cs qs end h = store_words_serializable counts cs qs end (history_on counts cs qs end h)

pub layers_order_exists : LayersOrderExists
layers_order_exists counts cs qs end h = store_words_order_exists counts cs qs end (history_on counts cs qs end h)

pub layers_point_is_one : LayersPointIsOne
layers_point_is_one counts cs qs end h = store_words_point_is_one counts cs qs end (history_on counts cs qs end h)

pub layers_charts : LayersCharts
layers_charts counts cs qs w h ds ps w' more =
    store_words_charts counts cs qs w (history_on counts cs qs w h) ds ps w' (steps_are_calls Lent decode sound_words
    more)
