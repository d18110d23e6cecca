-- Demand 3, and what is promised of charts, over a list in which calls of the store and of layers above it stand in any
-- order, on lent words. The theorems are in proofs/Serial, under the same names. Rests on Layers, and on StoreWords and
-- Charts of `history`.
use Rattle.std.specs.Prelude.{ℕ, ◌≡◌, List}
use Rattle.types.specs.Replies.{Reply, ok}
use Rattle.types.specs.declared.Counts.{Counts}
use Rattle.types.specs.declared.Call.{Call}
use Rattle.serial.specs.Serializable.{Seq, Commits, CommitOrder}
use Rattle.tables.specs.Words.{Lent, lent, decode, sound_words}
use Rattle.format.specs.Format.{Formats}
use Rattle.history.specs.Heard.{history}
use Rattle.history.specs.Words.{SerialWords}
use Rattle.history.specs.Charts.{Charts}
use Rattle.layers.specs.Programs.{Program}
use Rattle.layers.specs.Layers as layers

-- the contract of a layer's function over lent words, and a list of calls of both kinds
abbrev pub Layer : {A : Type 0} → Program A → List ℕ → List ℕ → A → Type 0
Layer p before after a = layers.Layer Lent decode sound_words p (lent before) (lent after) a

abbrev pub Steps : List ℕ → List Call → List Reply → List ℕ → Type 1
Steps before cs qs after = layers.Steps Lent decode sound_words (lent before) cs qs (lent after)

-- "The list follows one Format that replied `ok`", calls of layers among it
pub record StepsOn (counts : Counts) (cs : List Call) (qs : List Reply) (end : List ℕ) : Type 1 where
  pub before : List ℕ
  pub start : List ℕ
  pub formats : Formats counts before start ok
  pub steps : Steps start cs qs end

-- the committed edits run one by one, in every order by commit point, give every read and the final values
abbrev pub LayersSerializable : Type 1
LayersSerializable =
    (counts : Counts) (cs : List Call) (qs : List Reply) (end : List ℕ) → StepsOn counts cs qs end
    → (o : Seq ℕ) → CommitOrder (history cs qs) o
    → SerialWords Lent decode sound_words counts.records (history cs qs) (lent end) o

-- there is such an order, and an edit has one commit point
abbrev pub LayersOrderExists : Type 1
LayersOrderExists = (counts : Counts) (cs : List Call) (qs : List Reply) (end : List ℕ) → StepsOn counts cs qs end
    → (o : Seq ℕ) × CommitOrder (history cs qs) o

abbrev pub LayersPointIsOne : Type 1
LayersPointIsOne = (counts : Counts) (cs : List Call) (qs : List Reply) (end : List ℕ) → StepsOn counts cs qs end
    → (e p t : ℕ) → Commits (history cs qs) e p → Commits (history cs qs) e t → p ≡ t

-- a chart is one moment of that run, and stays as `Charts` says, whatever calls of both kinds come after it
abbrev pub LayersCharts : Type 1
LayersCharts = (counts : Counts) (cs : List Call) (qs : List Reply) (w : List ℕ) → StepsOn counts cs qs w
    → (ds : List Call) (ps : List Reply) (w' : List ℕ) → Steps w ds ps w'
    → Charts Lent decode sound_words (history cs qs) (lent w) ds ps (lent w')
