-- Charts computed. Between two views at 5, a commit above 5 changes nothing and one below changes the chart; what an
-- edit has read nobody changes after its commit; where another edit commits at the same point, this is said of the
-- records that the edit read or wrote, and false of others; charts of the words that the session left. The theorems are
-- in proofs/ChartExamples, under the same names. Rests on Examples, ExampleWords, Charts.
use Rattle.std.specs.Prelude.{ℕ, ◌≡◌, List, [], ◌∷◌, ◌++◌, Some, None}
use Rattle.std.proofs.Math.Option.{Option, some, none}
use Rattle.types.specs.Values.{Val}
use Rattle.types.specs.Replies.{Reply, edit, read, commit, purged, at, refusing}
use Rattle.types.specs.Values.{Value}
use Rattle.types.specs.declared.Extent.TheVariants.{All}
use Rattle.types.specs.declared.Pick.TheVariants.{Latest, Named}
use Rattle.types.specs.declared.Finish.TheVariants.{Settle}
use Rattle.types.specs.declared.Call.{Call}
use Rattle.types.specs.declared.Call.TheVariants as C
use Rattle.meaning.specs.Store.{Store, fresh}
use Rattle.meaning.specs.Records.{viewing}
use Rattle.meaning.specs.Calls.{run, after}
use Rattle.serial.specs.Serializable.{Seq, ε, ◌▸◌, History, plain_end, CommitOrder}
use Rattle.serial.specs.Moments.{Prefix, Moment, NoCommitSince, Touches}
use Rattle.tables.specs.Words.{Lent, lent, decode, sound_words}
use Rattle.history.specs.Heard.{shown_value}
use Rattle.history.specs.Statement.{replied}
use Rattle.history.specs.Charts.{ViewGives, Chart}
use Rattle.history.specs.Examples.{on, to, session_counts, equal_counts, equal_calls}
use Rattle.history.specs.ExampleWords.{heard_of, words_of, session_steps}

-- an edit that writes v to record 0 and commits at p
abbrev saves : ℕ → ℕ → Val → List Call
saves h p v =
    C.Begin
    ∷ C.Lock (on h) 0 (to p) (to p) All
    ∷ C.Write (on h) 0 v
    ∷ C.Commit (on h) (Named (to p)) Settle
    ∷ []

-- edit 1 commits at 3, then edit 5 at 7, then edit 9 at 4
unfoldable pub first_calls : List Call
first_calls = saves 65 3 10

unfoldable pub above_calls : List Call
unfolding first_calls
above_calls = first_calls ++ saves 129 7 20

unfoldable pub below_calls : List Call
unfolding above_calls
below_calls = above_calls ++ saves 193 4 30

-- then edit 13 reads up to 6 and commits there, nobody can lock 5 or 6 for writing, and a purge takes the version at 3
unfoldable pub read_calls : List Call
read_calls =
    C.Begin
    ∷ C.Read (on 257) 0 (to 6) All
    ∷ C.Commit (on 257) Latest Settle
    ∷ C.Begin
    ∷ C.Lock (on 321) 0 (to 5) (to 5) All
    ∷ C.Lock (on 321) 0 (to 6) (to 6) All
    ∷ C.Purge 0 (to 5)
    ∷ []

abbrev read_replies : List Reply
read_replies =
    edit 257
    ∷ read 4 6 (Some 30)
    ∷ commit 6
    ∷ edit 321
    ∷ refusing 9 []
    ∷ refusing 9 []
    ∷ purged 1 2
    ∷ []

abbrev heard : List Call → History Val
heard = replied session_counts

abbrev store : List Call → Store
store cs = after cs (fresh session_counts)

-- after the calls cs, the order o has its moment p after the edits of a, where the plain run has x of record 0; View
-- replies it, with the point q
pub record ChartIs (cs : List Call) (p : ℕ) (o a : Seq ℕ) (q : ℕ) (x : Option Val) : Type 0 where
  pub order : CommitOrder (heard cs) o
  pub moment : Moment (heard cs) p o a
  pub plain : plain_end (heard cs) a 0 ≡ x
  pub view : (viewing 0 p (store cs)).reply ≡ at q (shown_value x)

-- a commit at 7 leaves the chart at 5, one at 4 changes it; the premise on which a chart stays tells them apart
pub record ChartsComputed : Type 0 where
  pub first : ChartIs first_calls 5 (ε ▸ 1) (ε ▸ 1) 3 (some 10)
  pub above : ChartIs above_calls 5 (ε ▸ 1 ▸ 5) (ε ▸ 1) 3 (some 10)
  pub below : ChartIs below_calls 5 (ε ▸ 1 ▸ 9 ▸ 5) (ε ▸ 1 ▸ 9) 4 (some 30)
  pub above_since : NoCommitSince (heard first_calls) (heard above_calls) 0 5
  pub below_since : ¬ NoCommitSince (heard first_calls) (heard below_calls) 0 5

-- the chart at 6 of edit 13, which read the record and committed there, is that of the plain run right after it
pub record ReadsComputed : Type 0 where
  pub replies : run read_calls (store below_calls) ≡ read_replies
  pub order : CommitOrder (heard (below_calls ++ read_calls)) (ε ▸ 1 ▸ 9 ▸ 13 ▸ 5)
  pub place : Prefix {A = ℕ} (ε ▸ 1 ▸ 9 ▸ 13) (ε ▸ 1 ▸ 9 ▸ 13 ▸ 5)
  pub touches : Touches (heard (below_calls ++ read_calls)) 13 0
  pub plain : plain_end (heard (below_calls ++ read_calls)) (ε ▸ 1 ▸ 9 ▸ 13) 0 ≡ some 30
  pub view : (viewing 0 6 (store (below_calls ++ read_calls))).reply ≡ at 4 (Some 30)
  pub purged_view : (viewing 0 3 (store (below_calls ++ read_calls))).reply ≡ refusing 7 []

-- Two edits commit at 5 and write a record each (Examples). Right after edit 1, in the order 1, 2, record 2 is never
-- written, and View of it at 5 replies what edit 2 wrote: edit 1 has neither read nor written it. Of record 1, which it
-- wrote, View at 5 replies what the plain run has right after edit 1
pub record TiesComputed : Type 0 where
  pub order : CommitOrder (replied equal_counts equal_calls) (ε ▸ 1 ▸ 2)
  pub place : Prefix {A = ℕ} (ε ▸ 1) (ε ▸ 1 ▸ 2)
  pub other_plain : plain_end (replied equal_counts equal_calls) (ε ▸ 1) 2 ≡ none
  pub other_view : (viewing 2 5 (after equal_calls (fresh equal_counts))).reply ≡ at 5 (Some 20)
  pub own_plain : plain_end (replied equal_counts equal_calls) (ε ▸ 1) 1 ≡ some 10
  pub own_view : (viewing 1 5 (after equal_calls (fresh equal_counts))).reply ≡ at 5 (Some 10)

-- Charts of the words that the session left: at 8 they are of the state after both edits, at 6, above which edit 2
-- committed, of that after edit 1
abbrev pub SessionViewed : ℕ → ℕ → ℕ → Value → Type 0
SessionViewed = ViewGives Lent decode sound_words (lent (words_of session_counts session_steps))

pub record SessionChart (p : ℕ) (a : Seq ℕ) : Type 0 where
  pub chart : Chart (heard_of session_counts session_steps) p (λ r q v. SessionViewed r p q v)
  pub moment : Moment (heard_of session_counts session_steps) p (ε ▸ 1 ▸ 2) a

pub record SessionChartsOnWords : Type 0 where
  pub at_8 : SessionChart 8 (ε ▸ 1 ▸ 2)
  pub first_8 : SessionViewed 0 8 7 (Some 501)
  pub second_8 : SessionViewed 1 8 0 None
  pub at_6 : SessionChart 6 (ε ▸ 1)
  pub second_6 : SessionViewed 1 6 0 None
