-- Charts computed. Rests on Examples, ExampleWords, CommitList, Charts.
use Rattle.std.specs.Prelude.{Some, None}
use Prim.Native.Nat.{ℕ}
use native.Mathlib.Omega.{arith}
use mathlib.Core.Path.{◌≡◌, refl, sym, ap}
use mathlib.Core.Bool.{true}
use mathlib.Core.List.{List, ◌++◌}
use mathlib.Core.Logic.{inl, inr}
use mathlib.Core.Option.{Option, some}
use Rattle.types.specs.Values.{Val}
use Rattle.types.specs.Replies.{at}
use Rattle.types.specs.Values.{Value}
use Rattle.types.specs.declared.Call.{Call}
use Rattle.meaning.specs.Store.{fresh}
use Rattle.meaning.specs.Records.{viewing}
use Rattle.meaning.specs.Calls.{opened, after}
use Rattle.serial.specs.Serializable.{Seq, ε, ◌▸◌, ◌∈◌, from, Commits, plain_end}
use Rattle.serial.specs.Moments.{Prefix, whole, more, NoCommitSince}
use Rattle.tables.specs.Words.{lent, decode}
use Rattle.history.specs.Heard.{shown_value}
use Rattle.history.specs.Statement.{replied}
use Rattle.history.specs.Words.{done}
use Rattle.history.specs.WordSteps.{readable, calls_of, replies_of}
use Rattle.history.specs.Examples.{commits_of, session_counts, equal_calls}
use Rattle.history.specs.ExampleWords.{heard_of, words_of, session_steps}
use Rattle.history.specs.ChartExamples.{first_calls, above_calls, below_calls, read_calls, ChartIs, ChartsComputed}
use Rattle.history.specs.ChartExamples.{ReadsComputed, TiesComputed, SessionViewed, SessionChart}
use Rattle.history.specs.ChartExamples.{SessionChartsOnWords}
use Rattle.history.proofs.Examples.{session_good, equal_serial}
use Rattle.history.proofs.CommitList.{edits, ordering, cutting, commits_listed, in_order, moment_at}
use Rattle.history.proofs.ExampleWords.{shows, session_stepped, session_on_words, session_words_serial}
use Rattle.history.proofs.Charts.{store_words_charts}

-- by the list of the commits c, in the order s, of which a is the part at or below p
chart_is : (cs : List Call) (p : ℕ) (c s a : Seq (ℕ × ℕ)) {q : ℕ} {x : Option Val}
    → commits_of (replied session_counts cs) ≡ c
    → ordering c s ≡ true → Prefix a s → cutting p s a ≡ true
    → plain_end (replied session_counts cs) (edits a) 0 ≡ x
    → (viewing 0 p (after cs (fresh session_counts))).reply ≡ at q (shown_value x)
    → ChartIs cs p (edits s) (edits a) q x
chart_is cs p c s a is ordered g cut plain view =
    record {
      order = in_order (replied session_counts cs) c s is ordered;
      moment = moment_at (replied session_counts cs) c s is ordered p a g cut;
      plain = plain;
      view = view;
    }

above_since : NoCommitSince (replied session_counts first_calls) (replied session_counts above_calls) 0 5
unfolding opened first_calls above_calls
above_since e t v c low w = go ((commits_listed (replied session_counts above_calls) e t).0 c).1
  where
    go : ◌∈◌ {A = ℕ × ℕ} (e, t) (ε ▸ (1, 3) ▸ (5, 7)) → Commits (replied session_counts first_calls) e t
    go (inl i) = (commits_listed (replied session_counts first_calls) e t).1 (c.0, i)
    go (inr q) = absurd (omega (arith, ap (λ (y : ℕ × ℕ). y.1) q))

below_since : ¬ NoCommitSince (replied session_counts first_calls) (replied session_counts below_calls) 0 5
unfolding opened first_calls above_calls below_calls
below_since f =
    go
    ((commits_listed (replied session_counts first_calls) 9 4).0
    (f 9 4 30 ((commits_listed (replied session_counts below_calls) 9 4).1 (omega arith, inr refl)) (omega arith) refl)
    ).1
  where
    go : ◌∈◌ {A = ℕ × ℕ} (9, 4) (ε ▸ (1, 3)) → ⊥
    go (inl i) = i
    go (inr q) = omega (arith, ap (λ (y : ℕ × ℕ). y.0) q)

pub charts_computed : ChartsComputed
unfolding opened first_calls above_calls below_calls
charts_computed =
    record {
      first = chart_is first_calls 5 (ε ▸ (1, 3)) (ε ▸ (1, 3)) (ε ▸ (1, 3)) refl refl whole refl refl refl;
      above =
          chart_is above_calls 5 (ε ▸ (1, 3) ▸ (5, 7)) (ε ▸ (1, 3) ▸ (5, 7)) (ε ▸ (1, 3)) refl refl (more whole) refl
          refl refl;
      below =
          chart_is below_calls 5 (ε ▸ (1, 3) ▸ (5, 7) ▸ (9, 4)) (ε ▸ (1, 3) ▸ (9, 4) ▸ (5, 7)) (ε ▸ (1, 3) ▸ (9, 4))
          refl refl (more whole) refl refl refl;
      above_since = above_since;
      below_since = below_since;
    }

pub reads_computed : ReadsComputed
unfolding opened first_calls above_calls below_calls read_calls
reads_computed =
    record {
      replies = refl;
      order =
          in_order (replied session_counts (below_calls ++ read_calls)) (ε ▸ (1, 3) ▸ (5, 7) ▸ (9, 4) ▸ (13, 6))
          (ε ▸ (1, 3) ▸ (9, 4) ▸ (13, 6) ▸ (5, 7)) refl refl;
      place = more whole;
      touches = inl (from 4, some 30, inl (inr refl));
      plain = refl;
      view = refl;
      purged_view = refl;
    }

pub ties_computed : TiesComputed
unfolding opened equal_calls
ties_computed =
    record {
      order = equal_serial.0.order;
      place = more whole;
      other_plain = refl;
      other_view = refl;
      own_plain = refl;
      own_view = refl;
    }

session_heard : commits_of (heard_of session_counts session_steps) ≡ ε ▸ (2, 7) ▸ (1, 6)
session_heard = session_words_serial.commits

session_chart : (p : ℕ) (a : Seq (ℕ × ℕ)) → Prefix a (ε ▸ (1, 6) ▸ (2, 7)) → cutting p (ε ▸ (1, 6) ▸ (2, 7)) a ≡ true
    → SessionChart p (edits a)
session_chart p a g cut =
    let i = session_on_words.words in
    let w = words_of session_counts session_steps in
    record {
      chart =
          (store_words_charts session_counts (calls_of session_steps) (replies_of session_steps) w
          (i.from w i.size).0 _ _ w done).moment p;
      moment =
          moment_at (heard_of session_counts session_steps) (ε ▸ (2, 7) ▸ (1, 6))
          (ε ▸ (1, 6) ▸ (2, 7)) session_heard refl
          p a g cut;
    }

session_viewed : (r p q : ℕ) (v : Value)
    → (viewing r p (decode (lent (words_of session_counts session_steps)))).reply ≡ at q v
    → SessionViewed r p q v
session_viewed r p q v e = shows session_counts session_steps session_good session_stepped r p (at q v) (sym e)

pub session_charts_on_words : SessionChartsOnWords
unfolding opened readable session_steps
session_charts_on_words =
    record {
      at_8 = session_chart 8 (ε ▸ (1, 6) ▸ (2, 7)) whole refl;
      first_8 = session_viewed 0 8 7 (Some 501) refl;
      second_8 = session_viewed 1 8 0 None refl;
      at_6 = session_chart 6 (ε ▸ (1, 6)) (more whole) refl;
      second_6 = session_viewed 1 6 0 None refl;
    }
