-- The session of document 01 and two edits with one commit point over words: the contract of each call computed, so
-- that they are histories, their committed edits and orders, and what the claim says of them. Rests on Examples,
-- WordSteps, OverStore and CommitList.
use Rattle.std.specs.Prelude.{Some, None}
use Prim.Native.Nat.{ℕ, ◌≤◌}
use native.Mathlib.Omega.{arith}
use mathlib.Core.Path.{◌≡◌, refl, sym, ◌∙◌}
use mathlib.Core.Logic.{◌⊎◌, inl, inr}
use mathlib.Core.Bool.{true}
use mathlib.Core.List.{List}
use mathlib.Core.Option.{some, none}
use lib.ListN.{length}
use Rattle.types.specs.Limits.{LAST}
use Rattle.types.specs.Values.{Val}
use Rattle.types.specs.Replies.{Reply, at}
use Rattle.meaning.specs.Records.{good_counts, viewing}
use Rattle.meaning.specs.Calls.{opened}
use Rattle.meaning.specs.Contract.{Shows}
use Rattle.meaning.specs.Session.{session, session_replies}
use Rattle.types.specs.declared.Counts.{Counts}
use Rattle.meaning.proofs.Lists.{not_both}
use Rattle.serial.specs.Serializable.{Seq, ε, ◌▸◌, History, plain_end, CommitOrder}
use Rattle.tables.specs.Layout.{size_of}
use Rattle.tables.specs.Words.{Lent, lent, decode, sound_words}
use Rattle.format.specs.Format.{formatted_words}
use Rattle.history.specs.WordSteps.{Step, readable, calls_of, replies_of}
use Rattle.history.specs.Examples.{commits_of, session_counts, session_calls, equal_counts, equal_calls}
use Rattle.history.specs.ExampleWords.{heard_of, words_of, InWords, SerialIn, session_steps, SessionOnWords}
use Rattle.history.specs.ExampleWords.{SessionWordsSerial, equal_steps, EqualOnWords, EqualIn, EqualWordsSerial}
use Rattle.history.proofs.Examples.{session_good, equal_good}
use Rattle.history.proofs.OverStore.{store_words_serializable}
use Rattle.history.proofs.CommitList.{in_order, only_orders}
use Rattle.history.proofs.WordSteps.{AllStepped, steps_history, steps_sound}

module _ (c : Counts) (ss : List Step) where
  -- the claim, of the steps in an order of theirs
  serial_in : {n : ℕ} → InWords c ss n → (o : Seq ℕ) → CommitOrder (heard_of c ss) o → SerialIn c ss o
  serial_in i o order =
      let h = (i.from (words_of c ss) i.size).0 in
      record {
        order = order;
        serial = store_words_serializable c (calls_of ss) (replies_of ss)
            (words_of c ss) h o order;
      }

  -- the contract of View on the final words
  pub shows : good_counts c ≡ true → AllStepped (formatted_words c) ss → (r p : ℕ) (q : Reply)
      → q ≡ (viewing r p (decode (lent (words_of c ss)))).reply
      → Shows Lent decode sound_words (viewing r p) (lent (words_of c ss)) q
  shows g a r p q e = record { unsound = λ f. absurd (not_both (steps_sound c ss g a) f); reply = λ f. e }

-- the facts of one step, and those of the steps after it
infixr 50 ◌⨾◌
◌⨾◌ : {A B : Type 0} → A → B → A × B
◌⨾◌ a b = (a, b)

-- for each call: its reply, what the words mean after it, their form, and that a refused call changes none
pub session_stepped : AllStepped (formatted_words session_counts) session_steps
unfolding opened readable session_steps
session_stepped =
    (refl, refl, refl, refl)
    ⨾ (refl, refl, refl, refl)
    ⨾ (refl, refl, refl, refl)
    ⨾ (refl, refl, refl, refl)
    ⨾ (refl, refl, refl, refl)
    ⨾ (refl, refl, refl, refl)
    ⨾ (refl, refl, refl, refl)
    ⨾ (refl, refl, refl, refl)
    ⨾ (refl, refl, refl, refl)
    ⨾ (refl, refl, refl, refl)
    ⨾ (refl, refl, refl, refl)
    ⨾ (refl, refl, refl, refl)
    ⨾ tt

session_size : length (words_of session_counts session_steps) ≡ 118
unfolding readable session_steps
session_size = refl

session_fits : size_of session_counts ≡ 118
unfolding readable
session_fits = refl

pub session_on_words : SessionOnWords
unfolding readable session_steps session_calls session session_replies
session_on_words =
    record {
      calls = refl;
      replies = refl;
      words = record {
        size = session_size;
        from =
            λ w n. steps_history session_counts session_steps w session_good session_stepped (n ∙ sym session_fits);
      };
    }

session_heard : commits_of (heard_of session_counts session_steps) ≡ ε ▸ (2, 7) ▸ (1, 6)
unfolding readable session_steps
session_heard = refl

session_first : (viewing 0 LAST (decode (lent (words_of session_counts session_steps)))).reply ≡ at 7 (Some 501)
unfolding opened readable session_steps
session_first = refl

session_second : (viewing 1 LAST (decode (lent (words_of session_counts session_steps)))).reply ≡ at 0 None
unfolding opened readable session_steps
session_second = refl

pub session_words_serial : SessionWordsSerial
unfolding readable session_steps
session_words_serial =
    record {
      commits = session_heard;
      serial = serial_in session_counts session_steps session_on_words.words (ε ▸ 1 ▸ 2)
          (in_order heard (ε ▸ (2, 7) ▸ (1, 6)) (ε ▸ (1, 6) ▸ (2, 7)) session_heard refl);
      only = λ o c. one (only_orders heard 2 1 7 6 (omega arith) (omega arith) (λ q. omega arith) session_heard o c);
      first = record {
        plain = refl;
        view = shows session_counts session_steps session_good session_stepped 0 LAST (at 7 (Some 501))
            (sym session_first);
      };
      second = record {
        plain = refl;
        view = shows session_counts session_steps session_good session_stepped 1 LAST (at 0 None)
            (sym session_second);
      };
    }
  where
    heard : History Val
    heard = heard_of session_counts session_steps

    one : {o : Seq ℕ} → ((o ≡ ε ▸ 2 ▸ 1) × (7 ≤ 6)) ⊎ ((o ≡ ε ▸ 1 ▸ 2) × (6 ≤ 7)) → o ≡ ε ▸ 1 ▸ 2
    one (inl (q, h)) = absurd (omega (arith, h))
    one (inr (q, h)) = q

equal_stepped : AllStepped (formatted_words equal_counts) equal_steps
unfolding opened readable equal_steps
equal_stepped =
    (refl, refl, refl, refl)
    ⨾ (refl, refl, refl, refl)
    ⨾ (refl, refl, refl, refl)
    ⨾ (refl, refl, refl, refl)
    ⨾ (refl, refl, refl, refl)
    ⨾ (refl, refl, refl, refl)
    ⨾ (refl, refl, refl, refl)
    ⨾ (refl, refl, refl, refl)
    ⨾ (refl, refl, refl, refl)
    ⨾ (refl, refl, refl, refl)
    ⨾ tt

equal_size : length (words_of equal_counts equal_steps) ≡ 73
unfolding readable equal_steps
equal_size = refl

equal_fits : size_of equal_counts ≡ 73
unfolding readable
equal_fits = refl

pub equal_on_words : EqualOnWords
unfolding readable equal_steps equal_calls
equal_on_words =
    record {
      calls = refl;
      words = record {
        size = equal_size;
        from = λ w n. steps_history equal_counts equal_steps w equal_good equal_stepped (n ∙ sym equal_fits);
      };
    }

equal_heard : commits_of (heard_of equal_counts equal_steps) ≡ ε ▸ (1, 5) ▸ (2, 5)
unfolding readable equal_steps
equal_heard = refl

abbrev equal_view : ℕ → Reply
equal_view r = (viewing r LAST (decode (lent (words_of equal_counts equal_steps)))).reply

equal_views : (equal_view 0 ≡ at 0 None) × (equal_view 1 ≡ at 5 (Some 10)) × (equal_view 2 ≡ at 5 (Some 20))
unfolding opened readable equal_steps
equal_views = (refl, refl, refl)

equal_in : (o : Seq ℕ) → CommitOrder (heard_of equal_counts equal_steps) o
    → plain_end (heard_of equal_counts equal_steps) o 0 ≡ none
    → plain_end (heard_of equal_counts equal_steps) o 1 ≡ some 10
    → plain_end (heard_of equal_counts equal_steps) o 2 ≡ some 20
    → EqualIn o
equal_in o order a b c =
    record {
      serial = serial_in equal_counts equal_steps equal_on_words.words o order;
      first = record {
        plain = a;
        view = shows equal_counts equal_steps equal_good equal_stepped 0 LAST (at 0 None) (sym equal_views.0);
      };
      second = record {
        plain = b;
        view = shows equal_counts equal_steps equal_good equal_stepped 1 LAST (at 5 (Some 10))
            (sym equal_views.1);
      };
      third = record {
        plain = c;
        view = shows equal_counts equal_steps equal_good equal_stepped 2 LAST (at 5 (Some 20))
            (sym equal_views.2);
      };
    }

pub equal_words_serial : EqualWordsSerial
unfolding readable equal_steps
equal_words_serial =
    record {
      commits = equal_heard;
      as_begun =
          equal_in (ε ▸ 1 ▸ 2)
          (in_order heard (ε ▸ (1, 5) ▸ (2, 5)) (ε ▸ (1, 5) ▸ (2, 5)) equal_heard refl) refl refl refl;
      reversed =
          equal_in (ε ▸ 2 ▸ 1)
          (in_order heard (ε ▸ (1, 5) ▸ (2, 5)) (ε ▸ (2, 5) ▸ (1, 5)) equal_heard refl) refl refl refl;
      only = λ o c. two (only_orders heard 1 2 5 5 (omega arith) (omega arith) (λ q. omega arith) equal_heard o c);
    }
  where
    heard : History Val
    heard = heard_of equal_counts equal_steps

    two : {o : Seq ℕ} → ((o ≡ ε ▸ 1 ▸ 2) × (5 ≤ 5)) ⊎ ((o ≡ ε ▸ 2 ▸ 1) × (5 ≤ 5)) → (o ≡ ε ▸ 1 ▸ 2) ⊎ (o ≡ ε ▸ 2 ▸ 1)
    two (inl (q, h)) = inl q
    two (inr (q, h)) = inr q
