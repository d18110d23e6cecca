-- The batch call by call: after i turns the first i calls are done, each with its own contract, and told. Rests on
-- Rows of `encoding` and on the lists of calls of `history`.
use Prim.Native.Nat.{ℕ, ◌+◌, ◌*◌, ◌≤◌, ◌<◌}
use mathlib.Core.Path.{◌≡◌, refl, sym, ap, ◌∙◌}
use mathlib.Core.Bool.{Bool, true, false}
use mathlib.Core.List.{List, [], ◌∷◌, ◌++◌}
use native.Mathlib.Omega.{arith}
use native.Mathlib.Numerals.{add-one}
use lib.ListN.{length}
use lib.Seq.{sets}
use Rattle.std.specs.Prelude.{Result}
use Rattle.types.specs.declared.Refusal.{Refusal}
use Rattle.types.specs.Replies.{Reply, refused}
use Rattle.meaning.specs.Calls.{act}
use Rattle.types.specs.declared.Call.{Call}
use Rattle.meaning.specs.Contract as contract
use Rattle.tables.specs.Words.{Lent, lent, decode, sound_words}
use Rattle.history.specs.Words.{Calls, done, then}
use Rattle.store.specs.Promises.{Does, sound_or_refused}
use Rattle.encoding.specs.Encoding.{CALL_WORDS, NUMBERS, REPLY_WORDS, call_at, calls_of, row_of}
use Rattle.batch.specs.Runs.{Steps, Runs, fitting}
use Rattle.encoding.proofs.Rows.{Told, told_none, told_more}

-- the list of calls grows at its end
calls_more : (c : Call) {w w₁ w₂ : Lent} {q : Reply} {cs : List Call} {qs : List Reply}
    → Calls Lent decode sound_words w cs qs w₁ → contract.Does Lent decode sound_words (act c) w₁ w₂ q
    → Calls Lent decode sound_words w (cs ++ (c ∷ [])) (qs ++ (q ∷ [])) w₂
calls_more c done d = then d done
calls_more c (then e more) d = then e (calls_more c more d)

-- a call leaves the words as sound as they were, so that one verdict serves all
still : (c : Call) {w w' : List ℕ} {q : Reply} → Does (act c) w w' q → sound_words (lent w') ≡ sound_words (lent w)
still c {w} {w'} d = go (sound_words (lent w)) refl
  where
    go : (b : Bool) → sound_words (lent w) ≡ b → sound_words (lent w') ≡ sound_words (lent w)
    go true s = d.stays s ∙ sym s
    go false s = ap sound_words (d.unchanged (ap refused (d.unsound s)))

verdict_of : (w w' : List ℕ) → sound_words (lent w') ≡ sound_words (lent w)
    → sound_or_refused w ≡ sound_or_refused w'
unfolding sound_or_refused
verdict_of w w' e = rw e refl

-- a step is the answer to call i, put at row i
pub stepped : {list : List ℕ} {i : ℕ} {call : Call} {q : Reply} {w w' row area area' : List ℕ} → call ≡ call_at list i
    → Does (act call) w w' q → row ≡ row_of NUMBERS q → area' ≡ sets area (i * REPLY_WORDS) row
    → Steps list i w w' area area'
stepped {i = i} {q = q} {area = area} e d t p =
    record {
      reply = q;
      does = rw e at d;
      told = p ∙ ap (sets area (i * REPLY_WORDS)) t;
    }

pub record Running (list w₀ area₀ : List ℕ) (n i : ℕ) (w area : List ℕ) : Type 0 where
  pub upto : i ≤ n
  pub fits : n ≡ fitting list area₀
  pub sound : sound_words (lent w) ≡ sound_words (lent w₀)
  pub size : length w ≡ length w₀
  pub replies : List Reply
  pub calls : Calls Lent decode sound_words (lent w₀) (calls_of list i) replies (lent w)
  pub told : Told NUMBERS area₀ i replies area

pub run_start : {list w area : List ℕ} {n : ℕ} → n ≡ fitting list area → Running list w area n 0 w area
run_start {area = area} e =
    record {
      upto = omega arith;
      fits = e;
      sound = refl;
      size = refl;
      replies = [];
      calls = done;
      told = told_none NUMBERS area;
    }

-- a call that is to be done, and its reply, have their words
module _ {list w₀ area₀ : List ℕ} {n i : ℕ} {w area : List ℕ} (r : Running list w₀ area₀ n i w area) (h : i < n) where
  pub call_fits : (i + 1) * CALL_WORDS ≤ length list
  call_fits = omega (arith, r.fits)

  pub row_fits : (i + 1) * REPLY_WORDS ≤ length area₀
  row_fits = omega (arith, r.fits)

  pub reply_fits : (i + 1) * REPLY_WORDS ≤ length area
  reply_fits = omega (arith, row_fits, r.told.size)

  -- the verdict that the words had at first
  pub verdict_now : {checked : Result (Unit {0}) Refusal} → checked ≡ sound_or_refused w₀ → checked ≡ sound_or_refused w
  verdict_now e = e ∙ verdict_of w₀ w r.sound

pub run_again : {list w₀ area₀ : List ℕ} {n i : ℕ} {w area w' area' : List ℕ}
    → Running list w₀ area₀ n i w area → i < n → length w' ≡ length w → Steps list i w w' area area'
    → Running list w₀ area₀ n (i + 1) w' area'
run_again {list} {w₀} {area₀} {n} {i} {w} {area} {w'} r h l s =
    record {
      upto = omega arith;
      fits = r.fits;
      sound = still (call_at list i) s.does ∙ r.sound;
      size = l ∙ r.size;
      replies = r.replies ++ (s.reply ∷ []);
      calls = rw add-one (calls_more (call_at list i) r.calls s.does);
      told =
          told_more NUMBERS area₀ i r.replies area r.told s.reply
          (row_fits r h)
          s.told;
    }

pub run_done : {list w₀ area₀ : List ℕ} {n i : ℕ} {w area : List ℕ}
    → Running list w₀ area₀ n i w area → n ≤ i → Runs list w₀ w area₀ area n
run_done {list} {w₀} {area₀} {n} {i} {w} r h =
    let e : i ≡ n = omega (arith, r.upto) in
    record {
      count = r.fits;
      replies = r.replies;
      calls = rw e at r.calls;
      told = rw e at r.told.rows;
    }
