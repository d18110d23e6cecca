-- From a call on sound words to the public call: what it acts it does, and unsound words are refused with 1. Rests on
-- the contract records and on Checks of `calls`.
use Rattle.std.specs.Prelude.{Result, Ok, Err}
use Prim.Native.Nat.{ℕ}
use mathlib.Core.Path.{◌≡◌, refl, sym, ◌∙◌}
use mathlib.Core.Bool.{Bool, true, false, false≢true, cond}
use mathlib.Core.List.{List, []}
use Rattle.meaning.specs.Store.{Store}
use Rattle.types.specs.Replies.{Reply, refusing, of_refusal}
use Rattle.types.specs.declared.Refusal.{Refusal}
use Rattle.types.specs.declared.Refusal.TheVariants.{Unsound}
use Rattle.meaning.specs.Outcomes.{Outcome}
use Rattle.tables.specs.Words.{lent, decode, sound_words}
use Rattle.calls.specs.Contract.{Acts}
use Rattle.calls.proofs.Checks.{ok_not_err}
use Rattle.store.specs.Promises.{Does, Shows, sound_or_refused}

never : {b : Bool} {A : Type 0} → b ≡ true → b ≡ false → A
never p q = absurd (false≢true (sym q ∙ p))

pub does_sound : {call : Store → Outcome} {w w' : List ℕ} {r : Reply} → sound_words (lent w) ≡ true
    → Acts call (lent w) (lent w') r → Does call w w' r
does_sound s a =
    record {
      unsound = λ u. never s u;
      reply = λ h. a.reply;
      store = λ h. a.store;
      stays = λ h. a.stays;
      unchanged = a.unchanged;
    }

does_unsound : {call : Store → Outcome} {w : List ℕ} → sound_words (lent w) ≡ false → Does call w w (refusing 1 [])
does_unsound s =
    record {
      unsound = λ u. refl;
      reply = λ h. never h s;
      store = λ h. never h s;
      stays = λ h. h;
      unchanged = λ h. refl;
    }

pub shows_sound : {call : Store → Outcome} {w : List ℕ} {r : Reply} → sound_words (lent w) ≡ true
    → r ≡ (call (decode (lent w))).reply → Shows call w r
shows_sound s e = record { unsound = λ u. never s u; reply = λ h. e }

shows_unsound : {call : Store → Outcome} {w : List ℕ} → sound_words (lent w) ≡ false → Shows call w (refusing 1 [])
shows_unsound s = record { unsound = λ u. refl; reply = λ h. never h s }

-- the check before a call

abbrev Verdict : Type 0
Verdict = Result (Unit {0}) Refusal

by_check : (b : Bool) {x : Unit {0}} → ◌≡◌ {A = Verdict} (cond {A = Verdict} b (Ok tt) (Err Unsound)) (Ok x) → b ≡ true
by_check true e = refl
by_check false e = absurd (ok_not_err (sym e))

no_check : (b : Bool) (x : Refusal) → ◌≡◌ {A = Verdict} (cond {A = Verdict} b (Ok tt) (Err Unsound)) (Err x)
    → (b ≡ false) × (x ≡ Unsound)
no_check true x e = absurd (ok_not_err e)
no_check false x e = (refl, cc)

module _ (w : List ℕ) {q : Result (Unit {0}) Refusal} (m : q ≡ sound_or_refused w) where
  pub checked_sound : {x : Unit {0}} → q ≡ Ok x → sound_words (lent w) ≡ true
  unfolding sound_or_refused
  checked_sound e = by_check (sound_words (lent w)) (sym m ∙ e)

  pub checked_unsound : {x : Refusal} → q ≡ Err x → (sound_words (lent w) ≡ false) × (x ≡ Unsound)
  unfolding sound_or_refused
  checked_unsound {x} e = no_check (sound_words (lent w)) x (sym m ∙ e)

  pub does_refused : {call : Store → Outcome} {x : Refusal} → q ≡ Err x → Does call w w (of_refusal x)
  does_refused {call} e = let p = checked_unsound e in rw p.1 (does_unsound {call = call} p.0)

  pub shows_refused : {call : Store → Outcome} {x : Refusal} → q ≡ Err x → Shows call w (of_refusal x)
  shows_refused {call} e = let p = checked_unsound e in rw p.1 (shows_unsound {call = call} p.0)
