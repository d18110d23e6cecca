-- A call of any kind is the call of its kind. Rests on Verdicts of `meaning`.
use Rattle.std.specs.Prelude.{Result, Ok, Err}
use Prim.Native.Nat.{ℕ}
use mathlib.Core.Path.{◌≡◌, refl, sym, ◌∙◌}
use mathlib.Core.List.{List}
use Rattle.meaning.specs.Store.{Store}
use Rattle.types.specs.Replies.{Reply, of_result, of_answer}
use Rattle.types.specs.declared.Refusal.{Refusal}
use Rattle.types.specs.declared.Granted.{Granted}
use Rattle.meaning.specs.Outcomes.{Outcome}
use Rattle.meaning.specs.Records.{viewing}
use Rattle.meaning.specs.Calls.{act}
use Rattle.types.specs.declared.Call.{Call}
use Rattle.meaning.proofs.Verdicts.{view_same}
use Rattle.store.specs.Promises.{Does, Shows}

-- the same outcome of every store
pub does_same : {f g : Store → Outcome} {w w' : List ℕ} {r : Reply} → ((s : Store) → f s ≡ g s) → Does g w w' r
    → Does f w w' r
does_same e d =
    record {
      unsound = d.unsound;
      reply = λ h. d.reply h ∙ sym (rw e);
      store = λ h. d.store h ∙ sym (rw e);
      stays = d.stays;
      unchanged = d.unchanged;
    }

-- the call that was matched
does_matched : {c d : Call} {w w' : List ℕ} {r : Reply} → c ≡ d → Does (act d) w w' r → Does (act c) w w' r
does_matched e x = rw e x

pub shows_does : (r p : ℕ) {w : List ℕ} {q : Reply} → Shows (viewing r p) w q → Does (viewing r p) w w q
shows_does r p v =
    record {
      unsound = v.unsound;
      reply = v.reply;
      store = λ h. sym (view_same r p _);
      stays = λ h. h;
      unchanged = λ h. refl;
    }

-- a call that was matched, by its own function's promise, where that granted it and where it refused
module _ {c d : Call} (m : c ≡ d) {f : Store → Outcome} (e : (s : Store) → act d s ≡ f s)
    {A : Type 0} (given : A → Reply)
    {w w' : List ℕ} {q : Result A Refusal} (p : Does f w w' (of_result given q)) where
  pub granted : {x : A} → q ≡ Ok x → Does (act c) w w' (given x)
  granted h = does_matched m (does_same e (rw h at p))

  pub refused_by : {x : Refusal} {a : Result Granted Refusal} → q ≡ Err x → a ≡ Err x → Does (act c) w w' (of_answer a)
  refused_by h k = rw k (does_matched m (does_same e (rw h at p)))
