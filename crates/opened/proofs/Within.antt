-- A call in a session: from what the call acts on sound words and what `note` keeps of the index. Rests on Doing and
-- Performing of `store`.
use Rattle.std.specs.Prelude.{Result, Ok, Err}
use Prim.Native.Nat.{ℕ}
use mathlib.Core.Path.{◌≡◌, refl, sym, ap, ◌∙◌}
use mathlib.Core.Bool.{true, false}
use mathlib.Core.List.{List, []}
use native.Mathlib.Omega.{arith}
use Rattle.types.specs.Replies.{Reply, ok, refusing, of_result, of_answer}
use Rattle.types.specs.declared.Refusal.{Refusal}
use Rattle.types.specs.declared.Granted.{Granted}
use Rattle.types.specs.declared.Call.{Call}
use Rattle.meaning.specs.Store.{Store}
use Rattle.meaning.specs.Outcomes.{Outcome}
use Rattle.meaning.specs.Calls.{act}
use Rattle.meaning.specs.Records.{viewing}
use Rattle.meaning.specs.Sound.{sound_store}
use Rattle.meaning.proofs.Lists.{and_right}
use Rattle.tables.specs.Words.{lent, decode, formed, sound_words}
use Rattle.calls.specs.Contract.{Acts}
use Rattle.index.specs.Index.{Notes, RightOfAll}
use Rattle.store.specs.Promises.{Shows}
use Rattle.store.proofs.Doing.{does_sound}
use Rattle.store.proofs.Performing.{does_same, shows_does}
use Rattle.opened.specs.Opened.{Opened, Opens, Within}

pub opens : {w ix ix' : List ℕ} → sound_words (lent w) ≡ true → RightOfAll ix' → Opens w ix ix' ok
opens {w} h f =
    record {
      verdict = rw h refl;
      opened = λ e. record { sound = h; index = f (decode (lent w)) };
      stays = λ e. let z : ◌≡◌ {A = ℕ} 0 1 = cc in absurd (omega arith);
    }

pub opens_not : {w ix : List ℕ} → sound_words (lent w) ≡ false → Opens w ix ix (refusing 1 [])
opens_not h =
    record {
      verdict = rw h refl;
      opened = λ e. let z : ◌≡◌ {A = ℕ} 0 1 = cc in absurd (omega arith);
      stays = λ e. refl;
    }

module _ {w w' ix' : List ℕ} {r : Reply} where
  pub within : {ix : List ℕ} (call : Call) {f : Store → Outcome} → ((s : Store) → act call s ≡ f s) → Opened w ix
      → Acts f (lent w) (lent w') r → Notes call r ix ix' → Within f w w' ix' r
  unfolding sound_words
  within call e O A N =
      record {
        does = does_sound O.sound A;
        opened =
            record {
              sound = A.stays;
              index =
                  rw (A.store, ← e (decode (lent w)))
                  (N.keeps (decode (lent w)) (and_right (formed w) (sound_store (decode (lent w))) O.sound)
                  (A.reply ∙ ap (λ o. o.reply) (sym (e (decode (lent w))))) O.index);
            };
      }

matched : {c d : Call} → c ≡ d → {f : Store → Outcome} → ((s : Store) → act d s ≡ f s) → {w w' ix' : List ℕ}
    {r : Reply} → Within f w w' ix' r → Within (act c) w w' ix' r
matched m e W = rw m (record { does = does_same e W.does; opened = W.opened })

-- a call that was matched, by its own function's promise, where that granted it and where it refused
module _ {c d : Call} (m : c ≡ d) {f : Store → Outcome} (e : (s : Store) → act d s ≡ f s) {A : Type 0}
    (given : A → Reply) {w w' ix' : List ℕ} {q : Result A Refusal} (p : Within f w w' ix' (of_result given q)) where
  pub granted : {x : A} → q ≡ Ok x → Within (act c) w w' ix' (given x)
  granted h = matched m e (rw h at p)

  pub refused_by : {x : Refusal} {a : Result Granted Refusal} → q ≡ Err x → a ≡ Err x
      → Within (act c) w w' ix' (of_answer a)
  refused_by h k = rw k (matched m e (rw h at p))

-- a look changes neither words nor index
pub view_within : (rec p : ℕ) {w ix : List ℕ} {r : Reply} → Opened w ix → Shows (viewing rec p) w r
    → Within (viewing rec p) w w ix r
view_within rec p O S = record { does = shows_does rec p S; opened = O }
