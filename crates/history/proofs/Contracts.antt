-- Contracts from contracts: a call that only looks, and what the public function of each kind ensures (`ensures_does`),
-- give the premise of a call in a history; and the abstract store itself, lent as it is, has the contracts, so that
-- every list of calls is a history (`every_list_listed`). Rests on the laws of the crate meaning.
use Prim.Native.Nat.{ℕ}
use mathlib.Core.Path.{◌≡◌, refl, sym}
use mathlib.Core.Bool.{Bool, true}
use mathlib.Core.List.{List, [], ◌∷◌}
use Rattle.meaning.specs.Store.{Store, fresh}
use Rattle.types.specs.Replies.{Reply}
use Rattle.meaning.specs.Records.{viewing}
use Rattle.meaning.specs.Calls.{act, act_by, run, run_by, after, after_by}
use Rattle.meaning.specs.Sound.{sound_store}
use Rattle.types.specs.declared.Call.{Call}
use Rattle.types.specs.declared.Call.TheVariants as C
use Rattle.meaning.proofs.Lists.{not_both}
use Rattle.meaning.proofs.Laws.{fresh_is_sound, calls_keep_sound, refusal_changes_nothing}
use Rattle.meaning.specs.Contract.{Does, Shows}
use Rattle.meaning.proofs.Verdicts.{view_same}
use Rattle.history.specs.Words.{EnsuresDoes, Calls, done, then, EveryListListed}

module _ (Lent : Type 0) (decode : Lent → Store) (sound_lent : Lent → Bool) where
  pub view_does : (r p : ℕ) {w : Lent} {q : Reply} → Shows Lent decode sound_lent (viewing r p) w q
      → Does Lent decode sound_lent (viewing r p) w w q
  view_does r p {w} d =
      record {
        unsound = d.unsound;
        reply = d.reply;
        store = λ h. sym (view_same r p (decode w));
        stays = λ h. h;
        unchanged = λ h. refl;
      }

  pub ensures_does : EnsuresDoes Lent decode sound_lent
  unfolding act_by
  ensures_does C.Begin w w' q d = d
  ensures_does (C.Write h r v) w w' q d = d
  ensures_does (C.Lock h r low high e) w w' q d = d
  ensures_does (C.Read h r m e) w w' q d = d
  ensures_does (C.Commit h pick f) w w' q d = d
  ensures_does (C.Abort h f) w w' q d = d
  ensures_does (C.Settle h) w w' q d = d
  ensures_does (C.Purge r b) w w' q d = d
  ensures_does (C.View r p) w w' q (s, e) = rw e (view_does r p.0 s)

-- the abstract store, lent as it is
pub does_act : (c : Call) (s : Store) → sound_store s ≡ true
    → Does Store (λ t. t) sound_store (act c) s (act c s).store (act c s).reply
does_act c s h =
    record {
      unsound = λ q. absurd (not_both h q);
      reply = λ q. refl;
      store = λ q. refl;
      stays = λ q. calls_keep_sound c s h;
      unchanged = λ q. refusal_changes_nothing c s q;
    }

calls_are : (cs : List Call) (s : Store) → sound_store s ≡ true
    → Calls Store (λ t. t) sound_store s cs (run cs s) (after cs s)
unfolding run_by after_by
calls_are [] s h = done
calls_are (c ∷ cs) s h = then (does_act c s h) (calls_are cs (act c s).store (calls_keep_sound c s h))

pub every_list_listed : EveryListListed
every_list_listed counts cs g =
    let h = fresh_is_sound counts g in
    record {
      start = fresh counts;
      format = record { good = g; stays = h; store = refl };
      calls = calls_are cs (fresh counts) h;
    }
