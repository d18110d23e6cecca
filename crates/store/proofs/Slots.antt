-- Whether Begin would find a slot: its checks alone, on sound words. Rests on Acting and Checks of `calls`.
use Prim.Native.Nat.{ℕ}
use mathlib.Core.Path.{◌≡◌, sym, ap}
use mathlib.Core.Bool.{Bool, true}
use mathlib.Core.List.{List, []}
use Rattle.std.specs.Prelude.{Option, Result, Ok, Err}
use Rattle.std.specs.Option.{ok_or}
use Rattle.meaning.specs.Store.{Store}
use Rattle.types.specs.Replies.{ok, of_refusal}
use Rattle.types.specs.declared.Refusal.{Refusal}
use Rattle.types.specs.declared.Refusal.TheVariants.{NoSlot}
use Rattle.meaning.specs.Outcomes.{replies, pass, needs, unless}
use Rattle.meaning.specs.Edits.{begin_checks}
use Rattle.types.specs.declared.Counts.{Counts}
use Rattle.tables.specs.Layout.{counts_of}
use Rattle.tables.specs.Decode.{decode_at}
use Rattle.tables.specs.Words.{lent, sound_words}
use Rattle.lookups.specs.Slots.{first_free}
use Rattle.calls.proofs.Acting.{decode_at_lem}
use Rattle.calls.proofs.Checks.{free_out, free_refused}
use Rattle.store.specs.Promises.{Shows, may_begin}
use Rattle.store.proofs.Doing.{shows_sound}

-- the reply, by whether there is a slot
checked : (s : Store) {a b : Bool} → a ≡ b
    → (unless s (needs a 13 pass) (replies s ok)).reply ≡ (unless s (needs b 13 pass) (replies s ok)).reply
checked s e = ap (λ (x : Bool). (unless s (needs x 13 pass) (replies s ok)).reply) e

-- o is what the search for a slot answers, and q whether it found one
module _ (c : Counts) (w : List ℕ) (h : sound_words (lent w) ≡ true) (e : c ≡ counts_of w) {o : Option ℕ}
    {q : Result ℕ Refusal} (f : o ≡ first_free (decode_at c w)) (m : q ≡ ok_or o NoSlot) where
  pub no_slot : {x : Refusal} → q ≡ Err x → Shows may_begin w (of_refusal x)
  unfolding may_begin begin_checks
  no_slot z =
      let t = free_refused (decode_at c w) f m z in
      rw t.1 (shows_sound h (rw (decode_at_lem c w e) (sym (checked (decode_at c w) t.0))))

  pub a_slot : {k : ℕ} → q ≡ Ok k → Shows may_begin w ok
  unfolding may_begin begin_checks
  a_slot z =
      let t = free_out (decode_at c w) f m z in
      shows_sound h (rw (decode_at_lem c w e) (sym (checked (decode_at c w) t.0)))
