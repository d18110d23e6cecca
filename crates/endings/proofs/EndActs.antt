-- Abort and Settle meet their contracts: one law for each return, from what the code has asked and made on the way.
-- Rests on EndExits and on Acting of `calls`.
use Rattle.std.specs.Prelude.{Result, Err}
use Prim.Native.Nat.{ℕ}
use mathlib.Core.Path.{◌≡◌, refl}
use mathlib.Core.Bool.{true, false}
use mathlib.Core.List.{List, []}
use Rattle.types.specs.Limits.{OPEN}
use Rattle.types.specs.declared.Counts.{Counts}
use Rattle.types.specs.declared.Finish.{Finish}
use Rattle.meaning.specs.Store.{Store, edit_at, in_use}
use Rattle.types.specs.Numbers.{slot_of}
use Rattle.types.specs.Replies.{Reply, ok, refused, refusing, number, details, of_refusal}
use Rattle.types.specs.declared.Refusal.{Refusal}
use Rattle.types.specs.declared.Refusal.TheVariants.{NoEdit, EditOpen}
use Rattle.calls.specs.Checks.{open_slot}
use Rattle.meaning.specs.Outcomes.{Outcome, replies, knows, is_open}
use Rattle.meaning.specs.Ending.{finished, aborted, settled, aborting, settling}
use Rattle.meaning.specs.Sound.{sound_store}
use Rattle.meaning.proofs.Verdicts.{knows_out, is_open_out}
use Rattle.meaning.proofs.EndingSound.{abort_keeps, settle_keeps}
use Rattle.tables.specs.Layout.{counts_of}
use Rattle.tables.specs.Decode.{decode_at}
use Rattle.tables.specs.Words.{lent, sound_words}
use Rattle.changes.specs.Becomes.{Becomes}
use Rattle.calls.specs.Contract.{Acts, Ready}
use Rattle.calls.proofs.Acting.{ready, makes_refused, makes_done, acts}
use Rattle.endings.proofs.EndExits

-- any call: a refusal, and a reply that is none
module _ (call : Store → Outcome) (keeps : (s : Store) → sound_store s ≡ true → sound_store (call s).store ≡ true)
    (w : List ℕ) (c : Counts) (P : sound_words (lent w) ≡ true) (E : c ≡ counts_of w) where
  pub acts_refused : (x : Refusal) → call (decode_at c w) ≡ replies (decode_at c w) (of_refusal x)
      → Acts call (lent w) (lent w) (of_refusal x)
  acts_refused x e =
      acts call keeps c w w (of_refusal x) P E
      (makes_refused c w (call (decode_at c w)) (number x) (details x) (ready w P c E).well e)

  pub acts_done : (w' : List ℕ) (s : Store) (r : Reply) → Becomes c w' s → call (decode_at c w) ≡ replies s r
      → refused r ≡ false → Acts call (lent w) (lent w') r
  acts_done w' s r B e f =
      acts call keeps c w w' r P E (makes_done c w (call (decode_at c w)) w' s r B.well B.means e f)

module _ (w : List ℕ) (c : Counts) (P : sound_words (lent w) ≡ true) (E : c ≡ counts_of w) (h : ℕ) where
  abbrev s : Store
  s = decode_at c w

  pub settle_refused : knows s h ≡ false → Acts (settling h) (lent w) (lent w) (refusing 2 [])
  settle_refused e = acts_refused (settling h) (settle_keeps h) w c P E NoEdit (EndExits.settle_no_edit s h e)

  pub abort_refused : (f : Finish) {q : Result ℕ Refusal} {x : Refusal} → q ≡ open_slot s h → q ≡ Err x
      → Acts (aborting h f) (lent w) (lent w) (of_refusal x)
  abort_refused f {q} {x} m e = acts_refused (aborting h f) (abort_keeps h f) w c P E x
      (EndExits.abort_closed s h f m e)

  module _ (known : knows s h ≡ true) where
    pub settle_still_open : is_open s h ≡ true → Acts (settling h) (lent w) (lent w) (refusing 4 [])
    settle_still_open e = acts_refused (settling h) (settle_keeps h) w c P E EditOpen (EndExits.settle_open s h known e)

    pub settle_needs : (k : ℕ) → k ≡ slot_of h → Ready c w × (in_use s.edits k ≡ true)
    settle_needs k e = (ready w P c E, rw e (knows_out s h known).in_use_lem)

    pub settle_acts : is_open s h ≡ false → (k : ℕ) → k ≡ slot_of h → (w' : List ℕ) → Becomes c w' (settled s k)
        → Acts (settling h) (lent w) (lent w') ok
    settle_acts e k q w' B =
        acts_done (settling h) (settle_keeps h) w c P E w' (settled s (slot_of h)) ok (rw q at B)
        (EndExits.settle_done s h known e) refl

    pub open_needs : is_open s h ≡ true → (k : ℕ) → k ≡ slot_of h → Ready c w × ((edit_at s k).state ≡ OPEN)
    open_needs e k q = (ready w P c E, rw q (is_open_out s h e))

    pub abort_acts : (f : Finish) → is_open s h ≡ true → (k : ℕ) → k ≡ slot_of h → (w' : List ℕ)
        → Becomes c w' (finished f (aborted s k) k) → Acts (aborting h f) (lent w) (lent w') ok
    abort_acts f e k q w' B =
        acts_done (aborting h f) (abort_keeps h f) w c P E w' (finished f (aborted s (slot_of h)) (slot_of h)) ok
        (rw q at B) (EndExits.abort_done s h f known e) refl
