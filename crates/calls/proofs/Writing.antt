-- What Write has done at each of its returns. Rests on Acting, Exits, Handles and CallsKeep of `meaning`.
use Rattle.std.specs.Prelude.{Result, Err}
use Prim.Native.Nat.{ℕ}
use mathlib.Core.Path.{◌≡◌, refl, sym, ap, ◌∙◌}
use mathlib.Core.Bool.{true, false}
use mathlib.Core.List.{List, []}
use lib.Dec.{ltb}
use Rattle.chains.specs.Walk.{IsRow}
use Rattle.meaning.specs.Store.{Edit, edit_at, access_of}
use Rattle.types.specs.Numbers.{slot_of}
use Rattle.types.specs.Values.{Val}
use Rattle.types.specs.Replies.{Reply, ok, refusing, number, details, of_refusal}
use Rattle.types.specs.declared.Refusal.{Refusal}
use Rattle.types.specs.declared.Refusal.TheVariants.{NoRecord}
use Rattle.calls.specs.Checks.{open_slot}
use Rattle.meaning.specs.Outcomes.{replies, knows, is_open, access_room}
use Rattle.meaning.specs.Edits.{with_access, written, writing}
use Rattle.types.specs.declared.Access.{Access}
use Rattle.types.specs.declared.Counts.{Counts}
use Rattle.meaning.proofs.CallsKeep.{write_keeps}
use Rattle.tables.specs.Layout.{counts_of}
use Rattle.tables.specs.Decode.{slot_at, decode_at}
use Rattle.tables.specs.Words.{lent, sound_words}
use Rattle.tables.proofs.Decoded.{edit_at_lem}
use Rattle.changes.specs.Becomes.{Becomes, on_edit}
use Rattle.calls.specs.Contract.{Acts, Ready, Makes}
use Rattle.calls.specs.Parts.{write_open}
use Rattle.calls.proofs.Acting.{ready, makes_refused, makes_done, makes_as, acts}
use Rattle.calls.proofs.Handles.{has_record_is}
use Rattle.calls.proofs.Exits.{write_closed, write_no_record, write_passes, write_no_room}
use Rattle.calls.proofs.Exits.{write_done}
use Rattle.types.specs.declared.Pending.TheVariants.{Written}

module _ (c : Counts) (w : List ℕ) (hs : sound_words (lent w) ≡ true) (e : c ≡ counts_of w) (h r : ℕ) (v : Val) where
  refuses : (x : Refusal) → writing h r v (decode_at c w) ≡ replies (decode_at c w) (of_refusal x)
      → Acts (writing h r v) (lent w) (lent w) (of_refusal x)
  refuses x o =
      acts (writing h r v) (write_keeps h r v) c w w (of_refusal x) hs e
      (makes_refused c w (writing h r v (decode_at c w)) (number x) (details x) (ready w hs c e).well o)

  pub wrote_closed : {q : Result ℕ Refusal} {x : Refusal} → q ≡ open_slot (decode_at c w) h → q ≡ Err x
      → Acts (writing h r v) (lent w) (lent w) (of_refusal x)
  wrote_closed {q} {x} m f = refuses x (write_closed (decode_at c w) h r v m f)

  pub wrote_no_record : knows (decode_at c w) h ≡ true → is_open (decode_at c w) h ≡ true → ltb r c.records ≡ false
      → Acts (writing h r v) (lent w) (lent w) (refusing 5 [])
  wrote_no_record k o t = refuses NoRecord (write_no_record (decode_at c w) h r v k o (sym (has_record_is c w r) ∙ t))

  pub wrote : knows (decode_at c w) h ≡ true → is_open (decode_at c w) h ≡ true → ltb r c.records ≡ true
      → (w' : List ℕ) (x : Reply) (j : ℕ) → j ≡ slot_of h → Makes c (write_open (decode_at c w) j r v) w w' x
      → Acts (writing h r v) (lent w) (lent w') x
  wrote k o t w' x j i M =
      acts (writing h r v) (write_keeps h r v) c w w' x hs e
      (makes_as c w (write_passes (decode_at c w) h r v k o (sym (has_record_is c w r) ∙ t)
      ∙ ap (λ (y : ℕ). write_open (decode_at c w) y r v) (sym i)) M)

-- by the open edit of slot k
module _ (c : Counts) (w : List ℕ) (R : Ready c w) (k r : ℕ) (v : Val) where
  pub open_no_room : access_room (decode_at c w) k r ≡ false
      → Makes c (write_open (decode_at c w) k r v) w w (refusing 10 [])
  open_no_room e =
      makes_refused c w (write_open (decode_at c w) k r v) 10 [] R.well (write_no_room (decode_at c w) k r v e)

  pub open_wrote : IsRow c.edits k → access_room (decode_at c w) k r ≡ true → (a : Access)
      → a ≡ access_of (slot_at c w k) r → (w' : List ℕ)
      → Becomes c w'
      (on_edit (decode_at c w) k (λ x. with_access x (record { rec = r; from = a.from; value = Written v })))
      → Makes c (write_open (decode_at c w) k r v) w w' ok
  unfolding written
  open_wrote i e a f w' B =
      let from : a.from ≡ (access_of (edit_at (decode_at c w) k) r).from =
      ap (λ (x : Access). x.from) (f ∙ ap (λ (x : Edit). access_of x r) (sym (edit_at_lem c w k i))) in
      makes_done c w (write_open (decode_at c w) k r v) w' (written (decode_at c w) k r v) ok B.well
      (B.means ∙ ap
      (λ (x : ℕ). on_edit (decode_at c w) k
      (λ y. with_access y (record { rec = r; from = x; value = Written v })))
      from)
      (write_done (decode_at c w) k r v e) refl
