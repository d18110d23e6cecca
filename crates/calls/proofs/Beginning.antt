-- What Begin needs of sound words, and what it has done at each of its returns. Rests on Acting, Exits and CallsKeep of
-- `meaning`.
use Prim.Native.Nat.{ℕ, ◌≤◌, ◌<◌}
use mathlib.Core.Path.{◌≡◌, refl, ap, ◌∙◌}
use mathlib.Core.Bool.{true}
use mathlib.Core.List.{List, []}
use native.Mathlib.Omega.{arith}
use lib.ListN.{length}
use Rattle.chains.specs.Walk.{IsRow}
use Rattle.types.specs.Limits.{SLOTS, GENERATIONS}
use Rattle.meaning.specs.Store.{Edit, edit_at, with_edit}
use Rattle.types.specs.Numbers.{handle, next_generation}
use Rattle.types.specs.Replies.{edit, refusing, of_refusal}
use Rattle.types.specs.declared.Refusal.{Refusal}
use Rattle.types.specs.declared.Refusal.TheVariants.{NoSlot}
use Rattle.lookups.specs.Slots.{first_free}
use Rattle.std.specs.Prelude.{Option, Result, Ok, Err}
use Rattle.std.specs.Option.{ok_or}
use Rattle.calls.proofs.Checks.{free_out, free_refused}
use borrow.Author.Tests.{leb-true, leb-false}
use Rattle.meaning.specs.Outcomes.{replies, handle_at}
use Rattle.meaning.specs.Edits.{free_slot, opened_edit, begun, beginning}
use Rattle.types.specs.declared.Counts.{Counts}
use Rattle.meaning.proofs.Stores.{edit_same}
use Rattle.meaning.proofs.Granted.{free_found}
use Rattle.meaning.proofs.CallsKeep.{begin_keeps}
use Rattle.tables.specs.Layout.{counts_of}
use Rattle.tables.specs.Decode.{decode_at}
use Rattle.tables.specs.Words.{lent, sound_words, Well}
use Rattle.changes.specs.Becomes.{Becomes}
use Rattle.calls.specs.Contract.{Acts}
use Rattle.calls.proofs.Acting.{ready, facts, slots_counted, generation_fits, makes_refused, makes_done, acts}
use Rattle.calls.proofs.Exits.{begin_full, begin_done}

next_fits : (g : ℕ) → next_generation g < GENERATIONS
next_fits g = omega arith

module _ (c : Counts) (w : List ℕ) (h : sound_words (lent w) ≡ true) (e : c ≡ counts_of w) {o : Option ℕ}
    {q : Result ℕ Refusal} (found : o ≡ first_free (decode_at c w)) (m : q ≡ ok_or o NoSlot) where
  pub begin_refused : {x : Refusal} → q ≡ Err x → Acts beginning (lent w) (lent w) (of_refusal x)
  begin_refused z =
      let t = free_refused (decode_at c w) found m z in
      rw t.1 (acts beginning begin_keeps c w w (refusing 13 []) h e
      (makes_refused c w (beginning (decode_at c w)) 13 [] (ready w h c e).well
      (begin_full (decode_at c w) (leb-false (free_slot (decode_at c w)) (length (decode_at c w).edits) t.0))))

  module _ {k : ℕ} (z : q ≡ Ok k) where
    f : k ≡ free_slot (decode_at c w)
    f = (free_out (decode_at c w) found m z).1

    within : free_slot (decode_at c w) ≤ length (decode_at c w).edits
    within =
        leb-true (free_slot (decode_at c w)) (length (decode_at c w).edits) (free_out (decode_at c w) found m z).0

    begin_row : IsRow c.edits k
    begin_row =
        let r = (free_found (decode_at c w).edits within).range in let n = slots_counted c w in
        record { low = omega (arith, r.from, f); high = omega (arith, within, f) }

    begin_idle : (edit_at (decode_at c w) k).accesses ≡ []
    begin_idle = ((facts c w (ready w h c e)).edits k).idle (rw f (free_found (decode_at c w).edits within).free)

    pub begin_opens : Well c w × IsRow c.edits k × ((edit_at (decode_at c w) k).generation < GENERATIONS)
        × ((edit_at (decode_at c w) k).accesses ≡ [])
    begin_opens = ((ready w h c e).well, begin_row, generation_fits c w (ready w h c e) k, begin_idle)

    module _ (w' : List ℕ) (B : Becomes c w' (begun (decode_at c w) k)) where
      opened : edit_at (decode_at c w') k ≡ opened_edit (edit_at (decode_at c w) k)
      unfolding begun with_edit
      opened =
          let n = slots_counted c w in
          let i = begin_row in
          rw B.means (edit_same (decode_at c w).edits k (opened_edit (edit_at (decode_at c w) k))
          (record { from = i.low; upto = omega arith }))

      pub begin_asks : (k ≤ SLOTS) × ((edit_at (decode_at c w') k).generation < GENERATIONS)
      begin_asks = (
        omega (arith, (ready w h c e).well.fits.ranged.edits_high, begin_row.high),
        rw opened (next_fits (edit_at (decode_at c w) k).generation),
      )

      pub begin_acts : (x : ℕ) → x ≡ handle_at (decode_at c w') k → Acts beginning (lent w) (lent w') (edit x)
      begin_acts x g =
          let y : x ≡ handle (next_generation (edit_at (decode_at c w) k).generation) k =
          g ∙ ap (λ (z : Edit). handle z.generation k) opened in
          let o : beginning (decode_at c w) ≡ replies (begun (decode_at c w) k) (edit x) =
          begin_done (decode_at c w) within ∙ rw (y, f) in
          acts beginning begin_keeps c w w' (edit x) h e
          (makes_done c w (beginning (decode_at c w)) w' (begun (decode_at c w) k) (edit x) B.well B.means o refl)
