-- The handle of a slot, and the record and slot that a call names, by the counts. Rests on Acting.
use Prim.Native.Nat.{ℕ, zero, suc, ◌≤◌, ◌<◌}
use mathlib.Core.Path.{◌≡◌, refl, sym, ap, ◌∙◌}
use mathlib.Core.Bool.{true}
use mathlib.Core.List.{List}
use native.Mathlib.Omega.{arith}
use lib.Dec.{ltb}
use borrow.Author.Tests.{ltb-true}
use Rattle.types.specs.Limits.{GENERATIONS}
use Rattle.meaning.specs.Store.{Edit, edit_of, edit_at}
use Rattle.types.specs.Numbers.{handle}
use Rattle.meaning.specs.Outcomes.{handle_at, has_record}
use Rattle.types.specs.declared.Counts.{Counts}
use Rattle.meaning.proofs.Stores.{edit_past}
use Rattle.tables.specs.Decode.{slot_at, decode_at}
use Rattle.tables.proofs.Decoded.{edit_at_lem}
use Rattle.calls.proofs.Acting.{slots_counted, records_counted}

-- the record that a call names, once it is known to be there
pub row_there : (n r : ℕ) → ltb r n ≡ true → r < n
row_there n r e = ltb-true r n e

module _ (c : Counts) (w : List ℕ) where
  pub has_record_is : (r : ℕ) → ltb r c.records ≡ has_record (decode_at c w) r
  unfolding has_record
  has_record_is r = ap (ltb r) (sym (records_counted c w))

  -- slot 0, a slot past the end, and a slot
  pub handle_none : (k : ℕ) → k < 1 → handle 0 k ≡ handle_at (decode_at c w) k
  unfolding edit_of
  handle_none zero l = refl
  handle_none (suc i) l = absurd (omega arith)

  pub handle_past : (k : ℕ) → c.edits < k → handle 0 k ≡ handle_at (decode_at c w) k
  handle_past k l =
      let n = slots_counted c w in
      ap (λ (e : Edit). handle e.generation k) (sym (edit_past (decode_at c w).edits k (omega arith)))

  module _ (k g : ℕ) (low : 1 ≤ k) (high : k ≤ c.edits) (e : g ≡ (slot_at c w k).generation) where
    slot_here : edit_at (decode_at c w) k ≡ slot_at c w k
    slot_here = edit_at_lem c w k (record { low = low; high = high })

    pub handle_here : handle g k ≡ handle_at (decode_at c w) k
    handle_here = ap (λ (x : ℕ). handle x k) (e ∙ ap (λ (x : Edit). x.generation) (sym slot_here))

    pub generation_here : (edit_at (decode_at c w) k).generation < GENERATIONS → g < GENERATIONS
    generation_here l = let f = ap (λ (x : Edit). x.generation) slot_here in omega arith
