-- Settling a slot: its locks go, a committed edit's accesses leave settled locks, and the slot is freed. Rests on
-- Leaving.
use Prim.Native.Nat.{ℕ}
use native.Mathlib.Omega.{arith}
use mathlib.Core.Path.{◌≡◌, refl, sym, ap, ◌∙◌}
use mathlib.Core.Bool.{Bool, true, false, cond}
use mathlib.Core.List.{List, [], ◌∷◌}
use lib.Dec.{eqb}
use lib.ListN.{length}
use borrow.Author.Tests.{eqb-true, eqb-false, ne_eqb}
use Rattle.chains.specs.Walk.{IsRow}
use Rattle.types.specs.Limits.{COMMITTED}
use Rattle.types.specs.declared.Access.{Access}
use Rattle.types.specs.declared.Counts.{Counts}
use Rattle.meaning.specs.Store.{Rec, Edit, Store, edit_of, edit_at, in_use, with_edit, with_records}
use Rattle.meaning.specs.Ending.{freed, settled}
use Rattle.meaning.proofs.Stores.{used_out, used_range}
use Rattle.meaning.proofs.SoundParts.{sound_out}
use Rattle.tables.specs.Decode.{slot_at, decode_at}
use Rattle.tables.proofs.Decoded.{edit_at_lem, decoded_edits, edits_length}
use Rattle.tables.specs.Words.{Well}
use Rattle.changes.specs.Becomes.{Becomes, on_edit}
use Rattle.calls.specs.Contract.{Ready}
use Rattle.endings.specs.Steps.{changed, along, left_rec, left_by, freed_all, LeaveNeed}
use Rattle.endings.proofs.Leaving.{settled_aborted, settled_committed, leave_start}

-- the edits stay as they are until the slot is freed
along_edits : (g : Access → Rec → Rec) (acc : List Access) (s : Store) → (along g acc s).edits ≡ s.edits
unfolding along changed with_records
along_edits g [] s = refl
along_edits g (a ∷ acc) s = along_edits g acc (changed g a s)

freed_edits : (k : ℕ) (s : Store) → (freed_all k s).edits ≡ s.edits
unfolding freed_all with_records
freed_edits k s = refl

pub slot_in_use : (c : Counts) (w : List ℕ) (k : ℕ) → in_use (decode_at c w).edits k ≡ true → IsRow c.edits k
slot_in_use c w k u =
    let q = used_range (decode_at c w).edits k (used_out (decode_at c w).edits k u) in
    let n : length (decode_at c w).edits ≡ c.edits = rw decoded_edits (edits_length c w) in
    record { low = q.from; high = omega (arith, q.upto) }

-- a committed edit leaves settled locks, an aborted one nothing
module _ (c : Counts) (w : List ℕ) (k state t : ℕ) where
  pub left_ended : {w₁ : List ℕ} → state ≡ COMMITTED
      → Becomes c w₁ (along (left_rec t) (edit_at (decode_at c w) k).accesses (decode_at c w))
      → Becomes c w₁ (left_by state t k (decode_at c w))
  unfolding left_by
  left_ended e B = rw e B

  pub left_aborted : (state ≡ COMMITTED → ⊥) → Well c w → Becomes c w (left_by state t k (decode_at c w))
  unfolding left_by
  left_aborted n W = rw (ne_eqb state COMMITTED n) (record { well = W; means = refl })

module _ (c : Counts) (w : List ℕ) (k : ℕ) (R : Ready c w) (u : in_use (decode_at c w).edits k ≡ true) where
  abbrev s : Store
  s = decode_at c w

  abbrev e : Edit
  e = edit_at s k

  module _ (state t : ℕ) (es : state ≡ (slot_at c w k).state) (et : t ≡ (slot_at c w k).point) (w₁ : List ℕ)
      (F : Becomes c w₁ (freed_all k s)) where
    state_is : state ≡ e.state
    state_is = es ∙ ap (λ (x : Edit). x.state) (sym (edit_at_lem c w k (slot_in_use c w k u)))

    point_is : t ≡ e.point
    point_is = et ∙ ap (λ (x : Edit). x.point) (sym (edit_at_lem c w k (slot_in_use c w k u)))

    edit_kept : edit_at (freed_all k s) k ≡ e
    edit_kept = ap (λ (x : List Edit). edit_of x k) (freed_edits k s)

    pub leave_needs : state ≡ COMMITTED → LeaveNeed (edit_at (decode_at c w₁) k).accesses (decode_at c w₁)
    leave_needs z = rw (F.means, edit_kept) (leave_start s k R.store (sym state_is ∙ z))

    -- the two ends
    module _ (w₂ w₃ : List ℕ) (L : Becomes c w₂ (left_by state t k (decode_at c w₁)))
        (D : Becomes c w₃ (on_edit (decode_at c w₂) k freed)) where
      left : decode_at c w₂ ≡ left_by state t k (freed_all k s)
      left = L.means ∙ ap (left_by state t k) F.means

      ends : (x : Store) → decode_at c w₂ ≡ x → edit_at x k ≡ e → settled s k ≡ with_edit x k (freed e)
          → decode_at c w₃ ≡ settled s k
      ends x p q z = D.means ∙ rw (p, q) (sym z)

      go : (b : Bool) → eqb state COMMITTED ≡ b
          → decode_at c w₂ ≡ cond b (along (left_rec t) (edit_at (freed_all k s) k).accesses (freed_all k s))
          (freed_all k s)
          → decode_at c w₃ ≡ settled s k
      go true q p =
          let z : e.state ≡ COMMITTED = sym state_is ∙ eqb-true state COMMITTED q in
          let y : decode_at c w₂ ≡ along (left_rec e.point) e.accesses (freed_all k s) =
          p ∙ rw (point_is, edit_kept) refl in
          ends (along (left_rec e.point) e.accesses (freed_all k s)) y
          (ap (λ (x : List Edit). edit_of x k)
          (along_edits (left_rec e.point) e.accesses (freed_all k s) ∙ freed_edits k s))
          (settled_committed s k (sound_out s R.store) z)
      go false q p =
          ends (freed_all k s) p edit_kept (settled_aborted s k (λ z. eqb-false state COMMITTED q (state_is ∙ z)))

      pub slot_settled : Becomes c w₃ (settled s k)
      unfolding left_by
      slot_settled = record { well = D.well; means = go (eqb state COMMITTED) refl left }
