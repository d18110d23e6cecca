-- Slots by their number, as the code looks them up, and the write locks that back versions. Rests on Decoded of the
-- crate `tables`.
use Prim.Native.Nat.{ℕ, zero, suc, ◌≤◌}
use mathlib.Core.Path.{◌≡◌, refl, sym, ap, ◌∙◌}
use mathlib.Core.Bool.{Bool, false, not, ◌&&◌, and_assoc}
use mathlib.Core.List.{List}
use native.Mathlib.Omega.{arith}
use native.Mathlib.Decide.{dec_le}
use lib.Dec.{eqb}
use Rattle.std.specs.Prelude.{None, Some}
use Rattle.chains.specs.Walk.{IsRow}
use Rattle.types.specs.Limits.{FREE, COMMITTED}
use Rattle.meaning.specs.Store.{fresh_edit, edit_of, in_use, access_of}
use Rattle.meaning.specs.Sound.{wrote_at}
use Rattle.types.specs.declared.Counts.{Counts}
use Rattle.meaning.proofs.Lists.{get_d_past}
use Rattle.tables.specs.Decode.{slot_at, edits_of}
use Rattle.tables.specs.declared.views.Tables.{Tables}
use Rattle.tables.specs.declared.views.Slot.{Slot}
use Rattle.tables.specs.Views.{edit_in}
use Rattle.tables.proofs.Decoded.{edit_of_lem, edits_length}
use Rattle.clauses.specs.Views.{SlotOf, committed_at}
use Rattle.meaning.specs.Store.{has_written}

-- a slot that there is not reads as a fresh one
none_fresh : (c : Counts) (w : List ℕ) (k : ℕ) → (IsRow c.edits k → ⊥) → edit_of (edits_of c w) k ≡ fresh_edit
unfolding edit_of
none_fresh c w zero n = refl
none_fresh c w (suc i) n = go (dec_le (suc i) c.edits)
  where
    go : Dec (suc i ≤ c.edits) → edit_of (edits_of c w) (suc i) ≡ fresh_edit
    go (yes l) = absurd (n (record { low = omega arith; high = l }))
    go (no l) = get_d_past (edits_of c w) i fresh_edit (omega (arith, edits_length c w))

-- the slot with the number k, where the search answers none and where it answers s
module _ (t : Tables) (k : ℕ) where
  pub unused_none : SlotOf t k None → false ≡ in_use (edits_of t.counts t.words.now) k
  unfolding in_use
  unused_none d = rw (none_fresh t.counts t.words.now k d) refl

  pub uncommitted_none : (p : ℕ) → SlotOf t k None → false ≡ committed_at (edits_of t.counts t.words.now) k p
  uncommitted_none p d = rw (none_fresh t.counts t.words.now k d) refl

  module _ (s : Slot) (d : SlotOf t k (Some s)) where
    edit_is : edit_in s ≡ edit_of (edits_of t.counts t.words.now) k
    edit_is = rw (← d.0, ← d.1) (sym (edit_of_lem s.tables.counts s.tables.words.now s.number s.there))

    pub used_some : {q : ℕ} → q ≡ (edit_in s).state → not (eqb q FREE) ≡ in_use (edits_of t.counts t.words.now) k
    unfolding in_use
    used_some e = ap (λ x. not (eqb x FREE)) (e ∙ ap (λ y. y.state) edit_is)

    pub committed_some : {q r : ℕ} (p : ℕ) → q ≡ (edit_in s).state → r ≡ (edit_in s).point
        → (eqb q COMMITTED && eqb r p) ≡ committed_at (edits_of t.counts t.words.now) k p
    committed_some p e f = rw (e, f, edit_is) refl

-- b says whether slot k has committed at p, m whether it wrote record r, where there is a slot k
pub wrote_is : (c : Counts) (w : List ℕ) (k r p : ℕ) {b m : Bool} → b ≡ committed_at (edits_of c w) k p
    → (IsRow c.edits k → m ≡ (has_written (access_of (slot_at c w k) r))) → (b && m) ≡ wrote_at (edits_of c w) k r p
unfolding wrote_at
wrote_is c w k r p {b} {m} e d = go (dec_le 1 k) (dec_le k c.edits)
  where
    none : (IsRow c.edits k → ⊥) → (b && m) ≡ wrote_at (edits_of c w) k r p
    none n = rw (e, none_fresh c w k n) refl

    go : Dec (1 ≤ k) → Dec (k ≤ c.edits) → (b && m) ≡ wrote_at (edits_of c w) k r p
    go (yes l) (yes h) =
        let row : IsRow c.edits k = record { low = l; high = h } in
        rw (e, d row, edit_of_lem c w k row)
        (and_assoc (eqb (slot_at c w k).state COMMITTED) (eqb (slot_at c w k).point p)
        (has_written (access_of (slot_at c w k) r)))
    go (no l) h = none (λ row. l row.low)
    go (yes l) (no h) = none (λ row. h row.high)
