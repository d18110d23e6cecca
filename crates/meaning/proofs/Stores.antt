-- What the parts of a store are after one slot or record, or every record, is changed. Rests on Lists.
use Prim.Native.Nat.{ℕ, zero, suc, ◌+◌, ◌≤◌, ◌<◌}
use native.Mathlib.Omega.{arith}
use native.Mathlib.Decide.{dec_lt}
use mathlib.Core.Path.{◌≡◌, refl, ap}
use mathlib.Core.Bool.{true}
use mathlib.Core.List.{List}
use lib.Dec.{eqb}
use lib.ListN.{length, set, length-set}
use lib.Seq.{get_or-set_same, get_or-set_other}
use borrow.Author.Tests.{not-true, eqb-false, ne_eqb}
use Rattle.meaning.specs.Lists.{map_from, total}
use Rattle.types.specs.Limits.{FREE}
use Rattle.meaning.specs.Store.{Rec, Edit, fresh_rec, fresh_edit, edit_of, set_edit, rec_of, in_use}
use Rattle.meaning.proofs.Lists.{get_d_past, get_d_map_from, length_map_from, total_set}

-- a slot that is not free is one of the store's
pub used_out : (es : List Edit) (k : ℕ) → in_use es k ≡ true → (edit_of es k).state ≡ FREE → ⊥
unfolding in_use
used_out es k h = eqb-false (edit_of es k).state FREE (not-true (eqb (edit_of es k).state FREE) h)

pub used_in : (es : List Edit) (k : ℕ) → ((edit_of es k).state ≡ FREE → ⊥) → in_use es k ≡ true
unfolding in_use
used_in es k h = rw (ne_eqb (edit_of es k).state FREE h)

pub edit_past : (es : List Edit) (k : ℕ) → length es < k → edit_of es k ≡ fresh_edit
unfolding edit_of
edit_past es zero h = refl
edit_past es (suc i) h = get_d_past es i fresh_edit (omega arith)

-- the slots of a store
pub record InRange (es : List Edit) (k : ℕ) : Type 0 where
  pub from : 1 ≤ k
  pub upto : k ≤ length es

pub used_range : (es : List Edit) (k : ℕ) → ((edit_of es k).state ≡ FREE → ⊥) → InRange es k
unfolding edit_of
used_range es zero h = absurd (h refl)
used_range es (suc i) h = record { from = omega arith; upto = go (dec_lt i (length es)) }
  where
    go : Dec (i < length es) → suc i ≤ length es
    go (yes q) = q
    go (no q) = absurd (h (ap (λ (e : Edit). e.state) (get_d_past es i fresh_edit (omega arith))))

pub edit_same : (es : List Edit) (k : ℕ) (e : Edit) → InRange es k → edit_of (set_edit es k e) k ≡ e
unfolding edit_of set_edit
edit_same es zero e h = absurd (omega (arith, h.from))
edit_same es (suc i) e h = get_or-set_same es i e fresh_edit (omega (arith, h.upto))

pub edit_other : (es : List Edit) (k j : ℕ) (e : Edit) → (j ≡ k → ⊥) → edit_of (set_edit es k e) j ≡ edit_of es j
unfolding edit_of set_edit
edit_other es zero zero e h = refl
edit_other es zero (suc j) e h = refl
edit_other es (suc i) zero e h = refl
edit_other es (suc i) (suc j) e h = get_or-set_other es i j e fresh_edit (λ q. h (ap suc q))

pub length_set_edit : (es : List Edit) (k : ℕ) (e : Edit) → length (set_edit es k e) ≡ length es
unfolding set_edit
length_set_edit es zero e = refl
length_set_edit es (suc i) e = length-set es i e

-- the access rows in use after slot k is changed
pub accesses_set : (es : List Edit) (k : ℕ) (e : Edit) → InRange es k
    → total (λ x. length x.accesses) (set_edit es k e) + length (edit_of es k).accesses
    ≡ total (λ x. length x.accesses) es + length e.accesses
unfolding edit_of set_edit
accesses_set es zero e h = absurd (omega (arith, h.from))
accesses_set es (suc i) e h = total_set (λ x. length x.accesses) es i e fresh_edit (omega (arith, h.upto))

-- one record changed
pub rec_same : (rs : List Rec) (r : ℕ) (x : Rec) → r < length rs → rec_of (set rs r x) r ≡ x
unfolding rec_of
rec_same rs r x h = get_or-set_same rs r x fresh_rec h

pub rec_other : (rs : List Rec) (r j : ℕ) (x : Rec) → (j ≡ r → ⊥) → rec_of (set rs r x) j ≡ rec_of rs j
unfolding rec_of
rec_other rs r j x h = get_or-set_other rs r j x fresh_rec h

pub rec_past : (rs : List Rec) (r : ℕ) → length rs ≤ r → rec_of rs r ≡ fresh_rec
unfolding rec_of
rec_past rs r h = get_d_past rs r fresh_rec h

-- every record changed by its index
pub rec_map : (f : ℕ → Rec → Rec) (rs : List Rec) (r : ℕ) → r < length rs
    → rec_of (map_from 0 f rs) r ≡ f r (rec_of rs r)
unfolding rec_of
rec_map f rs r h = let z : 0 + r ≡ r = omega arith in rw z at (get_d_map_from f 0 rs r fresh_rec fresh_rec h)

pub rec_map_past : (f : ℕ → Rec → Rec) (rs : List Rec) (r : ℕ) → length rs ≤ r → rec_of (map_from 0 f rs) r ≡ fresh_rec
rec_map_past f rs r h = rec_past (map_from 0 f rs) r (omega (arith, length_map_from f 0 rs))
