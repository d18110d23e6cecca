-- What a store to one word of a slot, or to a record's floor, makes of the store, and how two changes of one slot or
-- record make one. Rests on Apart and Parts.
use Prim.Native.Nat.{ℕ, zero, suc, ◌<◌}
use mathlib.Core.Path.{◌≡◌, refl, sym, ap, ◌∙◌}
use mathlib.Core.List.{List, []}
use native.Mathlib.Omega.{arith}
use lib.ListN.{set}
use lib.Seq.{get_or-set_other, set-set}
use Rattle.chains.specs.Walk.{IsRow}
use Rattle.chains.specs.Table.{field, place}
use Rattle.chains.proofs.Cells.{field_same, field_other}
use Rattle.meaning.specs.Store.{Rec, Edit, Store, with_rec, with_records, with_edit, set_edit, rec_at}
use Rattle.types.specs.Numbers.{next_generation}
use Rattle.meaning.specs.Store.{edit_at}
use Rattle.meaning.proofs.Stores.{edit_same, rec_same}
use Rattle.types.specs.declared.Counts.{Counts}
use Rattle.tables.specs.Layout.{slot_base, record_table, slot_table, R_FLOOR, SLOT, S_STATE, S_GENERATION, S_ACCESS}
use Rattle.tables.specs.Layout.{S_POINT}
use Rattle.tables.specs.Decode.{floor_of, record_at, slot_at, records_of, edits_of, decode_at}
use Rattle.tables.specs.Words.{Well}
use Rattle.tables.proofs.Places.{slots_lie, records_lie, slot_fits, record_fits}
use Rattle.tables.proofs.Decoded.{rec_at_lem, edit_at_lem, records_length, edits_length}
use Rattle.meaning.specs.Edits.{begun}
use Rattle.meaning.specs.Ending.{ended}
use Rattle.types.specs.Limits.{OPEN}
use Rattle.changes.specs.Becomes.{Becomes, with_floor, with_state, with_point, with_generation}
use Rattle.changes.proofs.Apart
use Rattle.changes.proofs.Parts

floor_slot : (c : Counts) (k o r : ℕ) → r < c.records → place (record_table c) (suc r) R_FLOOR ≡ place
    (slot_table c) k o
    → ⊥
unfolding place record_table slot_table slot_base
floor_slot c k o r l e = omega arith

-- Word o of slot k, which heads no chain
module _ {c : Counts} {w : List ℕ} (W : Well c w) (k : ℕ) (l : IsRow c.edits k) (o v : ℕ) (b : o < SLOT)
    (n : o ≡ S_ACCESS → ⊥) where
  slot_here : field (slot_table c) (set w (place (slot_table c) k o) v) k o ≡ v
  unfolding slot_table
  slot_here = field_same (slot_table c) w k o v (slots_lie W.fits) l b

  slot_there : (j u : ℕ) → IsRow c.edits j → u < SLOT → ((j ≡ k) × (u ≡ o) → ⊥)
      → field (slot_table c) (set w (place (slot_table c) k o) v) j u ≡ field (slot_table c) w j u
  unfolding slot_table
  slot_there j u q h d = field_other (slot_table c) w k j o u v l.low q.low b h d

  slot_floors : Parts.FloorsSame c w (set w (place (slot_table c) k o) v)
  unfolding floor_of field
  slot_floors r h =
      get_or-set_other w (place (slot_table c) k o) (place (record_table c) (suc r) R_FLOOR) v 0 (floor_slot c k o r h)

  slot_accesses : Parts.AccessesSame c w (set w (place (slot_table c) k o) v)
  slot_accesses = Parts.accesses_same W (Apart.off_kept w v (Apart.slot_accesses c k o l b n))

  slot_becomes : {e : Edit} → slot_at c (set w (place (slot_table c) k o) v) k ≡ e
      → Becomes c (set w (place (slot_table c) k o) v) (with_edit (decode_at c w) k e)
  slot_becomes {e} h =
      let w' = set w (place (slot_table c) k o) v in
      let vs = Parts.versions_same W (Apart.off_kept w v (Apart.slot_versions c k o l b)) in
      let ls = Parts.locks_same W (Apart.off_kept w v (Apart.slot_locks c k o l b)) in
      record {
        well = record {
          fits = slot_fits k o v W.fits refl;
          versions_parted_lem = vs.parted;
          locks_parted_lem = ls.parted;
          accesses_parted_lem = slot_accesses.parted;
          named = ls.named;
          marks = slot_accesses.marks;
        };
        means =
            Parts.slot_decoded c w w' k l
            (λ j q d. Parts.slot_same c w w' j q (slot_accesses.entries j q)
            (λ u h _. slot_there j u q h (λ z. d z.0)))
            (Parts.records_same c w w' vs ls slot_floors)
            ∙ ap (with_edit (decode_at c w) k) h;
      }

module _ {c : Counts} {w : List ℕ} (W : Well c w) (k : ℕ) (l : IsRow c.edits k) (v : ℕ) where
  pub state_becomes : Becomes c (set w (place (slot_table c) k S_STATE) v)
      (with_edit (decode_at c w) k (with_state (edit_at (decode_at c w) k) v))
  unfolding slot_at
  state_becomes = rw (edit_at_lem c w k l) (slot_becomes W k l S_STATE v (omega arith) (λ e. omega arith)
      (rw (
        slot_here W k l S_STATE v (omega arith) (λ e. omega arith),
        slot_there W k l S_STATE v (omega arith) (λ e. omega arith) k S_GENERATION l (omega arith) (λ e. omega arith),
        slot_there W k l S_STATE v (omega arith) (λ e. omega arith) k S_POINT l (omega arith) (λ e. omega arith),
        (slot_accesses W k l S_STATE v (omega arith) (λ e. omega arith)).entries k l,
      ) refl))

  pub generation_becomes : Becomes c (set w (place (slot_table c) k S_GENERATION) v)
      (with_edit (decode_at c w) k (with_generation (edit_at (decode_at c w) k) v))
  unfolding slot_at
  generation_becomes = rw (edit_at_lem c w k l) (slot_becomes W k l S_GENERATION v (omega arith) (λ e. omega arith)
      (rw (
        slot_here W k l S_GENERATION v (omega arith) (λ e. omega arith),
        slot_there W k l S_GENERATION v (omega arith) (λ e. omega arith) k S_STATE l (omega arith) (λ e. omega arith),
        slot_there W k l S_GENERATION v (omega arith) (λ e. omega arith) k S_POINT l (omega arith) (λ e. omega arith),
        (slot_accesses W k l S_GENERATION v (omega arith) (λ e. omega arith)).entries k l,
      ) refl))

  pub point_becomes : Becomes c (set w (place (slot_table c) k S_POINT) v)
      (with_edit (decode_at c w) k (with_point (edit_at (decode_at c w) k) v))
  unfolding slot_at
  point_becomes = rw (edit_at_lem c w k l) (slot_becomes W k l S_POINT v (omega arith) (λ e. omega arith)
      (rw (
        slot_here W k l S_POINT v (omega arith) (λ e. omega arith),
        slot_there W k l S_POINT v (omega arith) (λ e. omega arith) k S_STATE l (omega arith) (λ e. omega arith),
        slot_there W k l S_POINT v (omega arith) (λ e. omega arith) k S_GENERATION l (omega arith) (λ e. omega arith),
        (slot_accesses W k l S_POINT v (omega arith) (λ e. omega arith)).entries k l,
      ) refl))

-- Record r's floor
module _ {c : Counts} {w : List ℕ} (W : Well c w) (r : ℕ) (l : r < c.records) (v : ℕ) where
  row : IsRow c.records (suc r)
  row = record { low = omega arith; high = omega arith }

  floor_here : floor_of c (set w (place (record_table c) (suc r) R_FLOOR) v) r ≡ v
  unfolding floor_of record_table
  floor_here = field_same (record_table c) w (suc r) R_FLOOR v (records_lie W.fits) row (omega arith)

  floor_there : (j : ℕ) → (j ≡ r → ⊥) → floor_of c (set w (place (record_table c) (suc r) R_FLOOR) v) j ≡ floor_of c w j
  unfolding floor_of record_table
  floor_there j n =
      field_other (record_table c) w (suc r) (suc j) R_FLOOR R_FLOOR v (omega arith) (omega arith) (omega arith)
      (omega arith) (λ z. n (omega (arith, z.0)))

  floor_slots : Parts.SlotsSame c w (set w (place (record_table c) (suc r) R_FLOOR) v)
  unfolding field
  floor_slots k u q h d =
      get_or-set_other w (place (record_table c) (suc r) R_FLOOR) (place (slot_table c) k u) v 0
      (λ e. floor_slot c k u r l (sym e))

  pub floor_becomes : Becomes c (set w (place (record_table c) (suc r) R_FLOOR) v)
      (with_rec (decode_at c w) r (with_floor (rec_at (decode_at c w) r) v))
  unfolding record_at
  floor_becomes =
      let w' = set w (place (record_table c) (suc r) R_FLOOR) v in
      let vs = Parts.versions_same W (Apart.off_kept w v (Apart.floor_versions c r l)) in
      let ls = Parts.locks_same W (Apart.off_kept w v (Apart.floor_locks c r l)) in
      let acs = Parts.accesses_same W (Apart.off_kept w v (Apart.floor_accesses c r l)) in
      let e : record_at c w' r ≡ with_floor (record_at c w r) v =
      rw (vs.entries r l, ls.entries r l, floor_here) refl in
      record {
        well = record {
          fits = record_fits (suc r) R_FLOOR v W.fits refl;
          versions_parted_lem = vs.parted;
          locks_parted_lem = ls.parted;
          accesses_parted_lem = acs.parted;
          named = ls.named;
          marks = acs.marks;
        };
        means =
            Parts.record_decoded c w w' r l
            (λ j q n. Parts.record_same c w w' j (vs.entries j q) (ls.entries j q) (floor_there j n))
            (Parts.edits_same c w w' acs floor_slots)
            ∙ ap (with_rec (decode_at c w) r) (e ∙ ap (λ x. with_floor x v) (sym (rec_at_lem c w r l)));
      }

-- Two changes of one slot, or of one record
edit_twice : (s : Store) (k : ℕ) (a b : Edit) → with_edit (with_edit s k a) k b ≡ with_edit s k b
unfolding with_edit set_edit
edit_twice s zero a b = refl
edit_twice s (suc k) a b = rw (set-set s.edits k a b) refl

pub rec_twice : (s : Store) (r : ℕ) (a b : Rec) → with_rec (with_rec s r a) r b ≡ with_rec s r b
unfolding with_records
rec_twice s r a b = rw (set-set s.records r a b) refl

edit_there : (c : Counts) (w : List ℕ) (k : ℕ) (e : Edit) → IsRow c.edits k
    → edit_at (with_edit (decode_at c w) k e) k ≡ e
unfolding with_edit decode_at
edit_there c w k e l = edit_same (edits_of c w) k e (record { from = l.low; upto = rw (edits_length c w) l.high })

pub rec_there : (c : Counts) (w : List ℕ) (r : ℕ) (x : Rec) → r < c.records
    → rec_at (with_rec (decode_at c w) r x) r ≡ x
unfolding with_records decode_at
rec_there c w r x l = rec_same (records_of c w) r x (rw (records_length c w) l)

pub then_edit : {c : Counts} (w : List ℕ) {w₁ w₂ : List ℕ} {k : ℕ} (e : Edit) (f : Edit → Edit) → IsRow c.edits k
    → Becomes c w₁ (with_edit (decode_at c w) k e)
    → Becomes c w₂ (with_edit (decode_at c w₁) k (f (edit_at (decode_at c w₁) k)))
    → Becomes c w₂ (with_edit (decode_at c w) k (f e))
then_edit {c} w {w₁} {w₂} {k} e f l a b = record {
  well = b.well;
  means =
      b.means ∙ ap (λ s. with_edit s k (f (edit_at s k))) a.means
      ∙ ap (λ x. with_edit (with_edit (decode_at c w) k e) k (f x)) (edit_there c w k e l)
      ∙ edit_twice (decode_at c w) k e (f e);
}

pub then_rec : {c : Counts} (w : List ℕ) {w₁ w₂ : List ℕ} (r : ℕ) (x : Rec) (f : Rec → Rec) → r < c.records
    → Becomes c w₁ (with_rec (decode_at c w) r x)
    → Becomes c w₂ (with_rec (decode_at c w₁) r (f (rec_at (decode_at c w₁) r)))
    → Becomes c w₂ (with_rec (decode_at c w) r (f x))
then_rec {c} w {w₁} {w₂} r x f l a b = record {
  well = b.well;
  means =
      b.means ∙ ap (λ s. with_rec s r (f (rec_at s r))) a.means
      ∙ ap (λ y. with_rec (with_rec (decode_at c w) r x) r (f y)) (rec_there c w r x l)
      ∙ rec_twice (decode_at c w) r x (f x);
}

-- the code's steps of `set_state`
pub set_state_law : {c : Counts} {w w₁ w₂ : List ℕ} {k : ℕ} (state point : ℕ) → Well c w → IsRow c.edits k
    → w₁ ≡ set w (place (slot_table c) k S_STATE) state → w₂ ≡ set w₁ (place (slot_table c) k S_POINT) point
    → Becomes c w₂ (with_edit (decode_at c w) k (ended (edit_at (decode_at c w) k) state point))
set_state_law {c} {w} {w₁} {w₂} {k} state point W l e₁ e₂ =
    let a : Becomes c w₁ (with_edit (decode_at c w) k (with_state (edit_at (decode_at c w) k) state)) =
    rw e₁ (state_becomes W k l state) in
    then_edit w (with_state (edit_at (decode_at c w) k) state) (λ e. with_point e point) l a
    (rw e₂ (point_becomes a.well k l point))

-- and of `open_slot`: g is the next generation
pub generation_is : {c : Counts} {w : List ℕ} {k g : ℕ} → Well c w → IsRow c.edits k → g ≡ (slot_at c w k).generation
    → g ≡ (edit_at (decode_at c w) k).generation
generation_is {c} {w} {k} W l e = e ∙ sym (ap (λ (x : Edit). x.generation) (edit_at_lem c w k l))

pub open_slot_law : {c : Counts} {w w₁ w₂ : List ℕ} {k : ℕ} (g : ℕ) → Well c w → IsRow c.edits k
    → g ≡ next_generation (edit_at (decode_at c w) k).generation → (edit_at (decode_at c w) k).accesses ≡ []
    → Becomes c w₁ (with_edit (decode_at c w) k (with_generation (edit_at (decode_at c w) k) g))
    → Becomes c w₂ (with_edit (decode_at c w₁) k (ended (edit_at (decode_at c w₁) k) OPEN 0))
    → Becomes c w₂ (begun (decode_at c w) k)
unfolding begun
open_slot_law {c} {w} {w₁} {w₂} {k} g W l eg ea a b =
    let z = then_edit w (with_generation (edit_at (decode_at c w) k) g) (λ e. ended e OPEN 0) l a b in
    record { well = z.well; means = z.means ∙ ap (with_edit (decode_at c w) k) (rw (ea, eg) refl) }
