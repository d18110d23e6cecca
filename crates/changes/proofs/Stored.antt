-- A row that has been filled has the entry it was filled with, and its words are those of no other row. Rests on
-- Entries of `chains`.
use Rattle.std.specs.Prelude.{Some, is_some}
use Rattle.types.specs.Values.{pending_value, pending_word}
use Rattle.types.specs.declared.Pending.{Pending}
use Rattle.types.specs.declared.Pending.TheVariants.{Written, Unwritten}
use Prim.Native.Nat.{ℕ, ◌+◌, ◌*◌, ◌/◌, ◌%◌, ◌<◌}
use mathlib.Core.Path.{◌≡◌, refl, ap, ◌∙◌}
use mathlib.Core.Bool.{Bool, true, false, cond}
use mathlib.Core.List.{List}
use native.Mathlib.Omega.{arith}
use lib.Dec.{eqb, leb}
use lib.ListN.{set}
use Rattle.chains.specs.declared.Table.{Table}
use Rattle.chains.specs.Walk.{IsRow}
use Rattle.chains.specs.Table.{field, place}
use Rattle.chains.specs.Change.{Ready}
use Rattle.chains.proofs.Cells.{field_same, field_other, lies}
use Rattle.chains.proofs.Entries.{Filled, filled_put}
use Rattle.types.specs.declared.Lock.{Lock}
use Rattle.types.specs.declared.Access.{Access}
use Rattle.types.specs.declared.Counts.{Counts}
use Rattle.tables.specs.Layout.{lock_table, lock_heads, version_table, version_heads, access_table, access_heads, Fits}
use Rattle.tables.specs.Layout.{MODES}
use Rattle.tables.specs.Layout.{L_LOW, L_HIGH, L_MODE, L_RECORD, V_POINT, V_VALUE, V_SPARE, A_RECORD, A_FROM, A_WRITTEN}
use Rattle.tables.specs.Layout.{A_VALUE}
use Rattle.tables.specs.Decode.{version_at, lock_at, access_at}
use Rattle.writes.specs.Rows.{lock_tag, written_mark, version_stored, lock_stored, access_stored}
use Rattle.tables.specs.Words.{names_record, marked}
use Rattle.tables.proofs.Places
use Rattle.meaning.specs.Store.{has_written}

-- a store to another word of the row
other : (t : Table) (w : List ℕ) {i : ℕ} → IsRow t.count i → (o v u : ℕ) → o < t.stride → u < t.stride
    → (u ≡ o → ⊥) → field t (set w (place t i o) v) i u ≡ field t w i u
other t w {i} q o v u a b n = field_other t w i i o u v q.low q.low a b (λ z. n z.1)

-- Locks
module _ {c : Counts} {w : List ℕ} (f : Fits c w) {i : ℕ} (q : IsRow c.locks i) (r : ℕ) (l : Lock) where
  pub lock_stored_fits : Fits c (lock_stored c w i r l)
  unfolding lock_stored
  lock_stored_fits =
      Places.lock_fits i L_RECORD r
      (Places.lock_fits i L_MODE (lock_tag l)
      (Places.lock_fits i L_HIGH l.high (Places.lock_fits i L_LOW l.low f refl) refl) refl) refl

  lock_stored_fields : (field (lock_table c) (lock_stored c w i r l) i L_LOW ≡ l.low)
      × (field (lock_table c) (lock_stored c w i r l) i L_HIGH ≡ l.high)
      × (field (lock_table c) (lock_stored c w i r l) i L_MODE ≡ lock_tag l)
      × (field (lock_table c) (lock_stored c w i r l) i L_RECORD ≡ r)
  unfolding lock_stored lock_table
  lock_stored_fields =
      let t = lock_table c in
      let x1 = set w (place t i L_LOW) l.low in
      let x2 = set x1 (place t i L_HIGH) l.high in
      let x3 = set x2 (place t i L_MODE) (lock_tag l) in
      let f1 : Fits c x1 = Places.lock_fits i L_LOW l.low f refl in
      let f2 : Fits c x2 = Places.lock_fits i L_HIGH l.high f1 refl in
      let f3 : Fits c x3 = Places.lock_fits i L_MODE (lock_tag l) f2 refl in (
        other t x3 q L_RECORD r L_LOW (omega arith) (omega arith) (λ z. omega arith)
            ∙ other t x2 q L_MODE (lock_tag l) L_LOW (omega arith) (omega arith) (λ z. omega arith)
            ∙ other t x1 q L_HIGH l.high L_LOW (omega arith) (omega arith) (λ z. omega arith)
            ∙ field_same t w i L_LOW l.low (lies (Places.locks_laid f)) q (omega arith),
        other t x3 q L_RECORD r L_HIGH (omega arith) (omega arith) (λ z. omega arith)
            ∙ other t x2 q L_MODE (lock_tag l) L_HIGH (omega arith) (omega arith) (λ z. omega arith)
            ∙ field_same t x1 i L_HIGH l.high (lies (Places.locks_laid f1)) q (omega arith),
        other t x3 q L_RECORD r L_MODE (omega arith) (omega arith) (λ z. omega arith)
            ∙ field_same t x2 i L_MODE (lock_tag l) (lies (Places.locks_laid f2)) q (omega arith),
        field_same t x3 i L_RECORD r (lies (Places.locks_laid f3)) q (omega arith),
      )

  pub lock_stored_at : l.mode < MODES → lock_at c (lock_stored c w i r l) i ≡ l
  unfolding lock_at lock_tag
  lock_stored_at m =
      let s = lock_stored_fields in
      let x : (l.mode + l.owner * MODES) % MODES ≡ l.mode = omega arith in
      let y : (l.mode + l.owner * MODES) / MODES ≡ l.owner = omega arith in
      rw (s.0, s.1, s.2, x, y) refl

  pub lock_stored_record : field (lock_table c) (lock_stored c w i r l) i L_RECORD ≡ r
  lock_stored_record = lock_stored_fields.3

-- Versions
module _ {c : Counts} {w : List ℕ} (f : Fits c w) {i : ℕ} (q : IsRow c.versions i) (point value : ℕ) where
  pub version_stored_at : version_at c (version_stored c w i point value) i
      ≡ record { point = point; value = Some value; spare = 0 }
  unfolding version_at version_stored version_table
  version_stored_at =
      let t = version_table c in
      let x1 = set w (place t i V_POINT) point in
      let x2 = set x1 (place t i V_VALUE) value in
      let f1 : Fits c x1 = Places.version_fits i V_POINT point f refl in
      let f2 : Fits c x2 = Places.version_fits i V_VALUE value f1 refl in
      let a : field t (set x2 (place t i V_SPARE) 0) i V_POINT
      ≡ point = other t x2 q V_SPARE 0 V_POINT (omega arith) (omega arith) (λ z. omega arith)
      ∙ other t x1 q V_VALUE value V_POINT (omega arith) (omega arith) (λ z. omega arith)
      ∙ field_same t w i V_POINT point (lies (Places.versions_laid f)) q (omega arith) in
      let b : field t (set x2 (place t i V_SPARE) 0) i V_VALUE
      ≡ value = other t x2 q V_SPARE 0 V_VALUE (omega arith) (omega arith) (λ z. omega arith)
      ∙ field_same t x1 i V_VALUE value (lies (Places.versions_laid f1)) q (omega arith) in
      let d : field t (set x2 (place t i V_SPARE) 0) i V_SPARE ≡ 0 =
      field_same t x2 i V_SPARE 0 (lies (Places.versions_laid f2)) q (omega arith) in
      rw (a, b, d) refl

-- Accesses
mark_tested : (b : Bool) → (eqb (written_mark b) 1 ≡ b) × (leb (written_mark b) 1 ≡ true)
unfolding written_mark
mark_tested true = (refl, refl)
mark_tested false = (refl, refl)

-- what is stored of a value gives it again
value_stored : (v : Pending)
    → cond (eqb (written_mark (is_some (pending_value v))) 1) (Written (pending_word v)) (Unwritten (pending_word v))
    ≡ v
unfolding written_mark
value_stored (Written x) = refl
value_stored (Unwritten x) = refl

module _ {c : Counts} {w : List ℕ} (f : Fits c w) {i : ℕ} (q : IsRow c.accesses i) (a : Access) where
  access_stored_fields : (field (access_table c) (access_stored c w i a) i A_RECORD ≡ a.rec)
      × (field (access_table c) (access_stored c w i a) i A_FROM ≡ a.from)
      × (field (access_table c) (access_stored c w i a) i A_WRITTEN ≡ written_mark (has_written a))
      × (field (access_table c) (access_stored c w i a) i A_VALUE ≡ pending_word a.value)
  unfolding access_stored access_table
  access_stored_fields =
      let t = access_table c in
      let m = written_mark (has_written a) in
      let x1 = set w (place t i A_RECORD) a.rec in
      let x2 = set x1 (place t i A_FROM) a.from in
      let x3 = set x2 (place t i A_WRITTEN) m in
      let f1 : Fits c x1 = Places.access_fits i A_RECORD a.rec f refl in
      let f2 : Fits c x2 = Places.access_fits i A_FROM a.from f1 refl in
      let f3 : Fits c x3 = Places.access_fits i A_WRITTEN m f2 refl in (
        other t x3 q A_VALUE (pending_word a.value) A_RECORD (omega arith) (omega arith) (λ z. omega arith)
            ∙ other t x2 q A_WRITTEN m A_RECORD (omega arith) (omega arith) (λ z. omega arith)
            ∙ other t x1 q A_FROM a.from A_RECORD (omega arith) (omega arith) (λ z. omega arith)
            ∙ field_same t w i A_RECORD a.rec (lies (Places.accesses_laid f)) q (omega arith),
        other t x3 q A_VALUE (pending_word a.value) A_FROM (omega arith) (omega arith) (λ z. omega arith)
            ∙ other t x2 q A_WRITTEN m A_FROM (omega arith) (omega arith) (λ z. omega arith)
            ∙ field_same t x1 i A_FROM a.from (lies (Places.accesses_laid f1)) q (omega arith),
        other t x3 q A_VALUE (pending_word a.value) A_WRITTEN (omega arith) (omega arith) (λ z. omega arith)
            ∙ field_same t x2 i A_WRITTEN m (lies (Places.accesses_laid f2)) q (omega arith),
        field_same t x3 i A_VALUE (pending_word a.value) (lies (Places.accesses_laid f3)) q (omega arith),
      )

  pub access_stored_at : access_at c (access_stored c w i a) i ≡ a
  unfolding access_at
  access_stored_at = let s = access_stored_fields in rw (s.0, s.1, s.2, s.3, value_stored a.value) refl

  pub access_stored_marked : marked c (access_stored c w i a) i ≡ true
  access_stored_marked = ap (λ x. leb x 1) access_stored_fields.2 ∙ (mark_tested (has_written a)).1

-- The chains after a change of two of them, whose row i was then filled
module _ (c : Counts) {w w₁ : List ℕ} {a b : ℕ} {A B : List ℕ} {i : ℕ} where
  pub lock_filled : Ready (lock_table c) (lock_heads c) w a b → Filled (lock_table c) (lock_heads c) w w₁ a b A B i
      → IsRow c.locks i → (r : ℕ) (l : Lock)
      → Filled (lock_table c) (lock_heads c) w (lock_stored c w₁ i r l) a b A B i
  unfolding lock_stored lock_table
  lock_filled rd k q r l =
      filled_put rd L_RECORD r
      (filled_put rd L_MODE (lock_tag l)
      (filled_put rd L_HIGH l.high (filled_put rd L_LOW l.low k q (omega arith) (λ e. omega arith)) q
      (omega arith) (λ e. omega arith)) q (omega arith) (λ e. omega arith)) q (omega arith) (λ e. omega arith)

  pub version_filled : Ready (version_table c) (version_heads c) w a b
      → Filled (version_table c) (version_heads c) w w₁ a b A B i → IsRow c.versions i → (point value : ℕ)
      → Filled (version_table c) (version_heads c) w (version_stored c w₁ i point value) a b A B i
  unfolding version_stored version_table
  version_filled rd k q point value =
      filled_put rd V_SPARE 0
      (filled_put rd V_VALUE value (filled_put rd V_POINT point k q (omega arith) (λ e. omega arith)) q (omega arith)
      (λ e. omega arith)) q (omega arith) (λ e. omega arith)

  pub access_filled : Ready (access_table c) (access_heads c) w a b
      → Filled (access_table c) (access_heads c) w w₁ a b A B i → IsRow c.accesses i → (x : Access)
      → Filled (access_table c) (access_heads c) w (access_stored c w₁ i x) a b A B i
  unfolding access_stored access_table
  access_filled rd k q x =
      filled_put rd A_VALUE (pending_word x.value)
      (filled_put rd A_WRITTEN (written_mark (has_written x))
      (filled_put rd A_FROM x.from (filled_put rd A_RECORD x.rec k q (omega arith) (λ e. omega arith)) q
      (omega arith) (λ e. omega arith)) q (omega arith) (λ e. omega arith)) q (omega arith) (λ e. omega arith)

-- the entries of other rows
module _ (c : Counts) {w w' : List ℕ} {a b : ℕ} {A B : List ℕ} {i : ℕ} where
  pub lock_rest : Filled (lock_table c) (lock_heads c) w w' a b A B i → (x : ℕ) → IsRow c.locks x → (x ≡ i → ⊥)
      → (lock_at c w' x ≡ lock_at c w x) × ((r : ℕ) → names_record c w' r x ≡ names_record c w r x)
  unfolding lock_at lock_table
  lock_rest k x q n = (
    rw (
      k.fields x L_LOW q.low n (omega arith) (λ e. omega arith),
      k.fields x L_HIGH q.low n (omega arith) (λ e. omega arith),
      k.fields x L_MODE q.low n (omega arith) (λ e. omega arith),
    ) refl,
    λ r. ap (λ y. eqb y r) (k.fields x L_RECORD q.low n (omega arith) (λ e. omega arith)),
  )

  pub version_rest : Filled (version_table c) (version_heads c) w w' a b A B i → (x : ℕ) → IsRow c.versions x
      → (x ≡ i → ⊥) → version_at c w' x ≡ version_at c w x
  unfolding version_at version_table
  version_rest k x q n =
      rw (
        k.fields x V_POINT q.low n (omega arith) (λ e. omega arith),
        k.fields x V_VALUE q.low n (omega arith) (λ e. omega arith),
        k.fields x V_SPARE q.low n (omega arith) (λ e. omega arith),
      ) refl

  pub access_rest : Filled (access_table c) (access_heads c) w w' a b A B i → (x : ℕ) → IsRow c.accesses x
      → (x ≡ i → ⊥)
      → (access_at c w' x ≡ access_at c w x) × (marked c w' x ≡ marked c w x)
  unfolding access_at access_table
  access_rest k x q n = (
    rw (
      k.fields x A_RECORD q.low n (omega arith) (λ e. omega arith),
      k.fields x A_FROM q.low n (omega arith) (λ e. omega arith),
      k.fields x A_WRITTEN q.low n (omega arith) (λ e. omega arith),
      k.fields x A_VALUE q.low n (omega arith) (λ e. omega arith),
    ) refl,
    ap (λ y. leb y 1) (k.fields x A_WRITTEN q.low n (omega arith) (λ e. omega arith)),
  )
