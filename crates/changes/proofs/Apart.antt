-- Which words are no words of a table: neither a head of its chains nor a word of its rows. All by omega from the
-- layout. Rests on specs.Layout of `tables` and Frames of `chains`.
use Prim.Native.Nat.{ℕ, zero, suc, ◌+◌, ◌*◌, ◌≤◌, ◌<◌}
use mathlib.Core.Path.{◌≡◌, sym}
use mathlib.Core.List.{List}
use native.Mathlib.Omega.{arith}
use lib.ListN.{get_or, set}
use lib.Seq.{get_or-set_other}
use Rattle.chains.specs.declared.Table.{Table}
use Rattle.chains.specs.declared.Heads.{Heads}
use Rattle.chains.specs.Walk.{IsRow}
use Rattle.chains.specs.Table.{place, field, head_cell, head_of}
use Rattle.chains.proofs.Frames.{Kept, Apart, OnlyTable}
use Rattle.types.specs.declared.Counts.{Counts}
use Rattle.tables.specs.Layout.{slot_base, version_base, lock_base, access_base, record_table, slot_table}
use Rattle.tables.specs.Layout.{version_table}
use Rattle.tables.specs.Layout.{lock_table, access_table, version_heads, lock_heads, access_heads, H_ACCESSES, SLOT}
use Rattle.tables.specs.Layout.{R_FLOOR}
use Rattle.tables.specs.Layout.{S_ACCESS}

pub record Off (t : Table) (h : Heads) (p : ℕ) : Type 0 where
  pub heads : (k : ℕ) → k ≤ h.owners → p ≡ head_cell h k → ⊥
  pub rows : (i o : ℕ) → IsRow t.count i → o < t.stride → p ≡ place t i o → ⊥

-- a word that is off a table is kept where only the table differs, and a store to it keeps the table
pub off_same : {t : Table} {h : Heads} {w w' : List ℕ} {p : ℕ} → Off t h p → OnlyTable t h w w'
    → get_or w' p 0 ≡ get_or w p 0
off_same {p = p} f o = o.kept p f.heads f.rows

pub off_kept : {t : Table} {h : Heads} {p : ℕ} (w : List ℕ) (v : ℕ) → Off t h p → Kept t h w (set w p v)
unfolding field head_of
off_kept {t} {h} {p} w v f = record {
  words = λ i o r l. get_or-set_other w p (place t i o) v 0 (λ e. f.rows i o r l (sym e));
  heads = λ k l. get_or-set_other w p (head_cell h k) v 0 (λ e. f.heads k l (sym e));
}

off_heads : (h : Heads) (p : ℕ) → (p ≡ h.free → ⊥) → ((k : ℕ) → k < h.owners → p ≡ h.first + k * h.step → ⊥)
    → (k : ℕ) → k ≤ h.owners → p ≡ head_cell h k → ⊥
unfolding head_cell
off_heads h p f g zero l e = f e
off_heads h p f g (suc k) l e = g k (omega arith) e

off : (t : Table) (h : Heads) (p : ℕ) → (p ≡ h.free → ⊥) → ((k : ℕ) → k < h.owners → p ≡ h.first + k * h.step → ⊥)
    → ((i o : ℕ) → IsRow t.count i → o < t.stride → p ≡ place t i o → ⊥) → Off t h p
off t h p f g r = record { heads = off_heads h p f g; rows = r }

module _ (c : Counts) where
  -- counts
  pub count_versions : (p : ℕ) → p ≤ H_ACCESSES → Off (version_table c) (version_heads c) p
  unfolding place version_table version_base version_heads
  count_versions p q =
      off (version_table c) (version_heads c) p (λ e. omega arith) (λ k l e. omega arith) (λ i o r l e. omega arith)

  pub count_locks : (p : ℕ) → p ≤ H_ACCESSES → Off (lock_table c) (lock_heads c) p
  unfolding place lock_table lock_base lock_heads
  count_locks p q =
      off (lock_table c) (lock_heads c) p (λ e. omega arith) (λ k l e. omega arith) (λ i o r l e. omega arith)

  pub count_accesses : (p : ℕ) → p ≤ H_ACCESSES → Off (access_table c) (access_heads c) p
  unfolding place access_table access_base access_heads slot_base
  count_accesses p q =
      off (access_table c) (access_heads c) p (λ e. omega arith) (λ k l e. omega arith) (λ i o r l e. omega arith)

  -- floors
  pub floor_versions : (x : ℕ) → x < c.records
      → Off (version_table c) (version_heads c) (place (record_table c) (suc x) R_FLOOR)
  unfolding place record_table version_table version_base version_heads
  floor_versions x q =
      off (version_table c) (version_heads c) (place (record_table c) (suc x) R_FLOOR) (λ e. omega arith)
      (λ k l e. omega arith) (λ i o r l e. omega arith)

  pub floor_locks : (x : ℕ) → x < c.records → Off (lock_table c) (lock_heads c) (place (record_table c) (suc x) R_FLOOR)
  unfolding place record_table lock_table lock_base lock_heads
  floor_locks x q =
      off (lock_table c) (lock_heads c) (place (record_table c) (suc x) R_FLOOR) (λ e. omega arith)
      (λ k l e. omega arith)
      (λ i o r l e. omega arith)

  pub floor_accesses : (x : ℕ) → x < c.records
      → Off (access_table c) (access_heads c) (place (record_table c) (suc x) R_FLOOR)
  unfolding place record_table access_table access_base access_heads slot_base
  floor_accesses x q =
      off (access_table c) (access_heads c) (place (record_table c) (suc x) R_FLOOR) (λ e. omega arith)
      (λ k l e. omega arith) (λ i o r l e. omega arith)

  -- a slot's words but the head of its chain
  module _ (k u : ℕ) (s : IsRow c.edits k) (b : u < SLOT) where
    pub slot_versions : Off (version_table c) (version_heads c) (place (slot_table c) k u)
    unfolding place slot_table slot_base version_table version_base version_heads
    slot_versions =
        off (version_table c) (version_heads c) (place (slot_table c) k u) (λ e. omega arith) (λ j l e. omega arith)
        (λ i o r l e. omega (arith, s.low, s.high, r.low))

    pub slot_locks : Off (lock_table c) (lock_heads c) (place (slot_table c) k u)
    unfolding place slot_table slot_base lock_table lock_base lock_heads
    slot_locks =
        off (lock_table c) (lock_heads c) (place (slot_table c) k u) (λ e. omega arith) (λ j l e. omega arith)
        (λ i o r l e. omega (arith, s.low, s.high, r.low))

    pub slot_accesses : (u ≡ S_ACCESS → ⊥) → Off (access_table c) (access_heads c) (place (slot_table c) k u)
    unfolding place slot_table slot_base access_table access_base access_heads
    slot_accesses n =
        off (access_table c) (access_heads c) (place (slot_table c) k u) (λ e. omega arith)
        (λ j l e. n (omega (arith, s.low))) (λ i o r l e. omega (arith, s.low, s.high, r.low))

-- Two tables
apart_off : {t : Table} {h : Heads} {t₂ : Table} {h₂ : Heads} → Off t h h₂.free
    → ((j : ℕ) → j < h₂.owners → Off t h (h₂.first + j * h₂.step))
    → ((x u : ℕ) → IsRow t₂.count x → u < t₂.stride → Off t h (place t₂ x u)) → Apart t h t₂ h₂
unfolding head_cell
apart_off {t} {h} {t₂} {h₂} f g r = record {
  heads = λ j k p q e. (head j p).heads k q e;
  head_row = λ j i o p q l e. (head j p).rows i o q l e;
  row_head = λ x u k p l q e. (r x u p l).heads k q e;
  rows = λ x u i o p l q m e. (r x u p l).rows i o q m e;
}
  where
    head : (j : ℕ) → j ≤ h₂.owners → Off t h (head_cell h₂ j)
    head zero p = f
    head (suc j) p = g j (omega arith)

apart_sym : {t : Table} {h : Heads} {t₂ : Table} {h₂ : Heads} → Apart t h t₂ h₂ → Apart t₂ h₂ t h
apart_sym a = record {
  heads = λ j k p q e. a.heads k j q p (sym e);
  head_row = λ j i o p q l e. a.row_head i o j q l p (sym e);
  row_head = λ x u k p l q e. a.head_row k x u q p l (sym e);
  rows = λ x u i o p l q m e. a.rows i o x u q m p l (sym e);
}

module _ (c : Counts) where
  pub locks_versions : Apart (lock_table c) (lock_heads c) (version_table c) (version_heads c)
  unfolding place lock_table lock_base lock_heads version_table version_base version_heads
  locks_versions = apart_off
      (off (lock_table c) (lock_heads c) (version_heads c).free (λ e. omega arith) (λ k l e. omega arith)
      (λ i o r l e. omega arith))
      (λ j p. off (lock_table c) (lock_heads c) ((version_heads c).first + j * (version_heads c).step)
      (λ e. omega arith)
      (λ k l e. omega arith) (λ i o r l e. omega arith))
      (λ x u s b. off (lock_table c) (lock_heads c) (place (version_table c) x u) (λ e. omega arith)
      (λ k l e. omega arith)
      (λ i o r l e. omega (arith, s.low, s.high, r.low)))

  pub accesses_versions : Apart (access_table c) (access_heads c) (version_table c) (version_heads c)
  unfolding place access_table access_base access_heads slot_base version_table version_base version_heads
  accesses_versions = apart_off
      (off (access_table c) (access_heads c) (version_heads c).free (λ e. omega arith) (λ k l e. omega arith)
      (λ i o r l e. omega arith))
      (λ j p. off (access_table c) (access_heads c) ((version_heads c).first + j * (version_heads c).step)
      (λ e. omega arith)
      (λ k l e. omega arith) (λ i o r l e. omega arith))
      (λ x u s b. off (access_table c) (access_heads c) (place (version_table c) x u) (λ e. omega arith)
      (λ k l e. omega arith) (λ i o r l e. omega (arith, s.low, s.high, r.low)))

  pub accesses_locks : Apart (access_table c) (access_heads c) (lock_table c) (lock_heads c)
  unfolding place access_table access_base access_heads slot_base lock_table lock_base lock_heads
  accesses_locks = apart_off
      (off (access_table c) (access_heads c) (lock_heads c).free (λ e. omega arith) (λ k l e. omega arith)
      (λ i o r l e. omega arith))
      (λ j p. off (access_table c) (access_heads c) ((lock_heads c).first + j * (lock_heads c).step) (λ e. omega arith)
      (λ k l e. omega arith) (λ i o r l e. omega arith))
      (λ x u s b. off (access_table c) (access_heads c) (place (lock_table c) x u) (λ e. omega arith)
      (λ k l e. omega arith) (λ i o r l e. omega (arith, s.low, s.high, r.low)))

  pub versions_locks : Apart (version_table c) (version_heads c) (lock_table c) (lock_heads c)
  versions_locks = apart_sym locks_versions

  pub versions_accesses : Apart (version_table c) (version_heads c) (access_table c) (access_heads c)
  versions_accesses = apart_sym accesses_versions

  pub locks_accesses : Apart (lock_table c) (lock_heads c) (access_table c) (access_heads c)
  locks_accesses = apart_sym accesses_locks
