-- An open edit ends: what is sound and what the words mean after its state is set, aborted or committed. Rests on
-- Saving, Settling and the soundness laws of `meaning`.
use Prim.Native.Nat.{ℕ, ◌+◌, ◌≤◌}
use native.Mathlib.Omega.{arith}
use mathlib.Core.Path.{◌≡◌, ap, ◌∙◌}
use mathlib.Core.Bool.{true}
use mathlib.Core.List.{List}
use lib.ListN.{length}
use borrow.Author.Tests.{leb-true}
use Rattle.chains.specs.Walk.{IsRow}
use Rattle.types.specs.Limits.{FREE, OPEN, COMMITTED, ABORTED}
use Rattle.types.specs.declared.Counts.{Counts}
use Rattle.types.specs.declared.Finish.{Finish}
use Rattle.meaning.specs.Store.{Edit, Store, edit_at, in_use, with_records, written_of, versions_used}
use Rattle.meaning.specs.Points.{in_common}
use Rattle.meaning.specs.Outcomes.{version_room}
use Rattle.meaning.specs.Ending.{ended, finished, committed, aborted}
use Rattle.meaning.specs.SoundFacts.{SoundStore}
use Rattle.meaning.proofs.Stores.{InRange, used_in, used_range}
use Rattle.meaning.proofs.SoundParts.{sound_out, sound_in}
use Rattle.meaning.proofs.Changed.{edit_aborted, edit_committed}
use Rattle.meaning.proofs.Committed.{committed_sound}
use Rattle.meaning.proofs.EditChanged.{aborted_sound}
use Rattle.meaning.proofs.Laws.{common_set_is}
use Rattle.tables.specs.Decode.{decode_at}
use Rattle.tables.specs.Words.{Well}
use Rattle.changes.specs.Becomes.{Becomes, on_edit}
use Rattle.calls.specs.Contract.{Ready}
use Rattle.endings.specs.Steps.{along, saved_rec, SaveNeed}
use Rattle.endings.proofs.Saving.{saved_all, save_start}
use Rattle.endings.proofs.Settling.{slot_in_use}

-- words that mean a sound store in which slot k is in use
still : (c : Counts) (w : List ℕ) (k : ℕ) (s : Store) → Well c w → decode_at c w ≡ s → SoundStore s
    → ((edit_at s k).state ≡ FREE → ⊥)
    → Ready c w × (in_use (decode_at c w).edits k ≡ true)
still c w k s W e good u =
    (record { well = W; store = rw e (sound_in s good) }, rw e (used_in s.edits k u))

pub finished_as : (c : Counts) (w w' : List ℕ) (f : Finish) (k : ℕ) (s : Store) → decode_at c w ≡ s
    → Becomes c w' (finished f (decode_at c w) k) → Becomes c w' (finished f s k)
finished_as c w w' f k s e B = rw e at B

module _ (c : Counts) (w : List ℕ) (k : ℕ) (R : Ready c w) (st : (edit_at (decode_at c w) k).state ≡ OPEN) where
  abbrev s : Store
  s = decode_at c w

  not_free : (edit_at s k).state ≡ FREE → ⊥
  not_free z = omega (arith, st)

  range : InRange s.edits k
  range = used_range s.edits k not_free

  pub open_row : IsRow c.edits k
  open_row = slot_in_use c w k (used_in s.edits k not_free)

  -- aborted
  module _ (w₁ : List ℕ) (B : Becomes c w₁ (on_edit s k (λ e. ended e ABORTED 0))) where
    aborted_means : decode_at c w₁ ≡ aborted s k
    unfolding aborted
    aborted_means = B.means

    pub aborted_ready : Ready c w₁ × (in_use (decode_at c w₁).edits k ≡ true)
    aborted_ready =
        still c w₁ k (aborted s k) B.well aborted_means (aborted_sound s (sound_out s R.store) k st)
        (λ z. omega (arith, z, ap (λ (e : Edit). e.state) (edit_aborted s k range)))

    pub aborted_ends : (f : Finish) (w₂ : List ℕ) → Becomes c w₂ (finished f (decode_at c w₁) k)
        → Becomes c w₂ (finished f (aborted s k) k)
    aborted_ends f w₂ D = finished_as c w₁ w₂ f k (aborted s k) aborted_means D

  -- committed at t
  module _ (t : ℕ) (common : in_common s.records k (edit_at s k) t ≡ true) (room : version_room s k ≡ true) where
    pub save_needs : Well c w × IsRow c.edits k × (1 ≤ t) × SaveNeed (edit_at s k).accesses s
    save_needs = (
      R.well,
      open_row,
      ((common_set_is s.records k (edit_at s k) t).0 common).least,
      save_start s k (sound_out s R.store) room,
    )

    module _ (w₁ w₂ : List ℕ) (S : Becomes c w₁ (along (saved_rec t) (edit_at s k).accesses s))
        (B : Becomes c w₂ (on_edit (decode_at c w₁) k (λ e. ended e COMMITTED t))) where
      committed_means : decode_at c w₂ ≡ committed s k t
      unfolding committed with_records
      committed_means =
          B.means ∙ ap (λ (x : Store). on_edit x k (λ e. ended e COMMITTED t))
          (S.means ∙ saved_all s k t (sound_out s R.store))

      pub committed_ready : Ready c w₂ × (in_use (decode_at c w₂).edits k ≡ true)
      unfolding version_room
      committed_ready =
          still c w₂ k (committed s k t) B.well committed_means
          (committed_sound s k t (sound_out s R.store) st ((common_set_is s.records k (edit_at s k) t).0 common)
          (leb-true (versions_used s + length (written_of (edit_at s k))) s.version_rows room))
          (λ z. omega (arith, z, ap (λ (e : Edit). e.state) (edit_committed s k t range)))

      pub committed_ends : (f : Finish) (w₃ : List ℕ) → Becomes c w₃ (finished f (decode_at c w₂) k)
          → Becomes c w₃ (finished f (committed s k t) k)
      committed_ends f w₃ D = finished_as c w₂ w₃ f k (committed s k t) committed_means D
