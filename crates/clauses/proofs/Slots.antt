-- All records and all slots, as loops over their numbers. Rests on Records and on Builds of the crate `tables`.
use Prim.Native.Nat.{ℕ, suc, ◌+◌, ◌-◌, ◌<◌}
use mathlib.Core.Path.{◌≡◌, refl, sym, ap, ◌∙◌}
use mathlib.Core.Bool.{true}
use mathlib.Core.List.{List}
use native.Mathlib.Omega.{arith}
use lib.ListN.{replicate, length-replicate}
use Rattle.chains.specs.Lists.{all_to}
use Rattle.chains.proofs.Bounded.{all_ext, all_at, all_all}
use Rattle.chains.proofs.Parts.{zeros}
use Rattle.types.specs.Limits.{MAX_RECORDS}
use Rattle.meaning.specs.Lists.{pairwise}
use Rattle.meaning.specs.Points.{no_later}
use Rattle.meaning.specs.Sound.{versions_backed, sound_rec, sound_edit}
use Rattle.types.specs.declared.Counts.{Counts}
use Rattle.tables.specs.Decode.{record_at, slot_at, records_of, edits_of}
use Rattle.tables.proofs.Builds.{all_from_build}
use Rattle.clauses.specs.Clauses.{Stamps, record_rest, is_backed, records_sound, slots_sound, locks_pass, all_pass}
use Rattle.clauses.proofs.Records.{locks_rise_lem, rec_checked, rec_passes}

module _ (c : Counts) (w : List ℕ) where
  pub records_all : all_to c.records (λ j. sound_rec (edits_of c w) j (record_at c w j)) ≡ records_sound c w
  unfolding records_sound records_of
  records_all =
      all_ext (λ j. sound_rec (edits_of c w) j (record_at c w j))
      (λ j. sound_rec (edits_of c w) (0 + j) (record_at c w j))
      c.records
      (λ j l. let e : j ≡ 0 + j = omega arith in ap (λ i. sound_rec (edits_of c w) i (record_at c w j)) e)
      ∙ sym (all_from_build c.records 0 (record_at c w) (sound_rec (edits_of c w)))

  -- where the locks of all records pass, those of each do, and they rise; those of sound records pass
  pub pass_at : all_pass c w ≡ true → (r : ℕ) → r < c.records → locks_pass (edits_of c w) (record_at c w r) ≡ true
  unfolding all_pass
  pass_at h r l = all_at (λ j. locks_pass (edits_of c w) (record_at c w j)) c.records r h l

  pub all_rise : all_pass c w ≡ true → (r : ℕ) → r < c.records → pairwise no_later (record_at c w r).locks ≡ true
  all_rise h r l = locks_rise_lem (edits_of c w) (record_at c w r) (pass_at h r l)

  -- so that what is left of their clauses makes them sound
  pub records_passed : all_pass c w ≡ true
      → all_to c.records (λ j. record_rest (edits_of c w) j (record_at c w j)) ≡ records_sound c w
  unfolding versions_backed is_backed
  records_passed h =
      all_ext (λ j. record_rest (edits_of c w) j (record_at c w j)) (λ j. sound_rec (edits_of c w) j (record_at c w j))
      c.records (λ j l. rec_checked (edits_of c w) j (record_at c w j) (pass_at h j l) refl)
      ∙ records_all

  pub sound_pass : records_sound c w ≡ true → all_pass c w ≡ true
  unfolding all_pass
  sound_pass h =
      all_all (λ j. locks_pass (edits_of c w) (record_at c w j)) c.records (λ j l.
      rec_passes (edits_of c w) j (record_at c w j)
      (all_at (λ i. sound_rec (edits_of c w) i (record_at c w i)) c.records j (records_all ∙ h) l))

  pub slots_all : all_to c.edits (λ j. sound_edit (records_of c w) (suc j) (slot_at c w (suc j))) ≡ slots_sound c w
  unfolding slots_sound edits_of
  slots_all =
      all_ext (λ j. sound_edit (records_of c w) (suc j) (slot_at c w (suc j)))
      (λ j. sound_edit (records_of c w) (1 + j) (slot_at c w (suc j))) c.edits
      (λ j l. let e : suc j ≡ 1 + j = omega arith in ap (λ i. sound_edit (records_of c w) i (slot_at c w (suc j))) e)
      ∙ sym (all_from_build c.edits 1 (λ i. slot_at c w (suc i)) (sound_edit (records_of c w)))

-- stamps: those of the slots before the next one, and none
pub stamps_before : {k : ℕ} {m : List ℕ} → Stamps k m → Stamps (k + 1 - 1) m
stamps_before {k} s = let e : k + 1 - 1 ≡ k = omega arith in rw e s

pub stamps_new : (n : ℕ) → n ≡ MAX_RECORDS → Stamps 0 (replicate n 0)
stamps_new n e = record { size = length-replicate n 0 ∙ e; upto = λ i. omega (arith, zeros n i) }
