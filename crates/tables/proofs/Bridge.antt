-- `formed`, which is computed, and `Well`, its plain facts: each from the other; soundness of well-formed words. Rests
-- on Header.
use Prim.Native.Nat.{ℕ, zero, suc, ◌≤◌}
use mathlib.Core.Path.{◌≡◌, refl, ap, ◌∙◌}
use mathlib.Core.Bool.{true}
use mathlib.Core.List.{List, [], ◌∷◌}
use native.Mathlib.Omega.{arith}
use Rattle.chains.specs.Lists.{all_of}
use Rattle.chains.proofs.Bounded.{both_true, all_at, all_all}
use Rattle.meaning.proofs.Lists.{every_at, and_in}
use Rattle.types.specs.declared.Counts.{Counts}
use Rattle.tables.specs.Layout.{counts_of, header_ok, Fits}
use Rattle.meaning.specs.Sound.{sound_store}
use Rattle.tables.specs.Decode.{lock_rows, access_rows, decode_at}
use Rattle.tables.specs.Words.{versions_parted, locks_parted, accesses_parted, names_record, locks_named, marked}
use Rattle.tables.specs.Words.{marks_listed, formed_at, Well, formed, lent, decode, sound_words}
use Rattle.tables.proofs.Header.{header_fits, fits_header}

module _ (c : Counts) (w : List ℕ) where
  pub well_at : Fits c w → formed_at c w ≡ true → Well c w
  unfolding formed_at versions_parted locks_parted accesses_parted locks_named marks_listed
  well_at f e =
      let at =
      every_at (versions_parted c w ∷ locks_parted c w ∷ accesses_parted c w ∷ locks_named c w ∷ marks_listed c w ∷ [])
      e in
      record {
        fits = f;
        versions_parted_lem = at 0;
        locks_parted_lem = at 1;
        accesses_parted_lem = at 2;
        named = λ r l. all_at (λ r. all_of (names_record c w r) (lock_rows c w r)) c.records r (at 3) l;
        marks = λ k p q. marks_at (at 4) k p q;
      }
    where
      marks_at : marks_listed c w ≡ true → (k : ℕ) → 1 ≤ k → k ≤ c.edits
          → all_of (marked c w) (access_rows c w k) ≡ true
      marks_at h zero p q = absurd (omega arith)
      marks_at h (suc k) p q = all_at (λ k. all_of (marked c w) (access_rows c w (suc k))) c.edits k h (omega arith)

  pub well_formed_at : Well c w → formed_at c w ≡ true
  unfolding formed_at versions_parted locks_parted accesses_parted locks_named marks_listed
  well_formed_at W =
      and_in W.versions_parted_lem (and_in W.locks_parted_lem (and_in W.accesses_parted_lem
      (and_in (all_all (λ r. all_of (names_record c w r) (lock_rows c w r)) c.records W.named)
      (and_in (all_all (λ k. all_of (marked c w) (access_rows c w (suc k))) c.edits
      (λ k l. W.marks (suc k) (omega arith) (omega arith))) refl))))

pub well_out : (w : List ℕ) → formed w ≡ true → Well (counts_of w) w
unfolding formed
well_out w e =
    let b = both_true (header_ok w) (formed_at (counts_of w) w) e in well_at (counts_of w) w (header_fits w b.0) b.1

pub well_in : (c : Counts) (w : List ℕ) → Well c w → formed w ≡ true
unfolding formed
well_in c w W = and_in (fits_header c w W.fits) (ap (λ d. formed_at d w) W.fits.counts ∙ well_formed_at c w W)

-- so well-formed words are sound exactly if what they mean is
pub sound_out : (w : List ℕ) → sound_words (lent w) ≡ true
    → Well (counts_of w) w × (sound_store (decode_at (counts_of w) w) ≡ true)
unfolding sound_words decode
sound_out w e = let b = both_true (formed w) (sound_store (decode_at (counts_of w) w)) e in (well_out w b.0, b.1)

pub sound_well : (c : Counts) (w : List ℕ) → Well c w → sound_words (lent w) ≡ sound_store (decode_at c w)
unfolding sound_words decode
sound_well c w W = rw (well_in c w W, W.fits.counts) refl
