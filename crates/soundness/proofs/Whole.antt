-- The whole check: on well-formed words the counts are in range and the rows in use fit, so records and slots are all
-- that is left. Rests on Bridge and Rooms of the crate `tables`.
use Prim.Native.Nat.{ℕ, ◌≤◌}
use mathlib.Core.Path.{◌≡◌, refl, sym, ap, ◌∙◌}
use mathlib.Core.Bool.{Bool, true, false, ◌&&◌, and_assoc}
use mathlib.Core.List.{List, [], ◌∷◌}
use native.Mathlib.Omega.{arith}
use lib.ListN.{length}
use Rattle.meaning.specs.Lists.{all_from}
use Rattle.meaning.specs.Records.{good_counts}
use Rattle.meaning.specs.Store.{counts_of}
use Rattle.meaning.specs.Sound.{rows_fit, sound_rec, sound_edit, sound_store}
use Rattle.types.specs.declared.Counts.{Counts}
use Rattle.meaning.proofs.Lists.{and_in, and_left, and_right, every_at, not_both, false_in}
use Rattle.tables.specs.Layout as Layout
use Rattle.tables.specs.Layout.{HEADER, header_ok, Fits}
use Rattle.tables.specs.Decode.{records_of, edits_of, decode_at}
use Rattle.tables.specs.Words.{versions_parted, locks_parted, accesses_parted, locks_named, marks_listed, Well, lent}
use Rattle.tables.specs.Words.{decode}
use Rattle.tables.specs.Words.{formed_at, formed, sound_words}
use Rattle.tables.proofs.Bridge.{well_at}
use Rattle.tables.proofs.Header.{header_fits}
use Rattle.clauses.specs.Clauses.{records_sound, slots_sound, all_pass}
use Rattle.clauses.proofs.Slots.{sound_pass}
use Rattle.clauses.proofs.Steps.{and_no, and_on}
use Rattle.tables.proofs.Header.{size_least}
use Rattle.tables.proofs.Rooms.{rows_fit_lem, counts_good}
use Rattle.meaning.proofs.Lists.{both}

-- the clauses on the words: those on the three tables' chains are tested together, then the others
pub formed_together : (c : Counts) (w : List ℕ) {q : Bool}
    → q
    ≡ ((versions_parted c w && (locks_parted c w && accesses_parted c w))
    && (locks_named c w && (marks_listed c w && true)))
    → q ≡ formed_at c w
unfolding formed_at
formed_together c w e =
    let rest = locks_named c w && (marks_listed c w && true) in
    e
    ∙ and_assoc (versions_parted c w) (locks_parted c w && accesses_parted c w) rest
    ∙ ap (λ b. versions_parted c w && b) (and_assoc (locks_parted c w) (accesses_parted c w) rest)

module _ (c : Counts) (w : List ℕ) (W : Well c w) where
  store_checked : (slots_sound c w && records_sound c w) ≡ sound_store (decode_at c w)
  unfolding sound_store slots_sound records_sound decode_at
  store_checked =
      both (slots_sound c w && records_sound c w) (sound_store (decode_at c w))
      (λ h. and_in (counts_good W) (and_in (rows_fit_lem W)
      (and_in (and_right (slots_sound c w) (records_sound c w) h)
      (and_in (and_left (slots_sound c w) (records_sound c w) h) refl))))
      (λ h. let at = every_at
      (good_counts (counts_of (decode_at c w))
      ∷ rows_fit (decode_at c w)
      ∷ all_from 0 (sound_rec (edits_of c w)) (records_of c w)
      ∷ all_from 1 (sound_edit (records_of c w)) (edits_of c w)
      ∷ []) h in
      and_in (at 3) (at 2))

-- h is what the test of the header says, b of the words; c are the counts that were read
pub unfit : (w : List ℕ) {h : Bool} → h ≡ header_ok w → h ≡ false → false ≡ sound_words (lent w)
unfolding sound_words formed
unfit w e z = and_no _ (sym (and_no _ (sym e ∙ z)))

module _ (w : List ℕ) {h : Bool} (e : h ≡ header_ok w) (z : h ≡ true) where
  pub fits_read : {c : Counts} → c ≡ Layout.counts_of w → Fits c w
  fits_read {c} p = rw p (header_fits w (sym e ∙ z))

  module _ {c : Counts} (p : c ≡ Layout.counts_of w) {b : Bool} (eb : b ≡ formed_at c w) where
    formed_is : formed w ≡ b
    unfolding formed
    formed_is = sym (and_on (sym e ∙ z) (eb ∙ ap (λ d. formed_at d w) p))

    pub unformed : b ≡ false → false ≡ sound_words (lent w)
    unfolding sound_words
    unformed o = and_no _ (formed_is ∙ o)

    pub checked : b ≡ true → (slots_sound c w && records_sound c w) ≡ sound_words (lent w)
    unfolding sound_words decode
    checked o =
        and_on (formed_is ∙ o)
        (store_checked c w (well_at c w (fits_read p) (sym eb ∙ o)) ∙ ap (λ d. sound_store (decode_at d w)) p)

-- where the locks do not pass, a record is not sound
pub unpassed : (c : Counts) (w : List ℕ) {b : Bool} → b ≡ all_pass c w → b ≡ false
    → false ≡ (slots_sound c w && records_sound c w)
unpassed c w e z =
    sym (false_in (slots_sound c w && records_sound c w)
    (λ h. not_both (sound_pass c w (and_right (slots_sound c w) (records_sound c w) h)) (sym e ∙ z)))

pub header_long : (w : List ℕ) {h : Bool} → h ≡ header_ok w → h ≡ true → HEADER ≤ length w
header_long w e z = omega (arith, (header_fits w (sym e ∙ z)).size, size_least (Layout.counts_of w))

pub locks_first : (c : Counts) (w : List ℕ) {b : Bool} → b ≡ formed_at c w → b ≡ true → locks_parted c w ≡ true
unfolding formed_at
locks_first c w e z =
    every_at (versions_parted c w ∷ locks_parted c w ∷ accesses_parted c w ∷ locks_named c w ∷ marks_listed c w ∷ [])
    (sym e ∙ z) 1
