-- Commit meets its contract: what the searches ask for, and one law for each return. Rests on Ended, CommitExits and
-- Acting of `calls`.
use Rattle.std.specs.Prelude.{Result, Err}
use Prim.Native.Nat.{ℕ}
use mathlib.Core.Path.{◌≡◌, refl, sym, ap, ◌∙◌}
use mathlib.Core.Bool.{Bool, true, false}
use mathlib.Core.List.{List, []}
use lib.Dec.{ltb}
use lib.ListN.{length}
use borrow.Author.Tests.{lt-ltb}
use Rattle.chains.specs.Walk.{IsRow}
use Rattle.types.specs.Limits.{LAST, OPEN}
use Rattle.types.specs.declared.Counts.{Counts}
use Rattle.types.specs.declared.Point.{Point}
use Rattle.types.specs.declared.Pick.{Pick}
use Rattle.types.specs.declared.Pick.TheVariants.{Earliest, Latest, Named}
use Rattle.types.specs.declared.Finish.{Finish}
use Rattle.meaning.specs.Store.{Store, edit_at}
use Rattle.types.specs.Numbers.{slot_of}
use Rattle.meaning.specs.Points.{in_common, earliest, latest}
use Rattle.types.specs.Replies.{Reply, commit, nopoint, refusing, of_refusal}
use Rattle.types.specs.declared.Refusal.{Refusal}
use Rattle.types.specs.declared.Refusal.TheVariants.{BadPoint}
use Rattle.calls.specs.Checks.{open_slot}
use Rattle.meaning.specs.Outcomes.{Outcome, replies, knows, is_open, version_room}
use Rattle.meaning.specs.Ending.{finished, committed, aborted, good_pick, commit_open, committing}
use Rattle.meaning.specs.Sound.{names_existing}
use Rattle.meaning.proofs.Lists.{all_in}
use Rattle.meaning.proofs.SoundParts.{sound_out}
use Rattle.meaning.proofs.EndingSound.{commit_keeps}
use Rattle.tables.specs.Layout.{counts_of}
use Rattle.tables.specs.Decode.{records_of, slot_at, decode_at}
use Rattle.tables.specs.Words.{lent, sound_words}
use Rattle.tables.proofs.Decoded.{decoded_records, edit_at_lem}
use Rattle.blocking.specs.Search.{AllRise}
use Rattle.changes.specs.Becomes.{Becomes}
use Rattle.calls.specs.Contract.{Acts, Ready, Makes}
use Rattle.calls.proofs.Acting.{all_rise, makes_refused, makes_done, makes_as, acts}
use Rattle.std.specs.Prelude.{Option, None, Some}
use Rattle.blocking.specs.Search.{upto}
use Rattle.blocking.proofs.Answered.{upto_some, upto_none}
use Rattle.common.specs.Commit.{positive}
use Rattle.endings.specs.Parts.{commit_at, commit_at_or_none, CommonAt}
use Rattle.commits.proofs.CommitExits
use Rattle.endings.proofs.Ended.{open_row}
use Rattle.endings.proofs.EndActs.{acts_refused}

module _ (c : Counts) (w : List ℕ) (k : ℕ) (R : Ready c w) (st : (edit_at (decode_at c w) k).state ≡ OPEN) where
  abbrev s : Store
  s = decode_at c w

  row : IsRow c.edits k
  row = open_row c w k R st

  -- what the searches of the common set ask for
  names_there : names_existing s.records (edit_at s k) ≡ true
  unfolding names_existing
  names_there =
      all_in (λ a. ltb a.rec (length s.records)) (edit_at s k).accesses
      (λ a m. lt-ltb a.rec (length s.records) (((sound_out s R.store).edits k).existing a m))

  pub search_needs : AllRise c w × (names_existing (records_of c w) (slot_at c w k) ≡ true)
  search_needs = (all_rise c w R, rw (decoded_records c w, edit_at_lem c w k row) at names_there)

  -- what they find, of the store
  pub first_is : {t : ℕ} → t ≡ earliest (records_of c w) k (slot_at c w k) → t ≡ earliest s.records k (edit_at s k)
  first_is e = rw (decoded_records c w, edit_at_lem c w k row) e

  pub last_is : {t : ℕ} → t ≡ latest (records_of c w) k (slot_at c w k) → t ≡ latest s.records k (edit_at s k)
  last_is e = rw (decoded_records c w, edit_at_lem c w k row) e

  pub common_is : (p : ℕ) {q b : Bool} → q ≡ in_common (records_of c w) k (slot_at c w k) p → q ≡ b
      → in_common s.records k (edit_at s k) p ≡ b
  common_is p e f = rw (decoded_records c w, edit_at_lem c w k row) (sym e ∙ f)

  -- at a point
  module _ (f : Finish) (t : ℕ) where
    pub at_full : version_room s k ≡ false → Makes c (commit_at s k t f) w w (refusing 12 [])
    at_full e = makes_refused c w (commit_at s k t f) 12 [] R.well (CommitExits.at_full s k f t e)

    pub at_done : version_room s k ≡ true → (w' : List ℕ) (p : ℕ) → p ≡ t
        → Becomes c w' (finished f (committed s k t) k)
        → Makes c (commit_at s k t f) w w' (commit p)
    at_done e w' p q B =
        rw q (makes_done c w (commit_at s k t f) w' (finished f (committed s k t) k) (commit t) B.well B.means
        (CommitExits.at_done s k f t e) refl)

  -- nowhere
  abbrev none : Finish → Outcome
  none f = replies (finished f (aborted s k) k) nopoint

  pub none_done : (f : Finish) (w' : List ℕ) → Becomes c w' (finished f (aborted s k) k) → Makes c (none f) w w' nopoint
  none_done f w' B = makes_done c w (none f) w' (finished f (aborted s k) k) nopoint B.well B.means refl refl

  -- E and L, at what the search found
  module _ (f : Finish) {o : Option ℕ} where
    pub earliest_at : o ≡ upto LAST (earliest (records_of c w) k (slot_at c w k))
        → CommonAt s k o × (commit_open s k Earliest f ≡ commit_at_or_none s k o f)
    earliest_at e = CommitExits.at_earliest s k f (e ∙ ap (upto LAST) (first_is refl))

    pub latest_at : o ≡ positive (latest (records_of c w) k (slot_at c w k))
        → CommonAt s k o × (commit_open s k Latest f ≡ commit_at_or_none s k o f)
    latest_at e = CommitExits.at_latest s k f (e ∙ ap positive (last_is refl))

  -- a named point
  module _ (f : Finish) (p : Point) (x : ℕ) (ex : x ≡ p.0) (q : Bool)
      (eq : q ≡ in_common (records_of c w) k (slot_at c w k) x) where
    pub named_common : q ≡ true → in_common s.records k (edit_at s k) x ≡ true
    named_common z = common_is x eq z

    pub named_in : q ≡ true → (w' : List ℕ) (r : Reply) → Makes c (commit_at s k x f) w w' r
        → Makes c (commit_open s k (Named p) f) w w' r
    named_in z w' r M = makes_as c w (CommitExits.named_in s k f p (rw ex at (common_is x eq z))) (rw ex at M)

    pub named_none : None ≡ upto LAST (earliest (records_of c w) k (slot_at c w k)) → (w' : List ℕ) (r : Reply)
        → Makes c (none f) w w' r
        → Makes c (commit_open s k (Named p) f) w w' r
    named_none e w' r M =
        makes_as c w (CommitExits.named_none s k f p
        (rw (first_is refl) at (upto_none LAST (earliest (records_of c w) k (slot_at c w k)) e))) M

    pub named_out : q ≡ false → {t : ℕ} → Some t ≡ upto LAST (earliest (records_of c w) k (slot_at c w k))
        → Makes c (commit_open s k (Named p) f) w w (refusing 14 [])
    named_out z e =
        makes_refused c w (commit_open s k (Named p) f) 14 [] R.well
        (CommitExits.named_out s k f p (rw ex at (common_is x eq z))
        (rw (first_is refl) at (upto_some LAST (earliest (records_of c w) k (slot_at c w k)) e).1))

-- the call
module _ (w : List ℕ) (c : Counts) (P : sound_words (lent w) ≡ true) (E : c ≡ counts_of w) (h : ℕ) (pick : Pick)
    (f : Finish) where
  abbrev call : Store → Outcome
  call = committing h pick f

  pub commit_refused : {q : Result ℕ Refusal} {x : Refusal} → q ≡ open_slot (decode_at c w) h → q ≡ Err x
      → Acts call (lent w) (lent w) (of_refusal x)
  commit_refused {q} {x} m e =
      acts_refused call (commit_keeps h pick f) w c P E x (CommitExits.commit_closed (decode_at c w) h pick f m e)

  module _ (known : knows (decode_at c w) h ≡ true) where
    pub commit_bad_point : is_open (decode_at c w) h ≡ true → good_pick pick ≡ false
        → Acts call (lent w) (lent w) (refusing 6 [])
    commit_bad_point e g =
        acts_refused call (commit_keeps h pick f) w c P E BadPoint
        (CommitExits.commit_bad_pick (decode_at c w) h pick f known e g)

    pub commit_acts : is_open (decode_at c w) h ≡ true → good_pick pick ≡ true → (k : ℕ) → k ≡ slot_of h
        → (w' : List ℕ) (r : Reply)
        → Makes c (commit_open (decode_at c w) k pick f) w w' r → Acts call (lent w) (lent w') r
    commit_acts e g k q w' r M =
        acts call (commit_keeps h pick f) c w w' r P E
        (makes_as c w (CommitExits.commit_passes (decode_at c w) h pick f known e g) (rw q at M))
