-- Commit, Abort, Settle and Purge keep a sound store sound. Rests on Committed, Settled and Purged, and on the laws of
-- the common set and of the newest version.
use Prim.Native.Nat.{ℕ, suc, ◌+◌, ◌-◌, ◌<◌}
use native.Mathlib.Omega.{arith}
use mathlib.Core.Path.{◌≡◌, refl, ap}
use mathlib.Core.Logic.{◌⊎◌, inl, inr}
use mathlib.Core.Bool.{Bool, true, false, not, cond, ◌&&◌}
use mathlib.Core.List.{List}
use lib.Dec.{leb}
use lib.ListN.{length}
use borrow.Author.Tests.{leb-true, leb-false, ltb-true, ltb-false, not-true}
use Rattle.meaning.specs.Lists.{◌∈◌, any}
use Rattle.types.specs.Limits.{LAST, SETTLED, FREE, OPEN}
use Rattle.meaning.specs.Store.{Version, Lock, Rec, Edit, Store, slot_of, edit_at, rec_at, with_rec, newest_at}
use Rattle.meaning.specs.Store.{versions_used, written_of}
use Rattle.meaning.specs.Points.{is_owned, earliest, latest}
use Rattle.meaning.specs.Outcomes.{replies, pass, needs, unless, knows, is_open, has_record, version_room}
use Rattle.types.specs.Replies.{ok, commit, nopoint, purged}
use Rattle.meaning.specs.Ending.{finished, settled, committed, aborted, good_pick, chosen, allowed, no_common}
use Rattle.meaning.specs.Ending.{commit_verdict, commit_open, commit_open_by, commit_checks, committing, committing_by}
use Rattle.meaning.specs.Ending.{abort_checks, aborting, aborting_by}
use Rattle.meaning.specs.Ending.{settle_checks, settling, settling_by}
use Rattle.meaning.specs.Records.{purged_rec, purge_verdict, purge_to, purge_checks, purging}
use Rattle.meaning.specs.Sound.{sound_store}
use Rattle.meaning.specs.SoundFacts.{SoundStore}
use Rattle.meaning.specs.Pointwise.{InCommonSet, EmptyCommonSet, LeastCommon, GreatestCommon, VersionOn, NewestIs}
use Rattle.meaning.specs.Pointwise.{none, one}
use Rattle.types.specs.declared.Pick.{Pick}
use Rattle.types.specs.declared.Pick.TheVariants.{Earliest, Latest, Named}
use Rattle.types.specs.declared.Finish.{Finish}
use Rattle.types.specs.declared.Finish.TheVariants as F
use Rattle.meaning.proofs.CallsKeep.{IsSound}
use Rattle.meaning.proofs.Lists.{and_in, any_none}
use Rattle.meaning.proofs.Tests.{other_in}
use Rattle.meaning.proofs.Stores.{used_range}
use Rattle.meaning.proofs.Changed.{edit_committed, edit_aborted}
use Rattle.meaning.proofs.Verdicts.{needs_pass, unless_keeps, knows_out, for_open_pass}
use Rattle.meaning.proofs.CommonSet.{common_set_is}
use Rattle.meaning.proofs.CommonEnds.{earliest_is_least, latest_is_greatest}
use Rattle.meaning.proofs.Newest.{newest_at_is}
use Rattle.meaning.proofs.SoundParts.{sound_out, sound_in}
use Rattle.meaning.proofs.EditChanged.{aborted_sound}
use Rattle.meaning.proofs.Committed.{committed_sound}
use Rattle.meaning.proofs.Settled.{settled_sound}
use Rattle.meaning.proofs.Purged.{purged_sound}

-- the end of an edit, settled or not
finished_sound : (f : Finish) (s : Store) (k : ℕ) → SoundStore s → ((edit_at s k).state ≡ FREE → ⊥)
    → IsSound (finished f s k)
finished_sound F.Settle s k good used = sound_in (settled s k) (settled_sound s k good used)
finished_sound F.Keep s k good used = sound_in s good

-- the point chosen is in the common set, if that is not empty
module _ (s : Store) (k : ℕ) (some : no_common s k ≡ false) where
  abbrev In : ℕ → Type 0
  In p = InCommonSet s.records k (edit_at s k) p

  abbrev low : ℕ
  low = earliest s.records k (edit_at s k)

  abbrev high : ℕ
  high = latest s.records k (edit_at s k)

  earliest_common : In low
  unfolding no_common
  earliest_common = go (earliest_is_least s.records k (edit_at s k))
    where
      go : LeastCommon s.records k (edit_at s k) low ⊎ ((low ≡ suc LAST) × EmptyCommonSet s.records k (edit_at s k))
          → In low
      go (inl c) = c.common
      go (inr w) = absurd (omega (arith, ltb-false LAST low some, w.0))

  latest_common : In high
  latest_common = go (latest_is_greatest s.records k (edit_at s k))
    where
      go : GreatestCommon s.records k (edit_at s k) high ⊎ ((high ≡ 0) × EmptyCommonSet s.records k (edit_at s k))
          → In high
      go (inl c) = c.common
      go (inr w) = absurd (w.1 low earliest_common)

  pub chosen_common : (pick : Pick) → allowed s k pick ≡ true → In (chosen s k pick)
  chosen_common Earliest h = earliest_common
  chosen_common Latest h = latest_common
  chosen_common (Named p) h = (common_set_is s.records k (edit_at s k) p.0).0 h

module _ (s : Store) (k : ℕ) (holds : IsSound s) (st : (edit_at s k).state ≡ OPEN) where
  aborted_finished : (f : Finish) → IsSound (finished f (aborted s k) k)
  aborted_finished f =
      finished_sound f (aborted s k) k (aborted_sound s (sound_out s holds) k st)
      (λ z. omega
      (arith, z, ap (λ (e : Edit). e.state) (edit_aborted s k (used_range s.edits k (λ y. omega (arith, st, y))))))

  committed_finished : (f : Finish) (t : ℕ) → InCommonSet s.records k (edit_at s k) t → version_room s k ≡ true
      → IsSound (finished f (committed s k t) k)
  unfolding version_room
  committed_finished f t c room =
      finished_sound f (committed s k t) k
      (committed_sound s k t (sound_out s holds) st c
      (leb-true (versions_used s + length (written_of (edit_at s k))) s.version_rows room))
      (λ z. omega (
        arith,
        z,
        ap (λ (e : Edit). e.state) (edit_committed s k t (used_range s.edits k (λ y. omega (arith, st, y)))),
      ))

  open_keeps : (pick : Pick) (f : Finish) → IsSound (commit_open s k pick f).store
  unfolding commit_open_by commit_verdict
  open_keeps pick f = go (no_common s k) refl
    where
      go : (b : Bool) → no_common s k ≡ b
          → IsSound (cond b (replies (finished f (aborted s k) k) nopoint)
          (unless s (needs (allowed s k pick) 14 (needs (version_room s k) 12 pass))
          (replies (finished f (committed s k (chosen s k pick)) k) (commit (chosen s k pick))))).store
      go true q = aborted_finished f
      go false q =
          unless_keeps IsSound s (needs (allowed s k pick) 14 (needs (version_room s k) 12 pass))
          (replies (finished f (committed s k (chosen s k pick)) k) (commit (chosen s k pick)))
          holds
          (λ e.
          let a = needs_pass (allowed s k pick) 14 (needs (version_room s k) 12 pass) e in
          let b = needs_pass (version_room s k) 12 pass a.1 in
          committed_finished f (chosen s k pick) (chosen_common s k q pick a.0) b.0)

pub commit_keeps : (h : ℕ) (pick : Pick) (f : Finish) (s : Store) → sound_store s ≡ true
    → sound_store (committing h pick f s).store ≡ true
unfolding committing_by commit_checks
commit_keeps h pick f s holds =
    unless_keeps IsSound s (commit_checks s h pick) (commit_open s (slot_of h) pick f) holds
    (λ e. open_keeps s (slot_of h) holds (for_open_pass s h (needs (good_pick pick) 6 pass) e).state pick f)

pub abort_keeps : (h : ℕ) (f : Finish) (s : Store) → sound_store s ≡ true → sound_store (aborting h f s).store ≡ true
unfolding aborting_by abort_checks
abort_keeps h f s holds =
    unless_keeps IsSound s (abort_checks s h) (replies (finished f (aborted s (slot_of h)) (slot_of h)) ok) holds
    (λ e. aborted_finished s (slot_of h) holds (for_open_pass s h pass e).state f)

pub settle_keeps : (h : ℕ) (s : Store) → sound_store s ≡ true → sound_store (settling h s).store ≡ true
unfolding settling_by settle_checks
settle_keeps h s holds =
    unless_keeps IsSound s (settle_checks s h) (replies (settled s (slot_of h)) ok) holds
    (λ e.
    let a = needs_pass (knows s h) 2 (needs (not (is_open s h)) 4 pass) e in
    sound_in (settled s (slot_of h)) (settled_sound s (slot_of h) (sound_out s holds) (knows_out s h a.0).used))

-- the newest version at or below b stands there, if its point is above 0
newest_stands : (x : Rec) (v : Version) (bound : ℕ) → NewestIs x.versions bound v → 0 < v.point
    → VersionOn x v.point
newest_stands x v bound (none z f) h = absurd (omega (arith, h, ap (λ (w : Version). w.point) z))
newest_stands x v bound (one m l f) h = record { version = v; member = m; stands = refl }

abbrev barring : ℕ → Lock → Bool
barring v l = not (is_owned SETTLED l) && leb l.low v

-- 15 is not given: no unsettled lock is at or below v
unbarred : (ls : List Lock) (v : ℕ) → not (any (barring v) ls) ≡ true → (l : Lock) → l ∈ ls → (l.owner ≡ SETTLED → ⊥)
    → v < l.low
unbarred ls v h l m d = go (leb l.low v) refl
  where
    go : (b : Bool) → leb l.low v ≡ b → v < l.low
    go true q = absurd (any_none (barring v) ls (not-true (any (barring v) ls) h) m (and_in (other_in SETTLED l d) q))
    go false q = leb-false l.low v q

module _ (s : Store) (r b : ℕ) (holds : IsSound s) (there : has_record s r ≡ true) where
  abbrev x : Rec
  x = rec_at s r

  abbrev v : ℕ
  v = (newest_at x.versions b).point

  purged_keeps : x.floor < v → not (any (barring v) x.locks) ≡ true → SoundStore (with_rec s r (purged_rec x v))
  unfolding has_record
  purged_keeps h q =
      let good = sound_out s holds in
      purged_sound s r v good (ltb-true r (length s.records) there)
      (newest_stands x (newest_at x.versions b) (suc b) (newest_at_is x b (good.recs r).falls) (omega arith)) h
      (unbarred x.locks v q)

  to_keeps : IsSound (purge_to s r v).store
  unfolding purge_to purge_verdict
  to_keeps = go (leb v x.floor) refl
    where
      go : (c : Bool) → leb v x.floor ≡ c
          → IsSound (cond c (replies s (purged 0 0))
          (unless s (needs (not (any (barring v) x.locks)) 15 pass)
          (replies (with_rec s r (purged_rec x v))
          (purged (length x.versions - length (purged_rec x v).versions)
          (length x.locks - length (purged_rec x v).locks))))).store
      go true q = holds
      go false q =
          unless_keeps IsSound s (needs (not (any (barring v) x.locks)) 15 pass) _ holds
          (λ e.
          sound_in (with_rec s r (purged_rec x v))
          (purged_keeps (leb-false v x.floor q) (needs_pass (not (any (barring v) x.locks)) 15 pass e).0))

pub purge_keeps : (r b : ℕ) (s : Store) → sound_store s ≡ true → sound_store (purging r b s).store ≡ true
unfolding purging purge_checks
purge_keeps r b s holds =
    unless_keeps IsSound s (purge_checks s r b) (purge_to s r (newest_at (rec_at s r).versions b).point) holds
    (λ e. to_keeps s r b holds (needs_pass (has_record s r) 5 (needs (leb b LAST) 6 pass) e).0)
