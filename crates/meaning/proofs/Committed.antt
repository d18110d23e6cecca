-- Committing an open edit at a point of its common set keeps a store sound: an own write lock shuts every other owner
-- out there, so no version stands on the point yet, and it backs the new one. Rests on Changed, Kept, EditChanged and
-- Inserted.
use Prim.Native.Nat.{ℕ, ◌+◌, ◌≤◌, ◌<◌}
use native.Mathlib.Omega.{arith}
use native.Mathlib.Nat.{le_refl}
use mathlib.Core.Path.{◌≡◌, refl, sym, ap, ◌∙◌}
use mathlib.Core.Logic.{◌⊎◌, inl, inr}
use mathlib.Core.Bool.{Bool, true, false, cond}
use mathlib.Core.List.{List}
use lib.ListN.{length}
use Rattle.meaning.specs.Lists.{◌∈◌, map_from}
use Rattle.types.specs.Limits.{LAST, WRITE, SETTLED, OPEN, COMMITTED}
use Rattle.meaning.specs.Store.{Version, Rec, Edit, Store, fresh_rec, edit_of, set_edit, rec_of, edit_at, rec_at}
use Rattle.meaning.specs.Store.{with_edit, with_records, access_of, written_of, versions_used, locks_used}
use Rattle.meaning.specs.Store.{accesses_used}
use Rattle.meaning.specs.Ending.{ended, insert, new_version, committed_rec, committed}
use Rattle.meaning.specs.Sound.{versions_fall, names_once}
use Rattle.meaning.specs.Pointwise.{LockOn, InCommonSet}
use Rattle.meaning.specs.SoundFacts.{SoundStore, SoundRec, SoundEdit, Backed, WroteAt, Present}
use Rattle.meaning.proofs.Lists.{length_map_from, total_map_from}
use Rattle.meaning.proofs.Stores.{InRange, used_range, edit_same}
use Rattle.meaning.proofs.Changed.{counts_map, rec_committed_any}
use Rattle.meaning.proofs.Kept.{Keeps, edit_kept, access_written}
use Rattle.meaning.proofs.EditChanged.{edit_changed, none_wrote}
use Rattle.meaning.proofs.Inserted.{insert_old, insert_out, insert_falls, versions_added}
use Rattle.meaning.specs.Store.{has_written}

module _ (s : Store) (k t : ℕ) (good : SoundStore s) (st : (edit_at s k).state ≡ OPEN)
    (common : InCommonSet s.records k (edit_at s k) t) where
  abbrev e : Edit
  e = edit_at s k

  abbrev done : Edit
  done = ended e COMMITTED t

  abbrev es' : List Edit
  es' = set_edit s.edits k done

  abbrev rs' : List Rec
  rs' = map_from 0 (committed_rec e t) s.records

  range : InRange s.edits k
  range = used_range s.edits k (λ z. omega (arith, st, z))

  -- a written record has an own write lock on t, so no version stands there yet
  pub own_lock : (r : ℕ) → has_written (access_of e r) ≡ true → LockOn (rec_at s r).locks k WRITE t
  own_lock r q = let w = access_written e r q in rw w.1 at (common.written (access_of e r) w.0 q)

  not_mine : (r p : ℕ) (o : ℕ) → (o ≡ SETTLED) ⊎ WroteAt s.edits o r p → o ≡ k → ⊥
  not_mine r p o (inl z) y = omega (arith, range.from)
  not_mine r p o (inr w) y = omega (arith, rw y at w.state, st)

  pub none_there : (r : ℕ) → has_written (access_of e r) ≡ true → (v : Version) → v ∈ (rec_at s r).versions
      → v.point ≡ t → ⊥
  none_there r q v m z = clash (own_lock r q)
    where
      clash : LockOn (rec_at s r).locks k WRITE t → ⊥
      clash l =
          let x = good.recs r in
          let b = x.backed v m (omega (arith, (x.span l.lock l.member).above, l.from)) in
          x.apart l.lock b.lock l.member b.member l.moded
          (λ y. not_mine r v.point b.lock.owner b.owner (sym y ∙ l.owned))
          t l.from l.upto (omega (arith, b.from)) (omega (arith, b.upto))

  -- first the edit ends; the records are still the old ones
  edit_done : SoundEdit s.records k done
  unfolding names_once
  edit_done =
      let h = good.edits k in
      record {
        state = omega arith;
        generation = h.generation;
        point = λ z. absurd (z refl);
        existing = h.existing;
        once = h.once;
        present = h.present;
        locked = h.locked;
        common =
            λ z. record {
              least = common.least;
              last = common.last;
              written = common.written;
              above = common.above;
              under = common.under;
            };
        idle = λ z. absurd (omega arith);
      }

  turned : SoundStore (with_edit s k done)
  turned =
      edit_changed s k done
      (record {
        range = range;
        used = λ z. omega (arith, z);
        room = omega (arith, good.accesses_fit);
        wrote = λ r p. none_wrote s.edits es' k r p (λ z. omega (arith, st, z));
        fits = edit_done;
      })
      good

  rec_turned : (r : ℕ) → SoundRec es' r (rec_at s r)
  unfolding with_edit
  rec_turned r = turned.recs r

  wrote_now : (r : ℕ) → has_written (access_of e r) ≡ true → WroteAt es' k r t
  unfolding access_of
  wrote_now r q =
      let z = edit_same s.edits k done range in
      record { state = rw z refl; point = rw z refl; wrote = rw z q }

  -- then a written record gets its version
  module _ (r : ℕ) (q : has_written (access_of e r) ≡ true) where
    abbrev new : Version
    new = new_version (access_of e r) t

    abbrev x : Rec
    x = rec_at s r

    abbrev y : Rec
    y = record { versions = insert new x.versions; locks = x.locks; floor = x.floor }

    above : x.floor < t
    above = let l = own_lock r q in omega (arith, ((good.recs r).span l.lock l.member).above, l.from)

    back : (v : Version) → (v ≡ new) ⊎ (v ∈ x.versions) → x.floor < v.point → Backed es' r v.point x.locks
    back v (inl z) h =
        let l = own_lock r q in
        let p : v.point ≡ t = ap (λ (w : Version). w.point) z in
        record {
          lock = l.lock;
          member = l.member;
          write = l.moded;
          from = rw p l.from;
          upto = rw p l.upto;
          owner = inr (rw (p, l.owned) (wrote_now r q));
        }
    back v (inr m) h = (rec_turned r).backed v m h

    -- a bound on every version
    each : (P : ℕ → Type 0) → P t → ((v : Version) → v ∈ x.versions → P v.point) → (v : Version)
        → v ∈ insert new x.versions → P v.point
    each P a f v m = go (insert_out new x.versions m)
      where
        go : (v ≡ new) ⊎ (v ∈ x.versions) → P v.point
        go (inl z) = let p : v.point ≡ t = ap (λ (w : Version). w.point) z in rw p a
        go (inr n) = f v n

    rec_written : SoundRec es' r y
    unfolding versions_fall
    rec_written =
        let b = rec_turned r in
        record {
          mode = b.mode;
          falls = insert_falls new x.versions (none_there r q) b.falls;
          low = each (λ p. x.floor ≤ p) (omega (arith, above)) b.low;
          high = each (λ p. p ≤ LAST) common.last b.high;
          base =
              λ h. let w = b.base h in
              record { version = w.version; member = insert_old new x.versions w.member; stands = w.stands };
          nonzero = each (λ p. 0 < p) common.least b.nonzero;
          span = b.span;
          owner = b.owner;
          apart = b.apart;
          backed = λ v m h. back v (insert_out new x.versions m) h;
          rises = b.rises;
          joined = b.joined;
        }

  rec_done : (r : ℕ) → SoundRec es' r (committed_rec e t r (rec_at s r))
  rec_done r = go (has_written (access_of e r)) refl
    where
      go : (b : Bool) → has_written (access_of e r) ≡ b
          → SoundRec es' r (record {
            versions = cond b (insert (new_version (access_of e r) t) (rec_at s r).versions) (rec_at s r).versions;
            locks = (rec_at s r).locks;
            floor = (rec_at s r).floor;
          })
      go true q = rec_written r q
      go false q = rec_turned r

  rec_is : (r : ℕ) → rec_of rs' r ≡ committed_rec e t r (rec_at s r)
  unfolding committed with_edit with_records
  rec_is r = rec_committed_any s k t r (good.edits k).existing

  present_kept : (r tr : ℕ) → Present (rec_at s r) tr → Present (committed_rec e t r (rec_at s r)) tr
  present_kept r tr (inr z) = inr z
  present_kept r tr (inl w) =
      inl (record { version = w.version; member = go (has_written (access_of e r)); stands = w.stands })
    where
      go : (b : Bool)
          → w.version ∈ cond b (insert (new_version (access_of e r) t) (rec_at s r).versions) (rec_at s r).versions
      go true = insert_old (new_version (access_of e r) t) (rec_at s r).versions w.member
      go false = w.member

  keeps : (j : ℕ) (d : Edit) → Keeps j d s.records rs'
  keeps j d =
      record {
        count = omega (arith, length_map_from (committed_rec e t) 0 s.records);
        lock = λ a i l o m. rw (rec_is a.rec) m;
        version = λ a tr i z h. rw (rec_is a.rec) (present_kept a.rec tr h);
      }

  pub committed_sound : versions_used s + length (written_of e) ≤ s.version_rows → SoundStore (committed s k t)
  unfolding committed with_edit with_records versions_used locks_used accesses_used
  committed_sound room =
      record {
        counts = counts_map s (committed_rec e t) k done good.counts;
        versions_fit = omega (arith, room, versions_added e t s.records);
        locks_fit =
            omega (
              arith,
              good.locks_fit,
              total_map_from (λ x. length x.locks) (committed_rec e t) 0 s.records fresh_rec (λ j h. le_refl _),
            );
        accesses_fit = turned.accesses_fit;
        recs = λ r. rw (rec_is r) (rec_done r);
        edits = λ j. edit_kept j (edit_of es' j) s.records rs' (keeps j (edit_of es' j)) (turned.edits j);
      }
