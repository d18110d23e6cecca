-- A store stays sound where one slot gets another edit that is in use, sound, and keeps what the old one wrote and
-- committed; Begin and Abort that keeps as instances. Rests on Stores and StoresMore.
use Prim.Native.Nat.{ℕ, ◌+◌, ◌≤◌}
use native.Mathlib.Omega.{arith}
use native.Mathlib.Decide.{ℕ_discrete}
use mathlib.Core.Path.{◌≡◌, refl}
use mathlib.Core.Logic.{◌⊎◌, inl, inr}
use mathlib.Core.List.Memᴰ
use mathlib.Core.List.{List}
use lib.ListN.{length}
use Rattle.types.specs.Limits.{SETTLED, FREE, OPEN, COMMITTED, ABORTED}
use Rattle.meaning.specs.Store.{Lock, Rec, Edit, Store, edit_of, set_edit, edit_at, rec_at, with_edit, accesses_used}
use Rattle.meaning.specs.Store.{versions_used, locks_used}
use Rattle.meaning.specs.Edits.{opened_edit, begun}
use Rattle.meaning.specs.Ending.{ended, aborted}
use Rattle.meaning.specs.Sound.{names_once}
use Rattle.meaning.specs.SoundFacts.{WroteAt, Backed, SoundRec, SoundEdit, SoundStore}
use Rattle.meaning.proofs.Stores.{InRange, used_range, edit_same, edit_other, length_set_edit, accesses_set}
use Rattle.meaning.proofs.StoresMore.{each_edit}

-- a record stays sound over other edits where slots in use stay in use, and what was written and committed stays so
pub record EditsKept (es es' : List Edit) : Type 0 where
  pub used : (j : ℕ) → ((edit_of es j).state ≡ FREE → ⊥) → (edit_of es' j).state ≡ FREE → ⊥
  pub wrote : (j r t : ℕ) → WroteAt es j r t → WroteAt es' j r t

module _ (es es' : List Edit) (kept : EditsKept es es') (r : ℕ) where
  pub backed_kept : (p : ℕ) (ls : List Lock) → Backed es r p ls → Backed es' r p ls
  backed_kept p ls b =
      record {
        lock = b.lock;
        member = b.member;
        write = b.write;
        from = b.from;
        upto = b.upto;
        owner = go b.owner;
      }
    where
      go : (b.lock.owner ≡ SETTLED) ⊎ WroteAt es b.lock.owner r p
          → (b.lock.owner ≡ SETTLED) ⊎ WroteAt es' b.lock.owner r p
      go (inl q) = inl q
      go (inr q) = inr (kept.wrote b.lock.owner r p q)

  pub rec_kept : (x : Rec) → SoundRec es r x → SoundRec es' r x
  rec_kept x h =
      record {
        mode = h.mode;
        falls = h.falls;
        low = h.low;
        high = h.high;
        base = h.base;
        nonzero = h.nonzero;
        span = h.span;
        owner = λ l m. go l (h.owner l m);
        apart = h.apart;
        backed = λ v m a. backed_kept v.point x.locks (h.backed v m a);
        rises = h.rises;
        joined = h.joined;
      }
    where
      go : (l : Lock) → (l.owner ≡ SETTLED) ⊎ ((edit_of es l.owner).state ≡ FREE → ⊥)
          → (l.owner ≡ SETTLED) ⊎ ((edit_of es' l.owner).state ≡ FREE → ⊥)
      go l (inl q) = inl q
      go l (inr q) = inr (kept.used l.owner q)

-- the edit e of slot k of the store, instead of the one that is there
pub record EditFits (s : Store) (k : ℕ) (e : Edit) : Type 0 where
  pub range : InRange s.edits k
  pub used : e.state ≡ FREE → ⊥
  pub room : accesses_used s + length e.accesses ≤ s.access_rows + length (edit_at s k).accesses
  pub wrote : (r t : ℕ) → WroteAt s.edits k r t → WroteAt (set_edit s.edits k e) k r t
  pub fits : SoundEdit s.records k e

module _ (s : Store) (k : ℕ) (e : Edit) (fit : EditFits s k e) where
  pub accesses_changed : accesses_used (with_edit s k e) + length (edit_at s k).accesses
      ≡ accesses_used s + length e.accesses
  unfolding accesses_used with_edit
  accesses_changed = accesses_set s.edits k e fit.range

  edits_kept : EditsKept s.edits (set_edit s.edits k e)
  edits_kept =
      record {
        used = λ j h. used j h (ℕ_discrete j k);
        wrote = λ j r t h. wrote j r t h (ℕ_discrete j k);
      }
    where
      used : (j : ℕ) → ((edit_of s.edits j).state ≡ FREE → ⊥) → Dec (j ≡ k)
          → (edit_of (set_edit s.edits k e) j).state ≡ FREE → ⊥
      used j h (yes q) = rw (q, edit_same s.edits k e fit.range) fit.used
      used j h (no q) = rw (edit_other s.edits k j e q) h

      wrote : (j r t : ℕ) → WroteAt s.edits j r t → Dec (j ≡ k) → WroteAt (set_edit s.edits k e) j r t
      wrote j r t h (yes q) = rw q (fit.wrote r t (rw q at h))
      wrote j r t h (no q) =
          let z = edit_other s.edits k j e q in
          record { state = rw z h.state; point = rw z h.point; wrote = rw z h.wrote }

  pub edit_changed : SoundStore s → SoundStore (with_edit s k e)
  unfolding with_edit versions_used locks_used
  edit_changed h =
      record {
        counts = rw (length_set_edit s.edits k e) h.counts;
        versions_fit = h.versions_fit;
        locks_fit = h.locks_fit;
        accesses_fit = omega (arith, accesses_changed, fit.room);
        recs = λ r. rec_kept s.edits (set_edit s.edits k e) edits_kept r (rec_at s r) (h.recs r);
        edits = each_edit (λ j x. SoundEdit s.records j x) s.edits k e fit.range fit.fits h.edits;
      }

-- an edit that has not committed wrote no version
pub none_wrote : (es es' : List Edit) (k r t : ℕ) → ((edit_of es k).state ≡ COMMITTED → ⊥) → WroteAt es k r t
    → WroteAt es' k r t
none_wrote es es' k r t h w = absurd (h w.state)

module _ (s : Store) (h : SoundStore s) (k : ℕ) where
  -- Begin: a free slot is opened
  pub begun_sound : InRange s.edits k → (edit_at s k).state ≡ FREE → SoundStore (begun s k)
  unfolding begun names_once
  begun_sound range free =
      edit_changed s k (opened_edit (edit_at s k))
      (record {
        range = range;
        used = λ q. omega (arith, q);
        room = omega (arith, h.accesses_fit);
        wrote =
            λ r t. none_wrote s.edits (set_edit s.edits k (opened_edit (edit_at s k))) k r t
            (λ q. omega (arith, free, q));
        fits = opened;
      })
      h
    where
      opened : SoundEdit s.records k (opened_edit (edit_at s k))
      opened =
          record {
            state = omega arith;
            generation = omega arith;
            point = λ q. refl;
            existing = λ a m. absurd (Memᴰ.not-nil m);
            once = refl;
            present = λ a tr m. absurd (Memᴰ.not-nil m);
            locked = λ a tr m. absurd (Memᴰ.not-nil m);
            common = λ q. absurd (omega (arith, q));
            idle = λ q. refl;
          }

  -- Abort that keeps, and the empty common set of Commit: an open edit becomes aborted
  pub aborted_sound : (edit_at s k).state ≡ OPEN → SoundStore (aborted s k)
  unfolding aborted names_once
  aborted_sound o =
      edit_changed s k (ended (edit_at s k) ABORTED 0)
      (record {
        range = used_range s.edits k (λ q. omega (arith, o, q));
        used = λ q. omega (arith, q);
        room = omega (arith, h.accesses_fit);
        wrote =
            λ r t. none_wrote s.edits (set_edit s.edits k (ended (edit_at s k) ABORTED 0)) k r t
            (λ q. omega (arith, o, q));
        fits = gone (h.edits k);
      })
      h
    where
      gone : SoundEdit s.records k (edit_at s k) → SoundEdit s.records k (ended (edit_at s k) ABORTED 0)
      gone e =
          record {
            state = omega arith;
            generation = e.generation;
            point = λ q. refl;
            existing = e.existing;
            once = e.once;
            present = e.present;
            locked = e.locked;
            common = λ q. absurd (omega (arith, q));
            idle = λ q. absurd (omega (arith, q));
          }
