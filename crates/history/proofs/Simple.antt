-- Begin, Write, Lock and View as steps of the serial core. Rests on CallRuns and Changes.
use Prim.Native.Nat.{ℕ, suc, ◌<◌}
use native.Mathlib.Omega.{arith}
use native.Mathlib.Decide.{ℕ_discrete}
use mathlib.Core.Path.{◌≡◌, refl, sym, ap, ◌∙◌}
use mathlib.Core.Bool.{true, false≢true}
use lib.Dec.{leb}
use lib.ListN.{length}
use borrow.Author.Tests.{leb-true}
use Rattle.meaning.specs.Store.{Rec, Edit, Store, set_edit, edit_of, edit_at, rec_at}
use Rattle.types.specs.Numbers.{handle, slot_of, next_generation}
use Rattle.types.specs.Values.{Val}
use Rattle.meaning.specs.Store.{with_edit, with_records, with_locks, access_of}
use Rattle.meaning.specs.Points.{add_lock}
use Rattle.types.specs.Replies.{ok, edit, locked, at}
use Rattle.meaning.specs.Outcomes.{pass, replies, has_record}
use Rattle.meaning.specs.Edits.{with_access, free_slot, opened_edit, begun, begin_checks, beginning, written_access}
use Rattle.meaning.specs.Edits.{written}
use Rattle.meaning.specs.Edits.{write_checks, writing}
use Rattle.meaning.specs.Locking.{with_lock, with_lock_by, lock_verdict, lock_checks, lock_wanted, lock_wanted_by}
use Rattle.meaning.specs.Locking.{locking}
use Rattle.meaning.specs.Locking.{locking_by}
use Rattle.meaning.specs.Records.{view_checks, viewing}
use Rattle.types.specs.declared.Lock.{Lock}
use Rattle.types.specs.declared.Access.{Access}
use Rattle.types.specs.declared.Extent.{Extent}
use Rattle.types.specs.declared.Handle.{Handle}
use Rattle.types.specs.declared.Point.{Point}
use Rattle.types.specs.declared.Call.{Call}
use Rattle.types.specs.declared.Call.TheVariants as C
use Rattle.meaning.proofs.Stores.{InRange, edit_same, edit_other}
use Rattle.meaning.proofs.StoresMore.{each_rec}
use Rattle.meaning.proofs.Verdicts.{needs_pass, for_open_pass, PassedOpen, has_record_out}
use Rattle.meaning.proofs.Granted.{free_found, FreeAt}
use Rattle.meaning.proofs.LockAdded.{added_old}
use Rattle.serial.specs.Serializable.{History}
use Rattle.serial.proofs.Slots.{Used, SoundSlots, SlotStays, Moves, Begins, Writes, moves, passes, begins, writes, then}
use Rattle.history.proofs.StoreSlots.{slots_of, slots}
use Rattle.history.proofs.Changes.{iff, Locked, locked_refl, slot_stays, grows_more, moves_more, access_here}
use Rattle.history.proofs.Changes.{access_there}
use Rattle.history.proofs.CallRuns.{Runs, Continues, unless_continues, open_slot}
use Rattle.meaning.specs.Store.{has_written, written_value}

-- one slot changed: the others stay, and if the handle stays, all keep theirs
module _ (s : Store) (k : ℕ) (e : Edit) where
  pub others_stay : (x : ℕ → Rec) (j : ℕ) → ¬ (j ≡ k) → Used (slots_of (λ i. edit_of (set_edit s.edits k e) i) x) j
      → SlotStays (slots s) (slots_of (λ i. edit_of (set_edit s.edits k e) i) x) j
  others_stay x j n u =
      slot_stays (λ i. edit_at s i) (λ i. edit_of (set_edit s.edits k e) i) (λ r. rec_at s r) x j
      (edit_other s.edits k j e n) u

  pub others_keep : (j : ℕ) → ¬ (j ≡ k) → 0 < (edit_at s j).state
      → (0 < (edit_of (set_edit s.edits k e) j).state)
      × ((edit_of (set_edit s.edits k e) j).generation ≡ (edit_at s j).generation)
  others_keep j n u = let q = edit_other s.edits k j e n in (rw q u, ap (λ (d : Edit). d.generation) q)

  pub all_keep : InRange s.edits k → 0 < e.state → e.generation ≡ (edit_at s k).generation → (j : ℕ)
      → 0 < (edit_at s j).state
      → (0 < (edit_of (set_edit s.edits k e) j).state)
      × ((edit_of (set_edit s.edits k e) j).generation ≡ (edit_at s j).generation)
  all_keep h u g j v = go (ℕ_discrete j k)
    where
      go : Dec (j ≡ k) → (0 < (edit_of (set_edit s.edits k e) j).state)
          × ((edit_of (set_edit s.edits k e) j).generation ≡ (edit_at s j).generation)
      go (yes q) = rw (q, edit_same s.edits k e h) (u, g)
      go (no n) = others_keep j n v

-- Begin: a free slot is opened
module _ (s : Store) (k : ℕ) (f : FreeAt s.edits k) where
  abbrev new : Edit
  new = opened_edit (edit_at s k)

  is_new : edit_at (begun s k) k ≡ new
  unfolding begun with_edit
  is_new = edit_same s.edits k new f.range

  begins_slot : Begins (slots s) (slots (begun s k)) k (handle (next_generation (edit_at s k).generation) k)
  unfolding begun with_edit access_of
  begins_slot =
      record {
        grows =
            grows_more (λ i. edit_at s i) (λ i. edit_of (set_edit s.edits k new) i) (λ r. rec_at s r) (λ r. rec_at s r)
            (λ r. locked_refl (rec_at s r))
            (λ j u. others_keep s k new j (λ q. omega (arith, f.free, rw q at u)) u);
        free = λ u. omega (arith, f.free, u);
        open' = ap (λ (d : Edit). d.state) is_new;
        handle = ap (λ (d : Edit). handle d.generation k) is_new;
        no_read = λ r t q. let z : (access_of new r).from ≡ _ = rw is_new at q in omega (arith, z);
        no_write = λ r v w. let z : has_written (access_of new r) ≡ true = rw is_new at w.0 in false≢true z;
        others = others_stay s k new (λ r. rec_at s r);
      }

pub begin_continues : {l : History Val} (s : Store) → Runs l s → SoundSlots (slots (beginning s).store)
    → Continues l C.Begin (beginning s)
unfolding beginning begin_checks
begin_continues s r S =
    let k = free_slot s in
    unless_continues C.Begin s r (begin_checks s)
    (replies (begun s k) (edit (handle (next_generation (edit_at s k).generation) k))) S (λ e T.
    let t = needs_pass (leb k (length s.edits)) 13 pass e in
    then r (begins (begins_slot s k (free_found s.edits (leb-true k (length s.edits) t.0)))) T)

-- Write: the record's access is put
module _ (s : Store) (h r : ℕ) (v : Val) {rest : _} (p : PassedOpen s h rest) where
  abbrev k : ℕ
  k = slot_of h

  abbrev e : Edit
  e = edit_at s k

  abbrev a : Access
  a = written_access e r v

  abbrev done : Edit
  done = with_access e a

  is_done : edit_at (written s k r v) k ≡ done
  unfolding written with_edit
  is_done = edit_same s.edits k done p.known.range

  -- the access of r, and of another record
  here : access_of (edit_at (written s k r v) k) r ≡ a
  here = ap (λ (d : Edit). access_of d r) is_done ∙ access_here a e

  there : (j : ℕ) → ¬ (j ≡ r) → access_of (edit_at (written s k r v) k) j ≡ access_of e j
  there j n = ap (λ (d : Edit). access_of d j) is_done ∙ access_there a e j n

  from_same : (j : ℕ) → (access_of (edit_at (written s k r v) k) j).from ≡ (access_of e j).from
  from_same j = go (ℕ_discrete j r)
    where
      go : Dec (j ≡ r) → (access_of (edit_at (written s k r v) k) j).from ≡ (access_of e j).from
      go (yes q) = rw q (ap (λ (b : Access). b.from) here)
      go (no n) = ap (λ (b : Access). b.from) (there j n)

  writes_slot : Writes (slots s) (slots (written s k r v)) k h r v
  unfolding written with_edit with_access
  writes_slot =
      record {
        grows =
            grows_more (λ i. edit_at s i) (λ i. edit_of (set_edit s.edits k done) i) (λ x. rec_at s x) (λ x. rec_at s x)
            (λ x. locked_refl (rec_at s x))
            (all_keep s k done p.known.range (omega (arith, p.state)) refl);
        slot = open_slot s h p;
        uncommitted = λ q. omega (arith, p.state, ap (λ (d : Edit). d.state) is_done, q);
        others = others_stay s k done (λ x. rec_at s x);
        read_at = λ j t. iff (λ n. n ≡ suc t) (from_same j);
        here = λ w. (
          λ z. sym z.1 ∙ ap (λ (b : Access). written_value b) here,
          λ q. (ap (λ (b : Access). has_written b) here, ap (λ (b : Access). written_value b) here ∙ sym q),
        );
        there = λ j w n. iff (λ (b : Access). (has_written b ≡ true) × (written_value b ≡ w)) (there j n);
      }

pub write_continues : {l : History Val} (h : Handle) (r : ℕ) (v : Val) (s : Store) → Runs l s
    → SoundSlots (slots (writing h.0 r v s).store)
    → Continues l (C.Write h r v) (writing h.0 r v s)
unfolding writing write_checks
write_continues h r v s run S =
    unless_continues (C.Write h r v) s run (write_checks s h.0 r) (replies (written s (slot_of h.0) r v) ok) S
    (λ e T. then run (writes (writes_slot s h.0 r v (for_open_pass s h.0 _ e))) T)

-- one record's locks grow
module _ (s : Store) (r mode k low high : ℕ) (there : r < length s.records) where
  pub lock_grows : (i : ℕ) → Locked (rec_at s i) (rec_at (with_lock s r mode k low high) i)
  unfolding with_lock_by with_records
  lock_grows = each_rec (λ i y. Locked (rec_at s i) y) s.records r _ there grown (λ i. locked_refl (rec_at s i))
    where
      new : Lock
      new = record { low = low; high = high; mode = mode; owner = k }

      grown : Locked (rec_at s r) (with_locks (rec_at s r) (add_lock new (rec_at s r).locks))
      grown = record { floor = refl; versions = refl; locks = λ l m. added_old new (rec_at s r).locks m }

  lock_moves : Moves (slots s) (slots (with_lock s r mode k low high))
  unfolding with_lock_by with_records
  lock_moves =
      moves_more (λ i. edit_at s i) (λ i. edit_at s i) (λ x. rec_at s x) (λ x. rec_at (with_lock s r mode k low high) x)
      lock_grows
      (λ j u. slot_stays (λ i. edit_at s i) (λ i. edit_at s i) (λ x. rec_at s x)
      (λ x. rec_at (with_lock s r mode k low high) x) j refl u)
      (λ j. refl)

pub lock_continues : {l : History Val} (h : Handle) (r : ℕ) (low high : Point) (w : Extent) (s : Store) → Runs l s
    → SoundSlots (slots (locking h.0 r low.0 high.0 w s).store)
    → Continues l (C.Lock h r low high w) (locking h.0 r low.0 high.0 w s)
unfolding locking_by lock_checks lock_wanted_by
lock_continues h r low high w s run S =
    let k = slot_of h.0 in
    unless_continues c s run (lock_checks s h.0 r low.0 high.0) (lock_wanted s k r low.0 high.0 w) S
    (λ e T.
    let p = for_open_pass s h.0 _ e in
    let a = needs_pass (has_record s r) 5 _ p.rest in
    unless_continues c s run (lock_verdict s k r low.0 high.0 w) (replies (with_lock s r _ k _ _) (locked _ _)) T
    (λ d U.
    then (then run (moves (lock_moves s r _ k _ _ (has_record_out s r a.0))) U) passes U))
  where
    c : Call
    c = C.Lock h r low high w

pub view_continues : {l : History Val} (r : ℕ) (p : Point) (s : Store) → Runs l s
    → SoundSlots (slots (viewing r p.0 s).store)
    → Continues l (C.View r p) (viewing r p.0 s)
unfolding viewing
view_continues r p s run S = unless_continues (C.View r p) s run (view_checks s r p.0) _ S (λ e T. then run passes T)
