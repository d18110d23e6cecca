-- Commit, Abort and Settle as steps of the serial core: a commit at a point of the common set, an edit that ends
-- without one, and settling, which leaves of a committed edit what it needs. Rests on CallRuns, Changes, EveryCall and
-- Valued.
use Rattle.std.specs.Prelude.{Some}
use Prim.Native.Nat.{ℕ, ◌≤◌, ◌<◌}
use native.Mathlib.Omega.{arith}
use native.Mathlib.Decide.{ℕ_discrete}
use mathlib.Core.Path.{◌≡◌, refl, sym, ap, ◌∙◌}
use mathlib.Core.Logic.{◌⊎◌, inl, inr}
use mathlib.Core.Bool.{Bool, true, false, not, cond}
use mathlib.Core.List.{List}
use lib.ListN.{length}
use borrow.Author.Tests.{leb-true}
use Prim.Native.Nat.{◌+◌}
use Rattle.meaning.specs.Lists.{◌∈◌}
use Rattle.types.specs.Limits.{WRITE, FREE, COMMITTED, ABORTED}
use Rattle.meaning.specs.Store.{Rec, Edit, Store, edit_at, rec_at, access_of, written_of, versions_used}
use Rattle.types.specs.Numbers.{handle, slot_of}
use Rattle.types.specs.Values.{Val}
use Rattle.types.specs.Replies.{ok, commit, nopoint}
use Rattle.meaning.specs.Outcomes.{pass, replies, Verdict, needs, knows, is_open, version_room}
use Rattle.meaning.specs.Ending.{ended, settled_locks, settled, finished, insert, new_version, committed, aborted}
use Rattle.meaning.specs.Ending.{good_pick, chosen, allowed, no_common, commit_verdict, commit_open, commit_open_by}
use Rattle.meaning.specs.Ending.{commit_checks}
use Rattle.meaning.specs.Ending.{committing, committing_by, abort_checks, aborting, aborting_by, settle_checks}
use Rattle.meaning.specs.Ending.{settling}
use Rattle.meaning.specs.Ending.{settling_by}
use Rattle.meaning.specs.Pointwise.{LockOn, HeldOn, InCommonSet}
use Rattle.meaning.specs.SoundFacts.{SoundStore}
use Rattle.types.specs.declared.Version.{Version}
use Rattle.types.specs.declared.Access.{Access}
use Rattle.types.specs.declared.Handle.{Handle}
use Rattle.types.specs.declared.Pick.{Pick}
use Rattle.types.specs.declared.Finish.{Finish}
use Rattle.types.specs.declared.Finish.TheVariants as F
use Rattle.types.specs.declared.Call.{Call}
use Rattle.types.specs.declared.Call.TheVariants as C
use Rattle.meaning.proofs.Stores.{InRange, used_range}
use Rattle.meaning.proofs.Changed.{rec_committed_any, rec_settled_any, rec_aborted, edit_committed}
use Rattle.meaning.proofs.Changed.{edit_committed_other, edit_settled, edit_settled_other, edit_aborted}
use Rattle.meaning.proofs.Changed.{edit_aborted_other}
use Rattle.meaning.proofs.Inserted.{insert_new, insert_old, insert_out}
use Rattle.meaning.proofs.Kept.{access_read}
use Rattle.meaning.proofs.LocksLeft.{settled_locked, settled_reads, settled_writes}
use Rattle.meaning.proofs.LockChanges.{held_is}
use Rattle.meaning.proofs.Verdicts.{needs_pass, for_open_pass, PassedOpen, knows_out}
use Rattle.meaning.proofs.EditChanged.{aborted_sound}
use Rattle.meaning.proofs.Committed.{own_lock, committed_sound}
use Rattle.meaning.proofs.EndingSound.{chosen_common}
use Rattle.serial.specs.Serializable.{History}
use Rattle.serial.proofs.Slots.{Used, SoundSlots, SlotStays, Moves, CommitsAt, moves, passes, commits_at, SlotRun, then}
use Rattle.history.proofs.StoreSlots.{StandsAt, ReadAt, Wrote, slots, to_held, sound_slots}
use Rattle.history.proofs.Changes.{iff, locked_refl, slot_stays, moves_more}
use Rattle.history.proofs.CallRuns.{Runs, Good, good_facts, Continues, unless_continues, cond_continues}
use Rattle.history.proofs.CallRuns.{open_slot}
use Rattle.history.proofs.EveryCall.{aborted_keeps}
use Rattle.history.proofs.Valued.{committed_valued, valued_kept}
use Rattle.meaning.specs.Store.{has_written, written_value}

-- the versions of a record after a commit
module _ (b : Bool) (a : Access) (t : ℕ) (vs : List Version) where
  abbrev saved : List Version
  saved = cond b (insert (new_version a t) vs) vs

  saved_old : {p : ℕ} {v : Val} → StandsAt vs p v → StandsAt saved p v
  saved_old w = record { version = w.version; member = go b; stands = w.stands; value = w.value }
    where
      go : (c : Bool) → w.version ∈ cond c (insert (new_version a t) vs) vs
      go true = insert_old (new_version a t) vs w.member
      go false = w.member

  saved_new : {v : Val} → b ≡ true → written_value a ≡ v → StandsAt saved t v
  saved_new q z = record {
    version = new_version a t;
    member = rw q (insert_new (new_version a t) vs);
    stands = refl;
    value = ap Some z;
  }

  saved_out : {p : ℕ} {v : Val} → StandsAt saved p v → StandsAt vs p v
      ⊎ ((p ≡ t) × ((b ≡ true) × (written_value a ≡ v)))
  saved_out {p} {v} w = go b refl w.member
    where
      value_is : (x y : Val) → Some x ≡ Some y → x ≡ y
      value_is x y q = cc

      old : w.version ∈ vs → StandsAt vs p v
      old m = record { version = w.version; member = m; stands = w.stands; value = w.value }

      from : b ≡ true → (w.version ≡ new_version a t) ⊎ (w.version ∈ vs)
          → StandsAt vs p v ⊎ ((p ≡ t) × ((b ≡ true) × (written_value a ≡ v)))
      from q (inl z) =
          inr (
            sym w.stands ∙ ap (λ (u : Version). u.point) z,
            (q, value_is (written_value a) v (sym (ap (λ (u : Version). u.value) z) ∙ w.value)),
          )
      from q (inr m) = inl (old m)

      go : (c : Bool) → b ≡ c → w.version ∈ cond c (insert (new_version a t) vs) vs
          → StandsAt vs p v ⊎ ((p ≡ t) × ((b ≡ true) × (written_value a ≡ v)))
      go true q m = from q (insert_out (new_version a t) vs m)
      go false q m = inl (old m)

-- Commit at t
module _ (s : Store) (h t : ℕ) (good : SoundStore s) {rest : Verdict} (p : PassedOpen s h rest)
    (common : InCommonSet s.records (slot_of h) (edit_at s (slot_of h)) t) where
  abbrev k : ℕ
  k = slot_of h

  abbrev e : Edit
  e = edit_at s k

  abbrev after : Store
  after = committed s k t

  is_done : edit_at after k ≡ ended e COMMITTED t
  is_done = edit_committed s k t p.known.range

  rec_is : (r : ℕ) → rec_at after r
      ≡ record {
        versions = saved (has_written (access_of e r)) (access_of e r) t (rec_at s r).versions;
        locks = (rec_at s r).locks;
        floor = (rec_at s r).floor;
      }
  rec_is r = rec_committed_any s k t r (good.edits k).existing

  commits_slot : CommitsAt (slots s) (slots after) k h t
  unfolding access_of
  commits_slot =
      record {
        grows = record {
          stays = λ j u. stays j u (ℕ_discrete j k);
          floor = λ r. ap (λ (x : Rec). x.floor) (rec_is r);
          lock = λ r q j w. rw (rec_is r) w;
          write_lock = λ r q j w. rw (rec_is r) w;
          stay = λ r q v w. rw (rec_is r)
              (saved_old (has_written (access_of e r)) (access_of e r) t (rec_at s r).versions w);
          saves =
              λ r q v w. rw (rec_is r, w.0)
              (saved_new (has_written (access_of e r)) (access_of e r) t (rec_at s r).versions w.1.0 w.1.1);
          only =
              λ r q v w. saved_out (has_written (access_of e r)) (access_of e r) t (rec_at s r).versions
              (rw (rec_is r) at w);
        };
        slot = open_slot s h p;
        positive = common.least;
        locked = λ r v w. own_lock s k t good p.state common r w.0;
        later = λ r u w. let m = access_read e r u w in common.above (access_of e r) u m.0 w;
        covered =
            λ r u q w low high. let m = access_read e r u w in
            rw m.1 at (common.under (access_of e r) u q m.0 w low high);
        committed = ap (λ (d : Edit). d.state) is_done;
        point = ap (λ (d : Edit). d.point) is_done;
        others =
            λ j n u. slot_stays (λ i. edit_at s i) (λ i. edit_at after i) (λ r. rec_at s r) (λ r. rec_at after r) j
            (edit_committed_other s k t j n) u;
        read_at = λ r u. iff (λ (d : Edit). ReadAt d r u) is_done;
        written = λ r v. iff (λ (d : Edit). Wrote d r v) is_done;
      }
    where
      stays : (j : ℕ) → 0 < (edit_at s j).state → Dec (j ≡ k)
          → (0 < (edit_at after j).state) × (handle (edit_at after j).generation j ≡ handle (edit_at s j).generation j)
      stays j u (yes q) = rw (q, is_done) (omega arith, refl)
      stays j u (no n) = rw (edit_committed_other s k t j n) (u, refl)

-- settling slot k: settled locks stay, and what the committed edit needs is left settled
module _ (s : Store) (k : ℕ) (good : SoundStore s) (range : InRange s.edits k) where
  abbrev left : Store
  left = settled s k

  left_is : (r : ℕ) → rec_at left r
      ≡ record {
        versions = (rec_at s r).versions;
        locks = settled_locks k (edit_at s k) r (rec_at s r).locks;
        floor = (rec_at s r).floor;
      }
  left_is r = rec_settled_any s k r (good.edits k).existing

  -- a lock of another owner
  module _ (r j : ℕ) (n : ¬ (j ≡ k)) where
    locked_left : {m q : ℕ} → LockOn (rec_at s r).locks j m q → LockOn (rec_at left r).locks j m q
    locked_left {m} {q} h = rw (left_is r) (settled_locked k (edit_at s k) r (rec_at s r).locks j m q h n)

    held_left : {q : ℕ} → HeldOn (rec_at s r).locks j q → HeldOn (rec_at left r).locks j q
    held_left {q} h =
        let w = (held_is (rec_at s r).locks j q).0 h in
        (held_is (rec_at left r).locks j q).1 (w.0, locked_left w.1)

  settle_moves : Moves (slots s) (slots left)
  settle_moves =
      record {
        slots = λ j u. slot j u (ℕ_discrete j k);
        rises = λ r. omega (arith, ap (λ (x : Rec). x.floor) (left_is r));
        settled = λ r q f h. held_left r 0 (λ z. omega (arith, range.from, z)) h;
        settled_write = λ r q f h. locked_left r 0 (λ z. omega (arith, range.from, z)) h;
        reads = λ j r u q c a low high f h. read j r u q c a low high h (ℕ_discrete j k);
        writes = λ j r v c a f h. wrote j r v c a h (ℕ_discrete j k);
        stay = λ r q v f w. rw (left_is r) w;
        only = λ r q v w. rw (left_is r) at w;
      }
    where
      slot : (j : ℕ) → Used (slots left) j → Dec (j ≡ k) → SlotStays (slots s) (slots left) j
      slot j u (yes z) =
          absurd
          (omega (arith, u, ap (λ (d : Edit). d.state) (edit_settled s k range), ap (λ i. (edit_at left i).state) z))
      slot j u (no n) =
          slot_stays (λ i. edit_at s i) (λ i. edit_at left i) (λ r. rec_at s r) (λ r. rec_at left r) j
          (edit_settled_other s k j n) u

      same : (j : ℕ) → ¬ (j ≡ k) → handle (edit_at left j).generation j ≡ handle (edit_at s j).generation j
      same j n = ap (λ (d : Edit). handle d.generation j) (edit_settled_other s k j n)

      read : (j r u q : ℕ) → (edit_at s j).state ≡ 2 → ReadAt (edit_at s j) r u → u < q → q ≤ (edit_at s j).point
          → HeldOn (rec_at s r).locks j q → Dec (j ≡ k)
          → HeldOn (rec_at left r).locks 0 q
          ⊎ (HeldOn (rec_at left r).locks j q
          × (handle (edit_at left j).generation j ≡ handle (edit_at s j).generation j))
      read j r u q c a low high h (yes z) =
          inl (rw (left_is r)
          (to_held (settled_reads k (edit_at s k) r (rec_at s r).locks (rw z at c) u q (rw z at a) low (rw z at high))))
      read j r u q c a low high h (no n) = inr (held_left r j n h, same j n)

      wrote : (j r : ℕ) (v : Val) → (edit_at s j).state ≡ 2 → Wrote (edit_at s j) r v
          → LockOn (rec_at s r).locks j WRITE (edit_at s j).point → Dec (j ≡ k)
          → LockOn (rec_at left r).locks 0 WRITE (edit_at s j).point
          ⊎ (LockOn (rec_at left r).locks j WRITE (edit_at s j).point
          × (handle (edit_at left j).generation j ≡ handle (edit_at s j).generation j))
      wrote j r v c a h (yes z) =
          inl (rw (left_is r, z) (settled_writes k (edit_at s k) r (rec_at s r).locks (rw z at c) (rw z at a.0)))
      wrote j r v c a h (no n) = inr (locked_left r j n h, same j n)

-- an open edit becomes aborted
module _ (s : Store) (h : ℕ) {rest : Verdict} (p : PassedOpen s h rest) where
  abbrev gone : Store
  gone = aborted s (slot_of h)

  is_gone : edit_at gone (slot_of h) ≡ ended (edit_at s (slot_of h)) ABORTED 0
  is_gone = edit_aborted s (slot_of h) p.known.range

  abort_moves : Moves (slots s) (slots gone)
  unfolding access_of
  abort_moves =
      moves_more (λ i. edit_at s i) (λ i. edit_at gone i) (λ r. rec_at s r) (λ r. rec_at gone r)
      (λ r. rw (rec_aborted s (slot_of h) r) (locked_refl (rec_at s r)))
      (λ j u. slot j u (ℕ_discrete j (slot_of h))) (λ j. same j (ℕ_discrete j (slot_of h)))
    where
      same : (j : ℕ) → Dec (j ≡ slot_of h) → (edit_at gone j).generation ≡ (edit_at s j).generation
      same j (yes q) = rw (q, is_gone) refl
      same j (no n) = rw (edit_aborted_other s (slot_of h) j n) refl

      mine : SlotStays (slots s) (slots gone) (slot_of h)
      mine =
          record {
            used = omega (arith, p.state);
            handle = ap (λ (d : Edit). handle d.generation (slot_of h)) is_gone;
            committed = (
              λ q. absurd (omega (arith, q, ap (λ (d : Edit). d.state) is_gone)),
              λ q. absurd (omega (arith, q, p.state)),
            );
            point = λ q. absurd (omega (arith, q, p.state));
            read_at = λ r t. iff (λ (d : Edit). ReadAt d r t) is_gone;
            written = λ r v. iff (λ (d : Edit). Wrote d r v) is_gone;
          }

      slot : (j : ℕ) → Used (slots gone) j → Dec (j ≡ slot_of h) → SlotStays (slots s) (slots gone) j
      slot j u (yes q) = rw q mine
      slot j u (no n) =
          slot_stays (λ i. edit_at s i) (λ i. edit_at gone i) (λ r. rec_at s r) (λ r. rec_at gone r) j
          (edit_aborted_other s (slot_of h) j n) u

-- "S settles at the end, K keeps the locks"
module _ (s : Store) (k : ℕ) (good : SoundStore s) (used : (edit_at s k).state ≡ FREE → ⊥) where
  finish : {l : History Val} (f : Finish) → SlotRun l (slots s) → SoundSlots (slots (finished f s k))
      → SlotRun l (slots (finished f s k))
  finish F.Settle run S = then run (moves (settle_moves s k good (used_range s.edits k used))) S
  finish F.Keep run S = run

module _ {l : History Val} (h : Handle) (s : Store) (good : Good s) (run : Runs l s) where
  abbrev own : ℕ
  own = slot_of h.0

  -- an edit ends without a commit
  ends : {rest : Verdict} → PassedOpen s h.0 rest → (f : Finish)
      → SoundSlots (slots (finished f (aborted s own) own)) → SlotRun l (slots (finished f (aborted s own) own))
  ends p f S =
      let facts = aborted_sound s (good_facts good) own p.state in
      finish (aborted s own) own facts (λ q. omega (arith, q, ap (λ (d : Edit). d.state) (is_gone s h.0 p))) f
      (then run (moves (abort_moves s h.0 p))
      (sound_slots (aborted s own) facts (aborted_keeps valued_kept s own good.valued))) S

  pub commit_continues : (pick : Pick) (f : Finish) → SoundSlots (slots (committing h.0 pick f s).store)
      → Continues l (C.Commit h pick f) (committing h.0 pick f s)
  unfolding committing_by commit_checks commit_open_by commit_verdict version_room
  commit_continues pick f S =
      unless_continues c s run (commit_checks s h.0 pick) (commit_open s own pick f) S (λ e T.
      let p = for_open_pass s h.0 (needs (good_pick pick) 6 pass) e in
      cond_continues c s run (no_common s own) (replies (finished f (aborted s own) own) nopoint) _ T
      (λ q U. then (ends p f U) passes U) (λ q U.
      unless_continues c s run (commit_verdict s own pick) (replies (finished f (committed s own t) own) (commit t)) U
      (λ v X.
      let a = needs_pass (allowed s own pick) 14 (needs (version_room s own) 12 pass) v in
      let b = needs_pass (version_room s own) 12 pass a.1 in
      let common = chosen_common s own q pick a.0 in
      let facts =
      committed_sound s own t (good_facts good) p.state common
      (leb-true (versions_used s + length (written_of (edit_at s own))) s.version_rows b.0) in
      finish (committed s own t) own facts
      (λ z. omega (arith, z, ap (λ (d : Edit). d.state) (is_done s h.0 t (good_facts good) p common))) f
      (then run (commits_at (commits_slot s h.0 t (good_facts good) p common))
      (sound_slots (committed s own t) facts (committed_valued s good.valued own t))) X)))
    where
      c : Call
      c = C.Commit h pick f

      t : ℕ
      t = chosen s own pick

  pub abort_continues : (f : Finish) → SoundSlots (slots (aborting h.0 f s).store)
      → Continues l (C.Abort h f) (aborting h.0 f s)
  unfolding aborting_by abort_checks
  abort_continues f S =
      unless_continues (C.Abort h f) s run (abort_checks s h.0) (replies (finished f (aborted s own) own) ok) S
      (λ e T. then (ends (for_open_pass s h.0 pass e) f T) passes T)

  pub settle_continues : SoundSlots (slots (settling h.0 s).store) → Continues l (C.Settle h) (settling h.0 s)
  unfolding settling_by settle_checks
  settle_continues S =
      unless_continues (C.Settle h) s run (settle_checks s h.0) (replies (settled s own) ok) S (λ e T.
      let a = needs_pass (knows s h.0) 2 (needs (not (is_open s h.0)) 4 pass) e in
      then (then run (moves (settle_moves s own (good_facts good) (knows_out s h.0 a.0).range)) T) passes T)
