-- Begin, Write, Lock, Read and View keep a sound store sound. Rests on Verdicts, SoundParts and the laws of each
-- change.
use Prim.Native.Nat.{ℕ, ◌-◌, ◌≤◌, ◌<◌}
use native.Mathlib.Omega.{arith}
use mathlib.Core.Path.{◌≡◌, refl}
use mathlib.Core.Bool.{Bool, true, false, cond, ◌&&◌}
use lib.Dec.{leb, ltb}
use lib.ListN.{length}
use borrow.Author.Tests.{leb-true, ltb-true}
use Rattle.types.specs.Limits.{LAST, READ, WRITE, FREE, OPEN}
use Rattle.meaning.specs.Store.{Val, Store, handle, slot_of, next_generation, edit_at, rec_at, access_of, has_read}
use Rattle.meaning.specs.Store.{newest_at, version_on}
use Rattle.meaning.specs.Points.{first_blocked}
use Rattle.types.specs.Replies.{Reply, ok, edit, locked, own, again, read, at}
use Rattle.meaning.specs.Outcomes.{Outcome, pass, replies, or_else, needs, has_record, is_point, judge, access_room}
use Rattle.meaning.specs.Outcomes.{lock_room}
use Rattle.meaning.specs.Edits.{free_slot, begun, begin_checks, beginning, written, write_checks, writing}
use Rattle.meaning.specs.Locking.{lock_from, lock_end, lock_granted, with_lock, lock_verdict, lock_checks, lock_wanted}
use Rattle.meaning.specs.Locking.{lock_wanted_by}
use Rattle.meaning.specs.Locking.{locking, locking_by, read_from, read_end, read_granted, read_version, read_verdict}
use Rattle.meaning.specs.Locking.{read_store}
use Rattle.meaning.specs.Locking.{read_new, read_new_by, read_open, read_open_by, read_checks, reading, reading_by}
use Rattle.meaning.specs.Records.{view_checks, viewing}
use Rattle.meaning.specs.Sound.{sound_store}
use Rattle.types.specs.declared.Extent.{Extent}
use Rattle.meaning.proofs.Lists.{and_left, and_right}
use Rattle.meaning.proofs.Verdicts.{needs_pass, or_else_pass, judge_refuses, unless_keeps, for_open_pass}
use Rattle.meaning.proofs.Verdicts.{has_record_out, lock_room_out}
use Rattle.meaning.proofs.SoundParts.{sound_out, sound_in}
use Rattle.meaning.proofs.EditChanged.{begun_sound}
use Rattle.meaning.proofs.AccessPut.{access_room_out, written_sound}
use Rattle.meaning.proofs.LockAdded.{locked_sound, read_sound_lem}
use Rattle.meaning.proofs.Granted.{lock_fits, read_fits, read_at_lem, free_found}
use Rattle.meaning.specs.Store.{has_written, written_value}

abbrev pub IsSound : Store → Type 0
IsSound s = sound_store s ≡ true

pub begin_keeps : (s : Store) → IsSound s → IsSound (beginning s).store
unfolding beginning begin_checks
begin_keeps s h =
    unless_keeps IsSound s (begin_checks s)
    (replies (begun s k) (edit (handle (next_generation (edit_at s k).generation) k))) h (λ e.
    let t = needs_pass (leb k (length s.edits)) 13 pass e in
    let f = free_found s.edits (leb-true k (length s.edits) t.0) in
    sound_in (begun s k) (begun_sound s (sound_out s h) k f.range f.free))
  where
    k : ℕ
    k = free_slot s

pub write_keeps : (h r : ℕ) (v : Val) (s : Store) → IsSound s → IsSound (writing h r v s).store
unfolding writing write_checks
write_keeps h r v s f =
    unless_keeps IsSound s (write_checks s h r) (replies (written s (slot_of h) r v) ok) f (λ e.
    let p = for_open_pass s h (needs (has_record s r) 5 (needs (access_room s (slot_of h) r) 10 pass)) e in
    let a = needs_pass (has_record s r) 5 (needs (access_room s (slot_of h) r) 10 pass) p.rest in
    let b = needs_pass (access_room s (slot_of h) r) 10 pass a.1 in
    sound_in (written s (slot_of h) r v)
    (written_sound s (sound_out s f) (slot_of h) p.state r v (has_record_out s r a.0)
    (access_room_out s (slot_of h) r b.0)))

pub lock_keeps : (h r low high : ℕ) (w : Extent) (s : Store) → IsSound s → IsSound (locking h r low high w s).store
unfolding locking_by lock_checks lock_wanted_by lock_verdict
lock_keeps h r low high w s f =
    unless_keeps IsSound s (lock_checks s h r low high) (lock_wanted s k r low high w) f (λ e.
    let order = leb low high && leb high LAST in
    let p = for_open_pass s h (needs (has_record s r) 5 (needs order 6 (needs (ltb (rec_at s r).floor low) 7 pass)))
    e in
    let a = needs_pass (has_record s r) 5 (needs order 6 (needs (ltb (rec_at s r).floor low) 7 pass)) p.rest in
    let b = needs_pass order 6 (needs (ltb (rec_at s r).floor low) 7 pass) a.1 in
    let c = needs_pass (ltb (rec_at s r).floor low) 7 pass b.1 in
    unless_keeps IsSound s (lock_verdict s k r low high w)
    (replies (with_lock s r WRITE k from end) (locked from end)) f
    (λ g.
    let d = or_else_pass (lock_granted w k (rec_at s r) low high)
    (judge s r WRITE k (first_blocked WRITE k (rec_at s r) low high)) (needs (lock_room s) 11 pass)
    (judge_refuses s r WRITE k (first_blocked WRITE k (rec_at s r) low high)) g in
    let room = needs_pass (lock_room s) 11 pass d.1 in
    let facts = sound_out s f in
    sound_in (with_lock s r WRITE k from end)
    (locked_sound s facts r (has_record_out s r a.0) k from end (lock_room_out s room.0) WRITE
    (lock_fits s.edits r (rec_at s r) (facts.recs r) k p.known.used low high
    (ltb-true (rec_at s r).floor low c.0)
    (leb-true low high (and_left (leb low high) (leb high LAST) b.0))
    (leb-true high LAST (and_right (leb low high) (leb high LAST) b.0)) w d.0))))
  where
    k : ℕ
    k = slot_of h

    from : ℕ
    from = lock_from w (slot_of h) (rec_at s r) low high

    end : ℕ
    end = lock_end w (slot_of h) (rec_at s r) low high

-- Read, of a record that the edit has neither written nor read
module _ (s : Store) (f : IsSound s) (k r m : ℕ) (w : Extent) (there : r < length s.records)
    (used : (edit_at s k).state ≡ FREE → ⊥)
    (o : (edit_at s k).state ≡ OPEN) (last : m ≤ LAST) where
  new_read_keeps : IsSound (read_new s k r m w).store
  unfolding read_new_by read_verdict
  new_read_keeps =
      unless_keeps IsSound s (read_verdict s k r m w)
      (replies (read_store s k r (read_from s r m) (read_end s k r m w))
      (read (read_version s r m).point (read_end s k r m w) (read_version s r m).value)) f (λ e.
      let x = rec_at s r in
      let low = read_from s r m in
      let judged = judge s r READ k (first_blocked READ k x low m) in
      let rooms = needs (access_room s k r) 10 (needs (lock_room s) 11 pass) in
      let a = needs_pass (ltb x.floor m) 7 (or_else (read_granted w k x low m) judged rooms) e in
      let b =
      or_else_pass (read_granted w k x low m) judged rooms (judge_refuses s r READ k (first_blocked READ k x low m))
      a.1 in
      let c = needs_pass (access_room s k r) 10 (needs (lock_room s) 11 pass) b.1 in
      let d = needs_pass (lock_room s) 11 pass c.1 in
      let facts = sound_out s f in
      let v = read_at_lem s.edits r x (facts.recs r) m (ltb-true x.floor m a.0) in
      let fits =
      read_fits s.edits r x (facts.recs r) k used low m (omega (arith, v.above)) (omega (arith, v.below)) last w
      b.0 in
      sound_in (read_store s k r low (read_end s k r m w))
      (read_sound_lem s facts r there k low (read_end s k r m w) (lock_room_out s d.0) (read_version s r m).point refl
      v.present fits o
      (access_room_out s k r c.0)))

-- an own or repeated read leaves the store as it is
either_keeps : (P : Store → Type 0) (s : Store) (x y : Reply) (z : Outcome) (a b : Bool) → P s → P z.store
    → P (cond a (replies s x) (cond b (replies s y) z)).store
either_keeps P s x y z true b h g = h
either_keeps P s x y z false true h g = h
either_keeps P s x y z false false h g = g

pub read_keeps : (h r m : ℕ) (w : Extent) (s : Store) → IsSound s → IsSound (reading h r m w s).store
unfolding reading_by read_checks read_open_by
read_keeps h r m w s f =
    unless_keeps IsSound s (read_checks s h r m) (read_open s (slot_of h) r m w) f (λ e.
    let k = slot_of h in
    let p = for_open_pass s h (needs (has_record s r) 5 (needs (is_point m) 6 pass)) e in
    let a = needs_pass (has_record s r) 5 (needs (is_point m) 6 pass) p.rest in
    let b = needs_pass (is_point m) 6 pass a.1 in
    let x = access_of (edit_at s k) r in
    either_keeps IsSound s (own (written_value x))
    (again (x.from - 1) (version_on (rec_at s r).versions (x.from - 1)).value)
    (read_new s k r m w) (has_written x) (has_read x) f
    (new_read_keeps s f k r m w (has_record_out s r a.0) p.known.used p.state
    (leb-true m LAST (and_right (leb 1 m) (leb m LAST) b.0))))

pub view_keeps : (r p : ℕ) (s : Store) → IsSound s → IsSound (viewing r p s).store
unfolding viewing
view_keeps r p s f =
    let v = newest_at (rec_at s r).versions p in
    unless_keeps IsSound s (view_checks s r p) (replies s (at v.point v.value)) f (λ e. f)
