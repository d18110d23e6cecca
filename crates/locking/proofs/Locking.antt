-- What Lock has done at each of its returns. Rests on Acting, LockExits and CallsKeep of `meaning`.
use Prim.Native.Nat.{ℕ, ◌≤◌, ◌<◌}
use mathlib.Core.Path.{◌≡◌, refl, sym, ap, ◌∙◌}
use mathlib.Core.Bool.{true, false, ◌&&◌}
use mathlib.Core.List.{List, []}
use lib.Dec.{leb, ltb}
use borrow.Author.Tests.{ltb-true, lt-ltb, le-ltb, le-leb}
use Rattle.types.specs.Limits.{LAST, WRITE}
use Rattle.meaning.specs.Store.{Rec, rec_at}
use Rattle.types.specs.Numbers.{slot_of}
use Rattle.meaning.specs.Points.{add_lock}
use Rattle.types.specs.Replies.{Reply, locked, refusing, number, details, of_refusal}
use Rattle.types.specs.declared.Refusal.{Refusal}
use Rattle.types.specs.declared.Refusal.TheVariants.{NoRecord, BadPoint, BelowFloor}
use Rattle.calls.specs.Checks.{open_slot}
use Rattle.meaning.specs.Outcomes.{replies, refuse, knows, is_open, has_record, lock_room}
use Rattle.meaning.specs.Locking.{with_lock, with_lock_by, lock_wanted, locking}
use Rattle.types.specs.declared.Counts.{Counts}
use Rattle.types.specs.declared.Extent.{Extent}
use Rattle.meaning.proofs.Lists.{and_in}
use Rattle.meaning.proofs.CallsKeep.{lock_keeps}
use Rattle.tables.specs.Layout.{counts_of}
use Rattle.tables.specs.Decode.{record_at, decode_at}
use Rattle.tables.specs.Words.{lent, sound_words}
use Rattle.tables.proofs.Decoded.{rec_at_lem}
use Rattle.changes.specs.Becomes.{Becomes, on_locks}
use Rattle.blocking.specs.declared.Blocked.{Blocked}
use Rattle.calls.specs.Contract.{Acts, Ready, Makes}
use Rattle.calls.specs.Grants.{lock_grant, refusal_by, Small}
use Rattle.blocking.specs.Search.{Grant}
use Rattle.std.specs.Prelude.{Result, Ok, Err}
use Rattle.calls.proofs.Acting.{ready, makes_refused, makes_done, makes_as, acts}
use Rattle.calls.proofs.Handles.{has_record_is}
use Rattle.locking.proofs.LockExits.{lock_closed, lock_no_record, lock_bad_point}
use Rattle.locking.proofs.LockExits.{lock_below, lock_passes, lock_by_small, lock_blocked, lock_no_room}
use Rattle.locking.proofs.LockExits.{lock_done}

-- the points wanted, by the open edit of slot k
module _ (c : Counts) (w : List ℕ) (R : Ready c w) (k r low high : ℕ) (x : Extent) (g : Grant)
    (e : g ≡ lock_grant x (decode_at c w) k r low high) where
  granted : {h : Grant} → g ≡ h → h ≡ lock_grant x (decode_at c w) k r low high
  granted f = sym f ∙ e

  module _ (b : Blocked) (f : g ≡ Err b) where
    pub wanted_by_small : Small b.judgement
    wanted_by_small = lock_by_small (decode_at c w) k r low high x b (granted f)

    pub wanted_blocked : (n : ℕ) (more : List ℕ) → refuse n more ≡ refusal_by (decode_at c w) b.judgement
        → Makes c (lock_wanted (decode_at c w) k r low high x) w w (refusing n more)
    wanted_blocked n more j =
        makes_refused c w (lock_wanted (decode_at c w) k r low high x) n more R.well
        (lock_blocked (decode_at c w) k r low high x b (granted f) n more j)

  module _ (from end : ℕ) (f : g ≡ Ok (from, end)) where
    pub wanted_no_room : lock_room (decode_at c w) ≡ false
        → Makes c (lock_wanted (decode_at c w) k r low high x) w w (refusing 11 [])
    wanted_no_room h =
        makes_refused c w (lock_wanted (decode_at c w) k r low high x) 11 [] R.well
        (lock_no_room (decode_at c w) k r low high x from end (granted f) h)

    pub wanted_done : lock_room (decode_at c w) ≡ true → (w' : List ℕ) (p q : ℕ)
        → Becomes c w' (on_locks (decode_at c w) r
        (add_lock (record { low = from; high = end; mode = WRITE; owner = k })))
        → p ≡ from → q ≡ end
        → Makes c (lock_wanted (decode_at c w) k r low high x) w w' (locked p q)
    unfolding with_lock_by
    wanted_done h w' p q B i j =
        rw (i, j)
        (makes_done c w (lock_wanted (decode_at c w) k r low high x) w' (with_lock (decode_at c w) r WRITE k from end)
        (locked from end) B.well B.means
        (lock_done (decode_at c w) k r low high x from end (granted f) h) refl)

-- the call
module _ (c : Counts) (w : List ℕ) (hs : sound_words (lent w) ≡ true) (e : c ≡ counts_of w) (h r low high : ℕ)
    (x : Extent) where
  abbrev Ends : List ℕ → Reply → Type 0
  Ends w' q = Acts (locking h r low high x) (lent w) (lent w') q

  refuses : (y : Refusal) → locking h r low high x (decode_at c w) ≡ replies (decode_at c w) (of_refusal y)
      → Ends w (of_refusal y)
  refuses y o =
      acts (locking h r low high x) (lock_keeps h r low high x) c w w (of_refusal y) hs e
      (makes_refused c w (locking h r low high x (decode_at c w)) (number y) (details y) (ready w hs c e).well o)

  pub locked_closed : {q : Result ℕ Refusal} {y : Refusal} → q ≡ open_slot (decode_at c w) h → q ≡ Err y
      → Ends w (of_refusal y)
  locked_closed {q} {y} m f = refuses y (lock_closed (decode_at c w) h r low high x m f)

  module _ (k : knows (decode_at c w) h ≡ true) (o : is_open (decode_at c w) h ≡ true) where
    pub locked_no_record : ltb r c.records ≡ false → Ends w (refusing 5 [])
    locked_no_record t = refuses NoRecord
        (lock_no_record (decode_at c w) h r low high x k o (sym (has_record_is c w r) ∙ t))

    module _ (t : ltb r c.records ≡ true) where
      there : has_record (decode_at c w) r ≡ true
      there = sym (has_record_is c w r) ∙ t

      pub locked_bad_point : (leb low high && leb high LAST) ≡ false → Ends w (refusing 6 [])
      locked_bad_point l = refuses BadPoint (lock_bad_point (decode_at c w) h r low high x k o there l)

      module _ (order : low ≤ high) (last : high ≤ LAST) where
        in_order : leb low high && leb high LAST ≡ true
        in_order = and_in (le-leb low high order) (le-leb high LAST last)

        floor_is : (record_at c w r).floor ≡ (rec_at (decode_at c w) r).floor
        floor_is = ap (λ (y : Rec). y.floor) (sym (rec_at_lem c w r (ltb-true r c.records t)))

        pub locked_below_lem : low ≤ (record_at c w r).floor → Ends w (refusing 7 [])
        locked_below_lem l =
            refuses BelowFloor (lock_below (decode_at c w) h r low high x k o there in_order
            (le-ltb (rec_at (decode_at c w) r).floor low (rw floor_is at l)))

        pub lock_acts : (record_at c w r).floor < low → (w' : List ℕ) (q : Reply) (j from to : ℕ) → j ≡ slot_of h
            → from ≡ low → to ≡ high → Makes c (lock_wanted (decode_at c w) j r from to x) w w' q → Ends w' q
        lock_acts l w' q j from to i a b M =
            let same : lock_wanted (decode_at c w) j r from to x ≡ lock_wanted (decode_at c w)
            (slot_of h) r low high x =
            rw (i, a, b) in
            acts (locking h r low high x) (lock_keeps h r low high x) c w w' q hs e
            (makes_as c w (lock_passes (decode_at c w) h r low high x k o there in_order
            (lt-ltb (rec_at (decode_at c w) r).floor low (rw floor_is at l))
            ∙ sym same) M)
