-- What Read has done at each of its returns. Rests on Acting, ReadExits and CallsKeep of `meaning`.
use Prim.Native.Nat.{ℕ, ◌+◌, ◌-◌, ◌≤◌, ◌<◌}
use mathlib.Core.Path.{◌≡◌, refl, sym, ap, ◌∙◌}
use mathlib.Core.Bool.{true, false}
use mathlib.Core.List.{List, []}
use native.Mathlib.Omega.{arith}
use lib.Dec.{ltb}
use borrow.Author.Tests.{lt-ltb, le-ltb, le-leb}
use Rattle.chains.specs.Walk.{IsRow}
use Rattle.types.specs.Limits.{LAST, READ}
use Rattle.meaning.specs.Store.{Rec, Edit, Store, edit_at, rec_at, access_of, newest_below, version_on, locks_used}
use Rattle.types.specs.Numbers.{slot_of}
use Rattle.meaning.specs.Points.{add_lock}
use Rattle.types.specs.Replies.{Reply, read, own, again, refusing}
use Rattle.meaning.specs.Outcomes.{replies, refuse, knows, is_open, is_point, has_record, access_room, lock_room}
use Rattle.meaning.specs.Edits.{with_access}
use Rattle.meaning.specs.Locking.{with_lock, with_lock_by, read_version, read_from, read_store, read_store_by, read_new}
use Rattle.meaning.specs.Locking.{read_open, reading}
use Rattle.types.specs.declared.Access.{Access}
use Rattle.types.specs.declared.Counts.{Counts}
use Rattle.types.specs.declared.Extent.{Extent}
use Rattle.types.specs.declared.Version.{Version}
use Rattle.meaning.proofs.Lists.{and_in}
use Rattle.meaning.proofs.CallsKeep.{read_keeps}
use Rattle.meaning.proofs.Granted.{read_at_lem}
use Rattle.tables.specs.Layout.{counts_of}
use Rattle.tables.specs.Decode.{record_at, slot_at, decode_at}
use Rattle.tables.specs.Words.{lent, sound_words}
use Rattle.tables.proofs.Decoded.{rec_at_lem, edit_at_lem}
use Rattle.changes.specs.Becomes.{Becomes, on_locks, on_edit}
use Rattle.blocking.specs.declared.Blocked.{Blocked}
use Rattle.types.specs.Replies.{number, details, of_refusal}
use Rattle.types.specs.declared.Refusal.{Refusal}
use Rattle.types.specs.declared.Refusal.TheVariants.{NoRecord, BadPoint}
use Rattle.calls.specs.Checks.{open_slot}
use Rattle.calls.specs.Contract.{Acts, Ready, Makes}
use Rattle.calls.specs.Grants.{read_grant, refusal_by, Small}
use Rattle.calls.specs.Parts.{read_taken}
use Rattle.blocking.specs.Search.{Grant}
use Rattle.std.specs.Prelude.{Result, Ok, Err}
use Rattle.calls.proofs.Acting.{ready, facts, makes_refused, makes_done, makes_as, acts}
use Rattle.calls.proofs.Handles.{has_record_is}
use Rattle.calls.proofs.Rooms.{lock_free, edit_leaves_room, edit_then_lock}
use Rattle.reading.proofs.ReadExits.{read_closed, read_no_record, read_bad_point, read_passes}
use Rattle.reading.proofs.ReadExits.{read_own, read_again, read_first, read_below, read_by_small}
use Rattle.reading.proofs.ReadExits.{read_blocked, read_granted_is, read_no_access, read_no_lock, read_done}
use Rattle.types.specs.Values.{blank}
use Rattle.types.specs.declared.Pending.TheVariants.{Unwritten}
use Rattle.meaning.specs.Store.{has_written, written_value}

-- the lock and the access of a read, of the version v
module _ (c : Counts) (w : List ℕ) (R : Ready c w) (k r from end : ℕ) (v : Version) where
  pub taken_no_access : access_room (decode_at c w) k r ≡ false
      → Makes c (read_taken (decode_at c w) k r from end v) w w (refusing 10 [])
  taken_no_access e =
      makes_refused c w (read_taken (decode_at c w) k r from end v) 10 [] R.well
      (read_no_access (decode_at c w) k r from end v e)

  module _ (a : access_room (decode_at c w) k r ≡ true) where
    pub taken_no_lock : lock_room (decode_at c w) ≡ false
        → Makes c (read_taken (decode_at c w) k r from end v) w w (refusing 11 [])
    taken_no_lock e =
        makes_refused c w (read_taken (decode_at c w) k r from end v) 11 [] R.well
        (read_no_lock (decode_at c w) k r from end v a e)

    module _ (l : lock_room (decode_at c w) ≡ true) (w₁ : List ℕ)
        (B : Becomes c w₁ (on_edit (decode_at c w) k
        (λ x. with_access x (record { rec = r; from = from; value = Unwritten blank })))) where
      abbrev changed : Edit
      changed = with_access (edit_at (decode_at c w) k) (record { rec = r; from = from; value = Unwritten blank })

      pub taken_room : locks_used (decode_at c w₁) < c.locks
      taken_room = lock_free c w₁ (ap lock_room B.means ∙ edit_leaves_room (decode_at c w) k changed ∙ l)

      pub taken_done : (w' : List ℕ) (p q : ℕ)
          → Becomes c w'
          (on_locks (decode_at c w₁) r (add_lock (record { low = from; high = end; mode = READ; owner = k })))
          → p ≡ v.point → q ≡ end → Makes c (read_taken (decode_at c w) k r from end v) w w' (read p q v.value)
      unfolding read_store_by with_lock_by
      taken_done w' p q D i j =
          let m : decode_at c w' ≡ read_store (decode_at c w) k r from end =
          D.means
          ∙ ap (λ (s : Store). with_lock s r READ k from end) B.means
          ∙ edit_then_lock (decode_at c w) k changed r READ k from end in
          rw (i, j)
          (makes_done c w (read_taken (decode_at c w) k r from end v) w' (read_store (decode_at c w) k r from end)
          (read v.point end v.value) D.well m
          (read_done (decode_at c w) k r from end v a l) refl)

-- of a record that the edit has neither written nor read
module _ (c : Counts) (w : List ℕ) (R : Ready c w) (k r m : ℕ) (x : Extent) (l : r < c.records) (floor : ℕ)
    (f : floor ≡ (record_at c w r).floor) where
  here : rec_at (decode_at c w) r ≡ record_at c w r
  here = rec_at_lem c w r l

  floor_is : floor ≡ (rec_at (decode_at c w) r).floor
  floor_is = f ∙ ap (λ (y : Rec). y.floor) (sym here)

  pub new_below : m ≤ floor → Makes c (read_new (decode_at c w) k r m x) w w (refusing 7 [])
  new_below n =
      let i = floor_is in
      makes_refused c w (read_new (decode_at c w) k r m x) 7 [] R.well
      (read_below (decode_at c w) k r m x (le-ltb (rec_at (decode_at c w) r).floor m (omega arith)))

  module _ (n : floor < m) (v : Version) (e : v ≡ newest_below (record_at c w r).versions m) where
    above : ltb (rec_at (decode_at c w) r).floor m ≡ true
    above = let i = floor_is in lt-ltb (rec_at (decode_at c w) r).floor m (omega arith)

    version_is : v ≡ read_version (decode_at c w) r m
    version_is = e ∙ ap (λ (y : Rec). newest_below y.versions m) (sym here)

    -- the version read lies below m, so that there is a point to lock
    pub version_below : v.point + 1 ≤ m
    version_below =
        let i = floor_is in
        let b = (read_at_lem (decode_at c w).edits r (rec_at (decode_at c w) r) ((facts c w R).recs r) m
        (omega arith)).below in
        omega (arith, ap (λ (y : Version). y.point) version_is)

    module _ (g : Grant) (d : g ≡ read_grant x (decode_at c w) k r (v.point + 1) m) where
      from_is : v.point + 1 ≡ read_from (decode_at c w) r m
      from_is = omega (arith, ap (λ (y : Version). y.point) version_is)

      granted : {h : Grant} → g ≡ h → h ≡ read_grant x (decode_at c w) k r (read_from (decode_at c w) r m) m
      granted q = sym q ∙ d ∙ ap (λ (y : ℕ). read_grant x (decode_at c w) k r y m) from_is

      module _ (b : Blocked) (q : g ≡ Err b) where
        pub new_by_small : Small b.judgement
        new_by_small = read_by_small (decode_at c w) k r m x above b (granted q)

        pub new_blocked : (j : ℕ) (more : List ℕ) → refuse j more ≡ refusal_by (decode_at c w) b.judgement
            → Makes c (read_new (decode_at c w) k r m x) w w (refusing j more)
        new_blocked j more u =
            makes_refused c w (read_new (decode_at c w) k r m x) j more R.well
            (read_blocked (decode_at c w) k r m x above b (granted q) j more u)

      pub new_taken : (from end : ℕ) (w' : List ℕ) (q : Reply) → g ≡ Ok (from, end)
          → Makes c (read_taken (decode_at c w) k r from end v) w w' q
          → Makes c (read_new (decode_at c w) k r m x) w w' q
      new_taken from end w' q u M =
          makes_as c w (read_granted_is (decode_at c w) k r m x above from end (granted u)
          ∙ ap (read_taken (decode_at c w) k r from end) (sym version_is)) M

-- by the open edit of slot k
module _ (c : Counts) (w : List ℕ) (R : Ready c w) (k r m : ℕ) (x : Extent) (i : IsRow c.edits k) (a : Access)
    (e : a ≡ access_of (slot_at c w k) r) where
  access_is : a ≡ access_of (edit_at (decode_at c w) k) r
  access_is = e ∙ ap (λ (y : Edit). access_of y r) (sym (edit_at_lem c w k i))

  pub opened_own : has_written a ≡ true → Makes c (read_open (decode_at c w) k r m x) w w (own (written_value a))
  opened_own f =
      makes_done c w (read_open (decode_at c w) k r m x) w (decode_at c w) (own (written_value a)) R.well refl
      (read_own (decode_at c w) k r m x a access_is f) refl

  module _ (f : has_written a ≡ false) where
    pub opened_again : (v : Version) (p : ℕ) → r < c.records → 0 < a.from
        → v ≡ version_on (record_at c w r).versions (a.from - 1) → p ≡ a.from - 1
        → Makes c (read_open (decode_at c w) k r m x) w w (again p v.value)
    opened_again v p l g h q =
        rw q
        (makes_done c w (read_open (decode_at c w) k r m x) w (decode_at c w) (again (a.from - 1) v.value) R.well
        refl
        (read_again (decode_at c w) k r m x a access_is v f g
        (h ∙ ap (λ (y : Rec). version_on y.versions (a.from - 1)) (sym (rec_at_lem c w r l)))) refl)

    pub opened_new : (w' : List ℕ) (q : Reply) → a.from ≤ 0 → Makes c (read_new (decode_at c w) k r m x) w w' q
        → Makes c (read_open (decode_at c w) k r m x) w w' q
    opened_new w' q g M = makes_as c w (read_first (decode_at c w) k r m x a access_is f (omega arith)) M

-- the call
module _ (c : Counts) (w : List ℕ) (hs : sound_words (lent w) ≡ true) (e : c ≡ counts_of w)
    (h r m : ℕ) (x : Extent) where
  abbrev Ends : List ℕ → Reply → Type 0
  Ends w' q = Acts (reading h r m x) (lent w) (lent w') q

  refuses : (y : Refusal) → reading h r m x (decode_at c w) ≡ replies (decode_at c w) (of_refusal y)
      → Ends w (of_refusal y)
  refuses y o =
      acts (reading h r m x) (read_keeps h r m x) c w w (of_refusal y) hs e
      (makes_refused c w (reading h r m x (decode_at c w)) (number y) (details y) (ready w hs c e).well o)

  pub reads_closed : {q : Result ℕ Refusal} {y : Refusal} → q ≡ open_slot (decode_at c w) h → q ≡ Err y
      → Ends w (of_refusal y)
  reads_closed {q} {y} m' f = refuses y (read_closed (decode_at c w) h r m x m' f)

  module _ (k : knows (decode_at c w) h ≡ true) (o : is_open (decode_at c w) h ≡ true) where
    pub reads_no_record : ltb r c.records ≡ false → Ends w (refusing 5 [])
    reads_no_record t = refuses NoRecord (read_no_record (decode_at c w) h r m x k o (sym (has_record_is c w r) ∙ t))

    module _ (t : ltb r c.records ≡ true) where
      there : has_record (decode_at c w) r ≡ true
      there = sym (has_record_is c w r) ∙ t

      pub reads_bad_point : is_point m ≡ false → Ends w (refusing 6 [])
      reads_bad_point f = refuses BadPoint (read_bad_point (decode_at c w) h r m x k o there f)

      pub read_acts : 1 ≤ m → m ≤ LAST → (w' : List ℕ) (q : Reply) (j n : ℕ) → j ≡ slot_of h → n ≡ m
          → Makes c (read_open (decode_at c w) j r n x) w w' q → Ends w' q
      read_acts low l w' q j n i a M =
          let same : read_open (decode_at c w) j r n x ≡ read_open (decode_at c w) (slot_of h) r m x = rw (i, a) in
          acts (reading h r m x) (read_keeps h r m x) c w w' q hs e
          (makes_as c w (read_passes (decode_at c w) h r m x k o there (and_in (le-leb 1 m low) (le-leb m LAST l))
          ∙ sym same) M)
