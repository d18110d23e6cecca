-- Settling a slot in use keeps a store sound and needs no row: every point of a settled lock that is left was under a
-- lock of the edit, a write lock if it is one, so it meets no other owner. Rests on Changed, Kept, SoundParts and
-- LocksLeft.
use Prim.Native.Nat.{ℕ, suc, ◌+◌, ◌≤◌, ◌<◌}
use native.Mathlib.Omega.{arith}
use native.Mathlib.Decide.{ℕ_discrete}
use native.Mathlib.Nat.{le_refl}
use mathlib.Core.Path.{◌≡◌, refl, sym, ap, ◌∙◌}
use mathlib.Core.Logic.{◌⊎◌, inl, inr}
use mathlib.Core.Bool.{true}
use mathlib.Core.List.Memᴰ
use mathlib.Core.List.{List}
use lib.ListN.{length}
use Rattle.meaning.specs.Lists.{◌∈◌, map_from}
use Rattle.types.specs.Limits.{LAST, READ, WRITE, SETTLED, FREE, COMMITTED}
use Rattle.meaning.specs.Store.{Access, Lock, Rec, Edit, Store, fresh_rec, edit_of, set_edit, rec_of, edit_at, rec_at}
use Rattle.meaning.specs.Store.{with_edit}
use Rattle.meaning.specs.Store.{with_records, access_of, versions_used, locks_used, accesses_used}
use Rattle.meaning.specs.Ending.{freed, settled_locks, settled_rec, settled, settled_by}
use Rattle.meaning.specs.Sound.{versions_fall, names_once}
use Rattle.meaning.specs.Pointwise.{LockOn, HeldOn}
use Rattle.meaning.specs.SoundFacts.{SoundStore, SoundRec, SoundEdit, Backed, WroteAt, Present, ReadStarts, Span}
use Rattle.meaning.specs.Laws.{SettlingNeedsNoRow}
use Rattle.meaning.proofs.Lists.{length_map_from, total_map_from}
use Rattle.meaning.proofs.Stores.{InRange, used_out, used_range, edit_same, edit_other, accesses_set}
use Rattle.meaning.proofs.Changed.{counts_map, rec_settled_any}
use Rattle.meaning.proofs.Kept.{Keeps, edit_kept, access_written, access_read}
use Rattle.meaning.proofs.SoundParts.{sound_out}
use Rattle.meaning.proofs.LocksLeft.{LeftBy, other, wrote, read, settled_out, settled_other}
use Rattle.meaning.proofs.LocksLeft.{OwnWrite, OwnRead, settled_wrote, settled_few, settled_rises}
use Rattle.meaning.proofs.LocksLeft.{settled_joined}
use Rattle.meaning.specs.Points.{is_settled_read, joined_row, drop_owner, is_owned, settled_lock}
use Rattle.meaning.proofs.Joining.{Touching, row_own, row_out}
use Rattle.meaning.proofs.LockChanges.{drop_owner_member}
use Rattle.meaning.proofs.Tests.{unowned_in}
use Prim.Native.Nat.{zero}
use lib.Dec.{eqb}
use mathlib.Core.Bool.{Bool, true, false, ◌&&◌}
use Rattle.meaning.specs.Store.{has_written}

-- the locks that an edit has on a record that it wrote, and on one that it read at tr
module _ (s : Store) (k : ℕ) (good : SoundStore s) (r : ℕ) where
  own_write : (edit_at s k).state ≡ COMMITTED → has_written (access_of (edit_at s k) r) ≡ true
      → LockOn (rec_at s r).locks k WRITE (edit_at s k).point
  own_write z q =
      let w = access_written (edit_at s k) r q in
      rw w.1 at (((good.edits k).common z).written (access_of (edit_at s k) r) w.0 q)

  own_start : (tr : ℕ) → (access_of (edit_at s k) r).from ≡ suc tr → ReadStarts k (suc tr) (rec_at s r).locks
  own_start tr q =
      let w = access_read (edit_at s k) r tr q in
      rw w.1 at ((good.edits k).locked (access_of (edit_at s k) r) tr w.0 q)

  pub write_own : (edit_at s k).state ≡ COMMITTED → has_written (access_of (edit_at s k) r) ≡ true
      → OwnWrite k (rec_at s r).locks
  write_own z q =
      let w = own_write z q in record { lock = w.lock; member = w.member; owned = w.owned; mode = w.moded }

  pub read_own : (tr : ℕ) → (access_of (edit_at s k) r).from ≡ suc tr → OwnRead k (rec_at s r).locks
  read_own tr q =
      let w = own_start tr q in record { lock = w.lock; member = w.member; owned = w.owned; mode = w.mode }

module _ (s : Store) (k : ℕ) (good : SoundStore s) (used : (edit_at s k).state ≡ FREE → ⊥) where
  abbrev e : Edit
  e = edit_at s k

  abbrev t : ℕ
  t = e.point

  abbrev es' : List Edit
  es' = set_edit s.edits k (freed e)

  abbrev rs' : List Rec
  rs' = map_from 0 (settled_rec k e) s.records

  abbrev left : ℕ → List Lock
  left r = settled_locks k e r (rec_at s r).locks

  range : InRange s.edits k
  range = used_range s.edits k used

  -- what the edit has read, and what it has under its own locks
  own_above : (r tr : ℕ) → e.state ≡ COMMITTED → (access_of e r).from ≡ suc tr → tr < t
  own_above r tr z q = ((good.edits k).common z).above (access_of e r) tr (access_read e r tr q).0 q

  own_under : (r tr p : ℕ) → e.state ≡ COMMITTED → (access_of e r).from ≡ suc tr → tr < p → p ≤ t
      → HeldOn (rec_at s r).locks k p
  own_under r tr p z q a b =
      let w = access_read e r tr q in rw w.1 at (((good.edits k).common z).under (access_of e r) tr p w.0 q a b)

  -- a lock of another owner stays; a newly settled one has an own lock, a write lock if it is one, on each of its
  -- points
  record Beneath (r : ℕ) (l : Lock) (p : ℕ) : Type 0 where
    lock : Lock
    member : lock ∈ (rec_at s r).locks
    owned : (lock.owner ≡ k) ⊎ (lock.owner ≡ SETTLED)
    strong : l.mode ≡ WRITE → lock.mode ≡ WRITE
    from : lock.low ≤ p
    upto : p ≤ lock.high

  record NewlySettled (r : ℕ) (l : Lock) : Type 0 where
    owner : l.owner ≡ SETTLED
    mode : (l.mode ≡ READ) ⊎ (l.mode ≡ WRITE)
    span : Span (rec_at s r).floor l
    beneath : (p : ℕ) → l.low ≤ p → p ≤ l.high → Beneath r l p

  new_write : (r : ℕ) → e.state ≡ COMMITTED → has_written (access_of e r) ≡ true
      → NewlySettled r (settled_lock WRITE t t)
  new_write r z q =
      let w = own_write s k good r z q in
      let c = (good.edits k).common z in
      record {
        owner = refl;
        mode = inr refl;
        span = record {
          above = omega (arith, ((good.recs r).span w.lock w.member).above, w.from);
          some = le_refl t;
          last = c.last;
        };
        beneath = λ p a b.
            record {
              lock = w.lock;
              member = w.member;
              owned = inl w.owned;
              strong = λ y. w.moded;
              from = omega (arith, w.from);
              upto = omega (arith, w.upto);
            };
      }

  -- the settled read row, with those that it takes in: each of its points is under an own lock or under a settled one
  abbrev dropped : ℕ → List Lock
  dropped r = drop_owner k (rec_at s r).locks

  new_read : (r tr : ℕ) → e.state ≡ COMMITTED → (access_of e r).from ≡ suc tr
      → NewlySettled r (joined_row (access_of e r).from t (dropped r))
  new_read r tr z q =
      let f = (access_of e r).from in
      let w = own_start s k good r tr q in
      let o = row_own f t (dropped r) in
      let h : f ≤ t = omega (arith, q, own_above r tr z q) in
      let whole : (joined_row f t (dropped r)).low ≤ (joined_row f t (dropped r)).high = omega (arith, o.0, o.1, h) in
      record {
        owner = refl;
        mode = inl refl;
        span =
            record {
              above = lowest w (row_out f t (dropped r) (joined_row f t (dropped r)).low (omega arith) whole);
              some = whole;
              last = highest (row_out f t (dropped r) (joined_row f t (dropped r)).high whole (omega arith));
            };
        beneath = λ p a b. under p (row_out f t (dropped r) p a b);
      }
    where
      lowest : ReadStarts k (suc tr) (rec_at s r).locks → {p : ℕ}
          → (((access_of e r).from ≤ p) × (p ≤ t)) ⊎ ((m : Lock) × (m ∈ dropped r) × Touching (access_of e r).from t m ×
          (m.low ≤ p) × (p ≤ m.high))
          → (rec_at s r).floor < p
      lowest w (inl c) = omega (arith, q, ((good.recs r).span w.lock w.member).above, w.starts, c.0)
      lowest w (inr c) = omega (
        arith,
        ((good.recs r).span c.0 ((drop_owner_member k (rec_at s r).locks).0 c.1).0
            ).above,
        c.3,
      )

      highest : {p : ℕ}
          → (((access_of e r).from ≤ p) × (p ≤ t)) ⊎ ((m : Lock) × (m ∈ dropped r) × Touching (access_of e r).from t m ×
          (m.low ≤ p) × (p ≤ m.high))
          → p ≤ LAST
      highest (inl c) = omega (arith, c.1, ((good.edits k).common z).last)
      highest (inr c) = omega (
        arith,
        ((good.recs r).span c.0 ((drop_owner_member k (rec_at s r).locks).0 c.1).0
            ).last,
        c.4,
      )

      under : (p : ℕ)
          → (((access_of e r).from ≤ p) × (p ≤ t)) ⊎ ((m : Lock) × (m ∈ dropped r) × Touching (access_of e r).from t m ×
          (m.low ≤ p) × (p ≤ m.high))
          → Beneath r (joined_row (access_of e r).from t (dropped r)) p
      under p (inl c) =
          let h = own_under r tr p z q (omega (arith, q, c.0)) c.1 in
          record {
            lock = h.lock;
            member = h.member;
            owned = inl h.owned;
            strong = λ y. absurd (omega arith);
            from = h.from;
            upto = h.upto;
          }
      under p (inr c) =
          record {
            lock = c.0;
            member = ((drop_owner_member k (rec_at s r).locks).0 c.1).0;
            owned = inr c.2.owned;
            strong = λ y. absurd (omega arith);
            from = c.3;
            upto = c.4;
          }

  left_is : (r : ℕ) (l : Lock) → l ∈ left r → ((l ∈ (rec_at s r).locks) × (l.owner ≡ k → ⊥)) ⊎ NewlySettled r l
  left_is r l m = go (settled_out k e r (rec_at s r).locks l m)
    where
      go : LeftBy k e r (rec_at s r).locks l → ((l ∈ (rec_at s r).locks) × (l.owner ≡ k → ⊥)) ⊎ NewlySettled r l
      go (other n h) = inl (n, h)
      go (wrote z q y) = inr (rw y (new_write r z q))
      go (read z tr q y) = inr (rw y (new_read r tr z q))

  -- what the other slots are after
  owner_kept : (o : ℕ) → (o ≡ k → ⊥) → (o ≡ SETTLED) ⊎ ((edit_of s.edits o).state ≡ FREE → ⊥)
      → (o ≡ SETTLED) ⊎ ((edit_of es' o).state ≡ FREE → ⊥)
  owner_kept o d (inl z) = inl z
  owner_kept o d (inr h) = inr (λ z. h (sym (ap (λ (x : Edit). x.state) (edit_other s.edits k o (freed e) d)) ∙ z))

  wrote_kept : (o r p : ℕ) → (o ≡ k → ⊥) → (o ≡ SETTLED) ⊎ WroteAt s.edits o r p → (o ≡ SETTLED) ⊎ WroteAt es' o r p
  wrote_kept o r p d (inl z) = inl z
  wrote_kept o r p d (inr w) =
      let q = edit_other s.edits k o (freed e) d in
      inr (record { state = rw q w.state; point = rw q w.point; wrote = rw q w.wrote })

  starts_below : (r : ℕ) → e.state ≡ COMMITTED → (access_of e r).from ≤ t
  starts_below r z = go (access_of e r).from refl
    where
      go : (n : ℕ) → (access_of e r).from ≡ n → n ≤ t
      go zero q = omega arith
      go (suc tr) q = own_above r tr z q

  write_plain : (l : Lock) → l.mode ≡ WRITE → is_settled_read l ≡ false
  write_plain l q = go (is_owned SETTLED l)
    where
      go : (b : Bool) → (b && eqb l.mode READ) ≡ false
      go true = rw q refl
      go false = refl

  owned_plain : (l : Lock) → (l.owner ≡ SETTLED → ⊥) → is_settled_read l ≡ false
  owned_plain l d = rw (unowned_in SETTLED l d) refl

  backed_kept : (r p : ℕ) → Backed s.edits r p (rec_at s r).locks → Backed es' r p (left r)
  backed_kept r p b = go (ℕ_discrete b.lock.owner k)
    where
      mine : (o : ℕ) → o ≡ k → (o ≡ SETTLED) ⊎ WroteAt s.edits o r p → Backed es' r p (left r)
      mine o y (inl z) = absurd (omega (arith, range.from))
      mine o y (inr w) =
          let v : WroteAt s.edits k r p = rw y at w in
          record {
            lock = settled_lock WRITE t t;
            member = settled_wrote k e r (rec_at s r).locks v.state v.wrote;
            write = refl;
            from = omega (arith, v.point);
            upto = omega (arith, v.point);
            owner = inl refl;
          }

      go : Dec (b.lock.owner ≡ k) → Backed es' r p (left r)
      go (yes y) = mine b.lock.owner y b.owner
      go (no d) =
          record {
            lock = b.lock;
            member = settled_other k e r (rec_at s r).locks b.lock (write_plain b.lock b.write) b.member d;
            write = b.write;
            from = b.from;
            upto = b.upto;
            owner = wrote_kept b.lock.owner r p d b.owner;
          }

  module _ (r : ℕ) where
    abbrev x : Rec
    x = rec_at s r

    abbrev y : Rec
    y = settled_rec k e r x

    modes : (l : Lock) → ((l ∈ x.locks) × (l.owner ≡ k → ⊥)) ⊎ NewlySettled r l → (l.mode ≡ READ) ⊎ (l.mode ≡ WRITE)
    modes l (inl w) = (good.recs r).mode l w.0
    modes l (inr f) = f.mode

    spans : (l : Lock) → ((l ∈ x.locks) × (l.owner ≡ k → ⊥)) ⊎ NewlySettled r l → Span x.floor l
    spans l (inl w) = (good.recs r).span l w.0
    spans l (inr f) = f.span

    owners : (l : Lock) → ((l ∈ x.locks) × (l.owner ≡ k → ⊥)) ⊎ NewlySettled r l
        → (l.owner ≡ SETTLED) ⊎ ((edit_of es' l.owner).state ≡ FREE → ⊥)
    owners l (inl w) = owner_kept l.owner w.1 ((good.recs r).owner l w.0)
    owners l (inr f) = inl f.owner

    -- a row of another owner, not settled, is of no owner that a newly settled row has beneath it
    differ : (l : Lock) → (l.owner ≡ k → ⊥) → (l.owner ≡ SETTLED → ⊥) → {o : ℕ} → l.owner ≡ o
        → (o ≡ k) ⊎ (o ≡ SETTLED) → ⊥
    differ l a b z (inl y) = a (z ∙ y)
    differ l a b z (inr y) = b (z ∙ y)

    aparts : (l m : Lock) → ((l ∈ x.locks) × (l.owner ≡ k → ⊥)) ⊎ NewlySettled r l
        → ((m ∈ x.locks) × (m.owner ≡ k → ⊥)) ⊎ NewlySettled r m
        → l.mode ≡ WRITE → (l.owner ≡ m.owner → ⊥) → (p : ℕ) → l.low ≤ p → p ≤ l.high → m.low ≤ p → p ≤ m.high
        → ⊥
    aparts l m (inl v) (inl w) q d p a b a' b' = (good.recs r).apart l m v.0 w.0 q d p a b a' b'
    aparts l m (inl v) (inr g) q d p a b a' b' =
        let h = g.beneath p a' b' in
        (good.recs r).apart l h.lock v.0 h.member q (λ z. differ l v.1 (λ y. d (y ∙ sym g.owner)) z h.owned)
        p a b h.from h.upto
    aparts l m (inr f) (inl w) q d p a b a' b' =
        let h = f.beneath p a b in
        (good.recs r).apart h.lock m h.member w.0 (h.strong q)
        (λ z. differ m w.1 (λ y. d (f.owner ∙ sym y)) (sym z) h.owned) p h.from
        h.upto a' b'
    aparts l m (inr f) (inr g) q d p a b a' b' = d (f.owner ∙ sym g.owner)

    rec_left : SoundRec es' r y
    unfolding versions_fall
    rec_left =
        let b = good.recs r in
        record {
          mode = λ l m. modes l (left_is r l m);
          falls = b.falls;
          low = b.low;
          high = b.high;
          base = λ h. let w = b.base h in record { version = w.version; member = w.member; stands = w.stands };
          nonzero = b.nonzero;
          span = λ l m. spans l (left_is r l m);
          owner = λ l m. owners l (left_is r l m);
          apart = λ l m i j. aparts l m (left_is r l i) (left_is r m j);
          backed = λ v m h. backed_kept r v.point (b.backed v m h);
          rises = settled_rises k e r x.locks b.rises;
          joined = settled_joined k e r x.locks (λ l i. (b.span l i).some) (starts_below r) b.rises b.joined;
        }

    rec_is : rec_of rs' r ≡ y
    unfolding settled_by with_edit with_records
    rec_is = rec_settled_any s k r (good.edits k).existing

    rows : length y.locks ≤ length x.locks
    rows =
        settled_few k e r x.locks
        (λ z q. write_own s k good r z q) (λ z tr q. read_own s k good r tr q)

  present_kept : (r tr : ℕ) → Present (rec_at s r) tr → Present (settled_rec k e r (rec_at s r)) tr
  present_kept r tr (inr z) = inr z
  present_kept r tr (inl w) = inl (record { version = w.version; member = w.member; stands = w.stands })

  -- an edit with an access is no settled owner
  unsettled : (j : ℕ) (a : Access) → a ∈ (edit_at s j).accesses → j ≡ SETTLED → ⊥
  unfolding edit_of
  unsettled j a i z = Memᴰ.not-nil (rw z at i)

  keeps : (j : ℕ) → (j ≡ k → ⊥) → Keeps j (edit_at s j) s.records rs'
  keeps j h =
      record {
        count = omega (arith, length_map_from (settled_rec k e) 0 s.records);
        lock =
            λ a i l o m. rw (rec_is a.rec)
            (settled_other k e a.rec (rec_at s a.rec).locks l (owned_plain l (λ z. unsettled j a i (sym o ∙ z)))
            m (λ z. h (sym o ∙ z)));
        version = λ a tr i z p. rw (rec_is a.rec) (present_kept a.rec tr p);
      }

  edit_freed : SoundEdit rs' k (freed e)
  unfolding names_once
  edit_freed =
      record {
        state = omega arith;
        generation = (good.edits k).generation;
        point = λ z. refl;
        existing = λ a m. absurd (Memᴰ.not-nil m);
        once = refl;
        present = λ a tr m z. absurd (Memᴰ.not-nil m);
        locked = λ a tr m z. absurd (Memᴰ.not-nil m);
        common = λ z. absurd (omega arith);
        idle = λ z. refl;
      }

  edit_any : (j : ℕ) → SoundEdit rs' j (edit_of es' j)
  edit_any j = go (ℕ_discrete j k)
    where
      go : Dec (j ≡ k) → SoundEdit rs' j (edit_of es' j)
      go (yes y) = rw (y, edit_same s.edits k (freed e) range) edit_freed
      go (no d) =
          rw (edit_other s.edits k j (freed e) d)
          (edit_kept j (edit_at s j) s.records rs' (keeps j d) (good.edits j))

  locks_fewer : locks_used (settled s k) ≤ locks_used s
  unfolding settled_by with_edit with_records locks_used rec_of
  locks_fewer =
      total_map_from (λ x. length x.locks) (settled_rec k e) 0 s.records fresh_rec
      (λ r h. let z : 0 + r ≡ r = omega arith in rw z (rows r))

  pub settled_sound : SoundStore (settled s k)
  unfolding settled_by with_edit with_records versions_used accesses_used
  settled_sound =
      record {
        counts = counts_map s (settled_rec k e) k (freed e) good.counts;
        versions_fit =
            omega (
              arith,
              good.versions_fit,
              total_map_from (λ x. length x.versions) (settled_rec k e) 0 s.records fresh_rec (λ j h. le_refl _),
            );
        locks_fit = omega (arith, good.locks_fit, locks_fewer);
        accesses_fit = omega (arith, good.accesses_fit, accesses_set s.edits k (freed e) range);
        recs = λ r. rw (rec_is r) (rec_left r);
        edits = edit_any;
      }

  pub settled_rows : ((r : ℕ) → length (rec_at (settled s k) r).locks ≤ length (rec_at s r).locks)
      × (locks_used (settled s k) ≤ locks_used s)
  unfolding settled_by with_edit with_records
  settled_rows = ((λ r. rw (rec_is r) (rows r)), locks_fewer)

pub settling_needs_no_row : SettlingNeedsNoRow
settling_needs_no_row s k h u = settled_rows s k (sound_out s h) (used_out s.edits k u)
