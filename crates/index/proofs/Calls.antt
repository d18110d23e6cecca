-- What each call touches: Write, Lock and Read the record that they name, by the slot of their handle; the others
-- nothing. Rests on Touching and on Verdicts of `meaning`.
use Prim.Native.Nat.{ℕ, ◌-◌, ◌≤◌}
use mathlib.Core.Path.{◌≡◌, refl, sym, ◌∙◌}
use mathlib.Core.Logic.{◌⊎◌, inl, inr}
use mathlib.Core.Bool.{Bool, true, false, cond}
use lib.Dec.{eqb, leb}
use lib.ListN.{length}
use Rattle.types.specs.Limits.{READ, WRITE, COMMITTED, ABORTED}
use Rattle.types.specs.Replies.{Reply, ok, edit, commit, nopoint, locked, read, own, again, purged, at}
use Rattle.types.specs.declared.Extent.{Extent}
use Rattle.types.specs.declared.Pick.{Pick}
use Rattle.types.specs.declared.Finish.{Finish}
use Rattle.types.specs.declared.Finish.TheVariants as F
use Rattle.meaning.specs.Lists.{map_from}
use Rattle.meaning.specs.Store.{Val, Version, Access, Rec, Store, handle, slot_of, next_generation, edit_at}
use Rattle.meaning.specs.Store.{rec_at, with_edit, with_records, access_of, has_read, names, newest_at, version_on}
use Rattle.meaning.specs.Points.{drop_owner}
use Rattle.meaning.specs.Outcomes.{Outcome, replies}
use Rattle.meaning.specs.Edits.{beginning, begin_checks, begun, free_slot, opened_edit, writing, write_checks, written}
use Rattle.meaning.specs.Edits.{written_access}
use Rattle.meaning.specs.Locking.{locking, locking_by, lock_checks, lock_wanted, lock_wanted_by, lock_verdict}
use Rattle.meaning.specs.Locking.{with_lock}
use Rattle.meaning.specs.Locking.{with_lock_by, reading, reading_by, read_checks, read_open, read_open_by}
use Rattle.meaning.specs.Locking.{read_new, read_new_by, read_verdict, read_store, read_store_by, read_from, read_end}
use Rattle.meaning.specs.Locking.{read_version, read_access, lock_from}
use Rattle.meaning.specs.Locking.{lock_end}
use Rattle.meaning.specs.Ending.{committing, committing_by, commit_checks, commit_open, commit_open_by, commit_verdict}
use Rattle.meaning.specs.Ending.{chosen, no_common, committed}
use Rattle.meaning.specs.Ending.{committed_rec, aborting, aborting_by, abort_checks, aborted, settling, settling_by}
use Rattle.meaning.specs.Ending.{settle_checks, settled, settled_by}
use Rattle.meaning.specs.Ending.{settled_locks, settled_locks_by, settled_rec, locks_left, finished, freed, ended}
use Rattle.meaning.specs.Records.{purging, purge_checks, purge_to, purge_verdict, purged_rec, viewing, view_checks}
use Rattle.meaning.proofs.Lists.{not_both}
use Rattle.meaning.proofs.Verdicts.{unless_keeps}
use Rattle.index.specs.Index.{touched}
use Rattle.index.proofs.Touching.{Holds, holds_drop, holds_settled, holds_trim, holds_added, named_put, by_names}
use Rattle.index.proofs.Touching.{by_locks, edit_change, rec_change, map_change}
use Rattle.meaning.specs.Store.{has_written, written_value}

module _ (k r : ℕ) (h : 1 ≤ k) where
  -- changes of the store that end or settle an edit
  pub settled_after : (s : Store) (j : ℕ) → touched (settled s j) k r ≡ true → touched s k r ≡ true
  unfolding settled_by settled_locks_by names
  settled_after s j =
      edit_change (with_records s (map_from 0 (settled_rec j (edit_at s j)) s.records)) k r j (freed (edit_at s j))
      (λ z p. absurd (not_both p refl)) (map_change s k r (settled_rec j (edit_at s j)) less (λ q. q))
    where
      less : (x : Rec) → Holds k (settled_locks j (edit_at s j) r x.locks) → Holds k x.locks
      less x p = go (eqb (edit_at s j).state COMMITTED) p
        where
          go : (b : Bool) → Holds k (cond b
              (locks_left (edit_at s j) (access_of (edit_at s j) r) (drop_owner j x.locks))
              (drop_owner j x.locks)) → Holds k x.locks
          go true p = holds_drop k j x.locks (holds_settled k h _ _ _ _ _ (holds_settled k h _ _ _ _ _ p))
          go false p = holds_drop k j x.locks p

  finished_after : (f : Finish) (s : Store) (j : ℕ) → touched (finished f s j) k r ≡ true → touched s k r ≡ true
  finished_after F.Settle s j p = settled_after s j p
  finished_after F.Keep s j p = p

  pub ended_after : (s : Store) (j state point : ℕ)
      → touched (with_edit s j (ended (edit_at s j) state point)) k r ≡ true
      → touched s k r ≡ true
  unfolding names
  ended_after s j state point =
      edit_change s k r j (ended (edit_at s j) state point) (λ z p. by_names s k r (λ q. q) (rw z p)) (λ q. q)

  aborted_after : (s : Store) (j : ℕ) → touched (aborted s j) k r ≡ true → touched s k r ≡ true
  unfolding aborted
  aborted_after s j p = ended_after s j ABORTED 0 p

  pub committed_after : (s : Store) (j t : ℕ) → touched (committed s j t) k r ≡ true → touched s k r ≡ true
  unfolding committed names
  committed_after s j t =
      edit_change (with_records s (map_from 0 (committed_rec (edit_at s j) t) s.records)) k r j
      (ended (edit_at s j) COMMITTED t) (λ z p. by_names s k r (λ q. q) (rw z p))
      (map_change s k r (committed_rec (edit_at s j) t) (λ x p. p) (λ q. q))

  module _ (s : Store) where
    abbrev After : Store → Type 0
    After s' = touched s' k r ≡ true → touched s k r ≡ true

    begun_after : (j : ℕ) → After (begun s j)
    unfolding begun names
    begun_after j = edit_change s k r j (opened_edit (edit_at s j)) (λ z p. absurd (not_both p refl)) (λ q. q)

    pub begin_after : After (beginning s).store
    unfolding beginning
    begin_after =
        unless_keeps After s (begin_checks s)
        (replies (begun s (free_slot s))
        (edit (handle (next_generation (edit_at s (free_slot s)).generation) (free_slot s))))
        (λ q. q) (λ e. begun_after (free_slot s))

    pub abort_after : (g : ℕ) (f : Finish) → After (aborting g f s).store
    unfolding aborting_by
    abort_after g f =
        unless_keeps After s (abort_checks s g) (replies (finished f (aborted s (slot_of g)) (slot_of g)) ok) (λ q. q)
        (λ e q. aborted_after s (slot_of g) (finished_after f (aborted s (slot_of g)) (slot_of g) q))

    pub settle_after : (g : ℕ) → After (settling g s).store
    unfolding settling_by
    settle_after g =
        unless_keeps After s (settle_checks s g) (replies (settled s (slot_of g)) ok) (λ q. q)
        (λ e. settled_after s (slot_of g))

    pub commit_after : (g : ℕ) (pick : Pick) (f : Finish) → After (committing g pick f s).store
    unfolding committing_by commit_open_by
    commit_after g pick f =
        unless_keeps After s (commit_checks s g pick) (commit_open s j pick f) (λ q. q) (λ e. go (no_common s j))
      where
        j : ℕ
        j = slot_of g

        t : ℕ
        t = chosen s (slot_of g) pick

        done : Outcome
        done = Rattle.meaning.specs.Outcomes.unless s (commit_verdict s (slot_of g) pick)
            (replies (finished f (committed s (slot_of g) (chosen s (slot_of g) pick)) (slot_of g))
            (commit (chosen s (slot_of g) pick)))

        go : (b : Bool) → After (cond b (replies (finished f (aborted s j) j) nopoint) done).store
        go true q = aborted_after s j (finished_after f (aborted s j) j q)
        go false q =
            unless_keeps After s (commit_verdict s j pick) (replies (finished f (committed s j t) j) (commit t))
            (λ p. p)
            (λ e p. committed_after s j t (finished_after f (committed s j t) j p)) q

    pub purge_after : (g b : ℕ) → After (purging g b s).store
    unfolding purging purge_to purged_rec
    purge_after g b =
        unless_keeps After s (purge_checks s g b) (purge_to s g v) (λ q. q) (λ e. go (leb v (rec_at s g).floor))
      where
        v : ℕ
        v = (newest_at (rec_at s g).versions b).point

        x : Rec
        x = rec_at s g

        y : Rec
        y = purged_rec x v

        reply : Reply
        reply = purged (length x.versions - length y.versions) (length x.locks - length y.locks)

        go : (t : Bool) → After (cond t (replies s (purged 0 0)) (Rattle.meaning.specs.Outcomes.unless s (purge_verdict
            x v)
            (replies (Rattle.meaning.specs.Store.with_rec s g y) reply))).store
        go true q = q
        go false q =
            unless_keeps After s (purge_verdict x v) (replies (Rattle.meaning.specs.Store.with_rec s g y) reply)
            (λ p. p)
            (λ e. rec_change s k r g y (λ z p. by_locks s k r (λ q. q) (rw z (holds_trim k v x.locks p))) (λ q. q)) q

    pub view_after : (g p : ℕ) → After (viewing g p s).store
    unfolding viewing
    view_after g p =
        unless_keeps After s (view_checks s g p)
        (replies s (at (newest_at (rec_at s g).versions p).point (newest_at (rec_at s g).versions p).value))
        (λ q. q) (λ e q. q)

    -- slot j and record i may be touched besides
    module _ (j i : ℕ) where
      abbrev Touching : Type 0
      Touching = (touched s k r ≡ true) ⊎ ((k ≡ j) × (r ≡ i))

      abbrev Beyond : Store → Type 0
      Beyond s' = touched s' k r ≡ true → Touching

      lock_beyond : (mode low high : ℕ) → Beyond (with_lock s i mode j low high)
      unfolding with_lock_by
      lock_beyond mode low high =
          rec_change s k r i _ (λ z p. go z (holds_added k _ (rec_at s i).locks p)) (λ q. inl q)
        where
          go : r ≡ i → (j ≡ k) ⊎ Holds k (rec_at s i).locks → Touching
          go z (inl p) = inr (sym p, z)
          go z (inr p) = inl (by_locks s k r (λ q. q) (rw z p))

      put_beyond : k ≡ j → (a : Access) → a.rec ≡ i → (a.rec ≡ r) ⊎ (names (edit_at s j) r ≡ true) → Touching
      put_beyond z a e (inl p) = inr (z, sym p ∙ e)
      put_beyond z a e (inr p) = inl (by_names s k r (λ q. q) (rw z p))

      written_beyond : (v : Val) → Beyond (written s j i v)
      unfolding written
      written_beyond v =
          edit_change s k r j _
          (λ z p. put_beyond z (written_access (edit_at s j) i v) refl
          (named_put r (written_access (edit_at s j) i v) (edit_at s j) p)) (λ q. inl q)

      read_beyond : (from end : ℕ) → Beyond (read_store s j i from end)
      unfolding read_store_by
      read_beyond from end =
          edit_change (with_lock s i READ j from end) k r j _
          (λ z p. put_beyond z (read_access i from) refl (named_put r (read_access i from) (edit_at s j) p))
          (lock_beyond READ from end)

    pub write_after : (g i : ℕ) (v : Val) → Beyond (slot_of g) i (writing g i v s).store
    unfolding writing
    write_after g i v =
        unless_keeps (Beyond (slot_of g) i) s (write_checks s g i) (replies (written s (slot_of g) i v) ok) (λ q. inl q)
        (λ e. written_beyond (slot_of g) i v)

    pub lock_after : (g i low high : ℕ) (w : Extent) → Beyond (slot_of g) i (locking g i low high w s).store
    unfolding locking_by lock_wanted_by
    lock_after g i low high w =
        unless_keeps (Beyond j i) s (lock_checks s g i low high) (lock_wanted s j i low high w) (λ q. inl q) (λ e.
        unless_keeps (Beyond j i) s (lock_verdict s j i low high w)
        (replies (with_lock s i WRITE j from end) (locked from end)) (λ q. inl q) (λ f. lock_beyond j i WRITE from end))
      where
        j : ℕ
        j = slot_of g

        from : ℕ
        from = lock_from w (slot_of g) (rec_at s i) low high

        end : ℕ
        end = lock_end w (slot_of g) (rec_at s i) low high

    new_after : (j i m : ℕ) (w : Extent) → Beyond j i (read_new s j i m w).store
    unfolding read_new_by
    new_after j i m w =
        unless_keeps (Beyond j i) s (read_verdict s j i m w)
        (replies (read_store s j i (read_from s i m) (read_end s j i m w))
        (read (read_version s i m).point (read_end s j i m w) (read_version s i m).value)) (λ q. inl q)
        (λ e. read_beyond j i (read_from s i m) (read_end s j i m w))

    pub read_after : (g i m : ℕ) (w : Extent) → Beyond (slot_of g) i (reading g i m w s).store
    unfolding reading_by read_open_by
    read_after g i m w =
        unless_keeps (Beyond (slot_of g) i) s (read_checks s g i m) (read_open s (slot_of g) i m w) (λ q. inl q)
        (λ e. go (has_written a) (has_read a))
      where
        a : Access
        a = access_of (edit_at s (slot_of g)) i

        v : Version
        v = version_on (rec_at s i).versions ((access_of (edit_at s (slot_of g)) i).from - 1)

        go : (b c : Bool) → Beyond (slot_of g) i (cond b (replies s (own (written_value a)))
            (cond c (replies s (again (a.from - 1) v.value)) (read_new s (slot_of g) i m w))).store
        go true c q = inl q
        go false true q = inl q
        go false false q = new_after (slot_of g) i m w q
