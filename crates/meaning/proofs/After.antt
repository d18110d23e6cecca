-- What a granted call leaves to the calls after it. Rests on Verdicts, Stores, Points and Granted.
use Prim.Native.Nat.{ℕ, zero, suc, ◌≤◌}
use native.Mathlib.Omega.{arith}
use native.Mathlib.Decide.{dec_le}
use mathlib.Core.Path.{◌≡◌, refl, sym, ap, ◌∙◌}
use mathlib.Core.Bool.{Bool, true, false, cond, ◌&&◌}
use mathlib.Core.Logic.{◌⊎◌, inl, inr}
use mathlib.Core.List.{List}
use lib.Dec.{leb}
use lib.ListN.{length, length-set}
use borrow.Author.Tests.{eq-eqb, leb-true}
use Rattle.types.specs.Limits.{LAST, WRITE, FREE, OPEN}
use Rattle.types.specs.Values.{Val}
use Rattle.types.specs.Values.{Value}
use Rattle.types.specs.Numbers.{slot_of, generation_of}
use Rattle.types.specs.Replies.{ok, locked, read, own, again, commit, nopoint, refusing, refused}
use Rattle.types.specs.declared.Extent.{Extent}
use Rattle.types.specs.declared.Pick.TheVariants.{Named}
use Rattle.meaning.specs.Store.{Edit, Store, edit_of, set_edit, edit_at, rec_at, in_use, with_edit}
use Rattle.meaning.specs.Store.{with_records, access_of, has_read}
use Rattle.meaning.specs.Outcomes.{Outcome, replies, Verdict, pass, refuse, needs, unless, knows, is_open}
use Rattle.meaning.specs.Outcomes.{has_record, access_room, lock_room, judge}
use Rattle.meaning.specs.Edits.{with_access, writing, write_checks, written}
use Rattle.meaning.specs.Locking.{locking, locking_by, lock_checks, lock_wanted, lock_wanted_by, lock_verdict}
use Rattle.meaning.specs.Locking.{with_lock}
use Rattle.meaning.specs.Locking.{with_lock_by, lock_from, lock_end}
use Rattle.meaning.specs.Locking.{lock_granted, reading, reading_by, read_checks, read_open, read_open_by, read_new}
use Rattle.meaning.specs.Locking.{read_new_by, read_verdict, read_store, read_store_by}
use Rattle.meaning.specs.Locking.{read_from, read_end, read_access}
use Rattle.meaning.specs.Ending.{aborting_by, abort_checks, aborted, settled, settled_by, freed, finished, committed}
use Rattle.meaning.specs.Ending.{committing_by, commit_checks, commit_open_by, commit_verdict, no_common}
use Rattle.meaning.specs.Points.{first_blocked}
use Rattle.meaning.specs.After.{OpenEdit, LockLeavesOpen, LockIsInside, WriteLacksARow, ReadLeavesOpen}
use Rattle.meaning.specs.After.{AbortEnds, CommitEnds, CommitsWhereNamed, LockGrantsOrRefuses}
use Rattle.meaning.proofs.Lists.{and_in, and_left}
use Rattle.meaning.proofs.Points.{lock_takes_run}
use Rattle.meaning.proofs.Granted.{lock_taken}
use Rattle.meaning.proofs.SoundParts.{sound_out}
use Rattle.meaning.proofs.Stores.{edit_same, edit_past, used_in}
use Rattle.meaning.proofs.Verdicts.{needs_pass, or_else_pass, judge_refuses, knows_out, is_open_out}
use Rattle.meaning.specs.Store.{has_written}

-- a granted reply passed its checks
granted_pass : (s : Store) (v : Verdict) (o : Outcome) → refused (unless s v o).reply ≡ false → v ≡ pass
granted_pass s pass o e = refl
granted_pass s (refuse n more) o e = let z : ◌≡◌ {A = ℕ} 0 1 = cc in absurd (omega arith)

pub write_lacks_a_row : WriteLacksARow
unfolding writing write_checks
write_lacks_a_row s h r v n more i c e =
    go (access_room s (slot_of h) r) (rw (i.known, i.still, c) at e)
  where
    go : (b : Bool) → (unless s (needs b 10 pass) (replies (written s (slot_of h) r v) ok)).reply ≡ refusing n more
        → n ≡ 10
    go true f = let z : ◌≡◌ {A = ℕ} 0 1 = cc in absurd (omega arith)
    go false f = cc

-- Lock
pub lock_grants_or_refuses : LockGrantsOrRefuses
unfolding locking_by lock_wanted_by
lock_grants_or_refuses s h r low high w =
    go (lock_checks s h r low high) (lock_verdict s (slot_of h) r low high w) _ _ _
  where
    go : (c v : Verdict) (t : Store) (a b : ℕ)
        → ((n : ℕ) × (more : List ℕ) × ((unless s c (unless s v (replies t (locked a b)))).reply ≡ refusing n more))
        ⊎ ((x : ℕ) × (y : ℕ) × ((unless s c (unless s v (replies t (locked a b)))).reply ≡ locked x y))
    go pass pass t a b = inr (a, b, refl)
    go pass (refuse n more) t a b = inl (n, more, refl)
    go (refuse n more) v t a b = inl (n, more, refl)

module _ (s : Store) (h r low high : ℕ) (w : Extent) (a b : ℕ) (e : (locking h r low high w s).reply ≡ locked a b) where
  checks : lock_checks s h r low high ≡ pass
  unfolding locking_by
  checks = granted_pass s (lock_checks s h r low high) (lock_wanted s (slot_of h) r low high w) (ap refused e)

  wanted : locking h r low high w s ≡ lock_wanted s (slot_of h) r low high w
  unfolding locking_by
  wanted = rw checks

  verdict : lock_verdict s (slot_of h) r low high w ≡ pass
  unfolding lock_wanted_by
  verdict =
      granted_pass s (lock_verdict s (slot_of h) r low high w) _
      (ap (λ (o : Outcome). refused o.reply) (sym wanted) ∙ ap refused e)

  after : (locking h r low high w s).store
      ≡ with_lock s r WRITE (slot_of h) (lock_from w (slot_of h) (rec_at s r) low high)
      (lock_end w (slot_of h) (rec_at s r) low high)
  unfolding lock_wanted_by
  after = ap (λ (o : Outcome). o.store) wanted ∙ rw verdict

  passes : (knows s h ≡ true) × (is_open s h ≡ true) × (has_record s r ≡ true) × (low ≤ high)
  unfolding lock_checks
  passes =
      let k = needs_pass (knows s h) 2 _ checks in
      let i = needs_pass (is_open s h) 3 _ k.1 in
      let c = needs_pass (has_record s r) 5 _ i.1 in
      let o = needs_pass (leb low high && leb high LAST) 6 _ c.1 in
      (k.0, i.0, c.0, leb-true low high (and_left (leb low high) (leb high LAST) o.0))

  there : (m k x y : ℕ) → has_record (with_lock s r m k x y) r ≡ has_record s r
  unfolding has_record with_lock_by with_records
  there m k x y = rw length-set

  known : (m k x y : ℕ) → knows (with_lock s r m k x y) h ≡ knows s h
  unfolding knows with_lock_by with_records
  known m k x y = refl

  still_open_lem : (m k x y : ℕ) → is_open (with_lock s r m k x y) h ≡ is_open s h
  unfolding is_open with_lock_by with_records
  still_open_lem m k x y = refl

  leaves : OpenEdit (locking h r low high w s).store h × (has_record (locking h r low high w s).store r ≡ true)
  leaves =
      let p = passes in
      rw after (
        record { known = known WRITE _ _ _ ∙ p.0; still = still_open_lem WRITE _ _ _ ∙ p.1 },
        there WRITE _ _ _ ∙ p.2,
      )

  granted : lock_granted w (slot_of h) (rec_at s r) low high ≡ true
  unfolding lock_verdict
  granted =
      (or_else_pass (lock_granted w (slot_of h) (rec_at s r) low high)
      (judge s r WRITE (slot_of h) (first_blocked WRITE (slot_of h) (rec_at s r) low high))
      (needs (lock_room s) 11 pass)
      (judge_refuses s r WRITE (slot_of h) (first_blocked WRITE (slot_of h) (rec_at s r) low high)) verdict).0

  replied : locked a b
      ≡ locked (lock_from w (slot_of h) (rec_at s r) low high) (lock_end w (slot_of h) (rec_at s r) low high)
  unfolding lock_wanted_by
  replied = sym e ∙ ap (λ (o : Outcome). o.reply) wanted ∙ rw verdict

pub lock_leaves_open : LockLeavesOpen
lock_leaves_open s h r low high w a b e = leaves s h r low high w a b e

pub lock_is_inside : LockIsInside
lock_is_inside s h r low high w a b f e =
    let o = (passes s h r low high w a b e).3 in
    let t =
    lock_taken w (slot_of h) (rec_at s r) low high _ _ o
    ((lock_takes_run w (slot_of h) (rec_at s r) low high (λ l m. (((sound_out s f).recs r).span l m).some) o).0
    (granted s h r low high w a b e))
    in
    let x = replied s h r low high w a b e in
    let p : a ≡ lock_from w (slot_of h) (rec_at s r) low high = cc in
    let q : b ≡ lock_end w (slot_of h) (rec_at s r) low high = cc in
    (omega (arith, t.starts), omega (arith, t.some), omega (arith, t.upto))

-- Abort

-- a slot that is set is one of the store's, or reads as free
set_free : (es : List Edit) (k : ℕ) (e : Edit) → e.state ≡ FREE → (edit_of (set_edit es k e) k).state ≡ FREE
unfolding edit_of set_edit
set_free es zero e f = refl
set_free es (suc i) e f = go (dec_le (suc i) (length es))
  where
    go : Dec (suc i ≤ length es) → (edit_of (set_edit es (suc i) e) (suc i)).state ≡ FREE
    go (yes q) = ap (λ (x : Edit). x.state) (edit_same es (suc i) e (record { from = omega arith; upto = q })) ∙ f
    go (no q) =
        ap (λ (x : Edit). x.state)
        (edit_past (set_edit es (suc i) e) (suc i) (omega (arith, length-set es i e)))

free_slot_lem : (es : List Edit) (k : ℕ) (e : Edit) → e.state ≡ FREE → in_use (set_edit es k e) k ≡ false
unfolding in_use
free_slot_lem es k e f = rw (eq-eqb (edit_of (set_edit es k e) k).state FREE (set_free es k e f))

settled_unknown : (s : Store) (h : ℕ) → knows (settled s (slot_of h)) h ≡ false
unfolding knows settled_by with_edit
settled_unknown s h = rw (free_slot_lem _ (slot_of h) (freed (edit_at s (slot_of h))) refl)

pub abort_ends : AbortEnds
unfolding aborting_by abort_checks
abort_ends s h i = rw (i.known, i.still) (refl, settled_unknown (aborted s (slot_of h)) h)

-- Read
module _ (s : Store) (h r m : ℕ) (w : Extent) (tr end : ℕ) (v : Value) (e : (reading h r m w s).reply ≡ read tr end v)
  where
    read_checks_lem : read_checks s h r m ≡ pass
    unfolding reading_by
    read_checks_lem = granted_pass s (read_checks s h r m) (read_open s (slot_of h) r m w) (ap refused e)

    read_open_lem : reading h r m w s ≡ read_open s (slot_of h) r m w
    unfolding reading_by
    read_open_lem = rw read_checks_lem

    read_new_lem : read_open s (slot_of h) r m w ≡ read_new s (slot_of h) r m w
    unfolding read_open_by
    read_new_lem =
        go (has_written (access_of (edit_at s (slot_of h)) r)) (has_read (access_of (edit_at s (slot_of h)) r)) _ _ _
        (ap (λ (o : Outcome). o.reply) (sym read_open_lem) ∙ e)
      where
        go : (p q : Bool) (u : Val) (c : ℕ) (d : Value)
            → (cond p (replies s (own u)) (cond q (replies s (again c d)) (read_new s (slot_of h) r m w))).reply
            ≡ read tr end v
            → cond p (replies s (own u)) (cond q (replies s (again c d)) (read_new s (slot_of h) r m w))
            ≡ read_new s (slot_of h) r m w
        go true q u c d f = let z : ◌≡◌ {A = ℕ} 0 1 = cc in absurd (omega arith)
        go false true u c d f = let z : ◌≡◌ {A = ℕ} 0 1 = cc in absurd (omega arith)
        go false false u c d f = refl

    read_is : reading h r m w s ≡ read_new s (slot_of h) r m w
    read_is = read_open_lem ∙ read_new_lem

    read_verdict_lem : read_verdict s (slot_of h) r m w ≡ pass
    unfolding read_new_by
    read_verdict_lem =
        granted_pass s (read_verdict s (slot_of h) r m w) _
        (ap (λ (o : Outcome). refused o.reply) (sym read_is) ∙ ap refused e)

    read_after : (reading h r m w s).store
        ≡ read_store s (slot_of h) r (read_from s r m) (read_end s (slot_of h) r m w)
    unfolding read_new_by
    read_after = ap (λ (o : Outcome). o.store) read_is ∙ rw read_verdict_lem

    read_passes : OpenEdit s h
    unfolding read_checks
    read_passes =
        let k = needs_pass (knows s h) 2 _ read_checks_lem in
        let i = needs_pass (is_open s h) 3 _ k.1 in
        record { known = k.0; still = i.0 }

    module _ (from upto : ℕ) where
      abbrev now : Store
      now = read_store s (slot_of h) r from upto

      read_edit : edit_at now (slot_of h) ≡ with_access (edit_at s (slot_of h)) (read_access r from)
      unfolding read_store_by with_edit with_lock_by with_records
      read_edit = edit_same s.edits (slot_of h) _ (knows_out s h read_passes.known).range

      read_state : (edit_at now (slot_of h)).state ≡ OPEN
      unfolding with_access
      read_state = ap (λ (y : Edit). y.state) read_edit ∙ is_open_out s h read_passes.still

      read_generation : (edit_at now (slot_of h)).generation ≡ generation_of h
      unfolding with_access
      read_generation =
          ap (λ (y : Edit). y.generation) read_edit ∙ (knows_out s h read_passes.known).generation

      read_knows : knows now h ≡ true
      unfolding knows
      read_knows =
          and_in
          (used_in now.edits (slot_of h)
          (λ f. let z : OPEN ≡ FREE = sym read_state ∙ f in omega arith))
          (eq-eqb _ (generation_of h) read_generation)

      read_is_open : is_open now h ≡ true
      unfolding is_open
      read_is_open = eq-eqb _ OPEN read_state

pub read_leaves_open : ReadLeavesOpen
read_leaves_open s h r m w tr end v e =
    rw (read_after s h r m w tr end v e)
    record { known = read_knows s h r m w tr end v e _ _; still = read_is_open s h r m w tr end v e _ _ }

-- Commit
pub commit_ends : CommitEnds
unfolding committing_by commit_open_by
commit_ends s h pick e =
    go (commit_checks s h pick) (no_common s (slot_of h)) (commit_verdict s (slot_of h) pick) _ e
  where
    k : ℕ
    k = slot_of h

    o : Verdict → Bool → Verdict → ℕ → Outcome
    o c b v t =
        unless s c
        (cond b (replies (settled (aborted s k) k) nopoint)
        (unless s v (replies (settled (committed s k t) k) (commit t))))

    no : {A : Type 0} → true ≡ false → A
    no x = let z : ◌≡◌ {A = ℕ} 0 1 = cc in absurd (omega arith)

    go : (c : Verdict) (b : Bool) (v : Verdict) (t : ℕ) → refused (o c b v t).reply ≡ false
        → (((o c b v t).reply ≡ nopoint) ⊎ ((x : ℕ) × ((o c b v t).reply ≡ commit x)))
        × (knows (o c b v t).store h ≡ false)
    go pass true v t x = (inl refl, settled_unknown (aborted s k) h)
    go pass false pass t x = (inr (t, refl), settled_unknown (committed s k t) h)
    go pass false (refuse n more) t x = no x
    go (refuse n more) b v t x = no x

pub commits_where_named : CommitsWhereNamed
unfolding committing_by commit_open_by
commits_where_named s h p f t e =
    checked (commit_checks s h (Named p)) (no_common s (slot_of h)) (commit_verdict s (slot_of h) (Named p)) e
  where
    open_reply_lem : (b : Bool) (v : Verdict)
        → (cond b (replies (finished f (aborted s (slot_of h)) (slot_of h)) nopoint)
        (unless s v (replies (finished f (committed s (slot_of h) p.0) (slot_of h)) (commit p.0)))).reply
        ≡ commit t
        → t ≡ p.0
    open_reply_lem true v x = let z : ◌≡◌ {A = ℕ} 0 1 = cc in absurd (omega arith)
    open_reply_lem false pass x = cc
    open_reply_lem false (refuse n more) x = let z : ◌≡◌ {A = ℕ} 0 1 = cc in absurd (omega arith)

    checked : (c : Verdict) (b : Bool) (v : Verdict)
        → (unless s c
        (cond b (replies (finished f (aborted s (slot_of h)) (slot_of h)) nopoint)
        (unless s v (replies (finished f (committed s (slot_of h) p.0) (slot_of h)) (commit p.0))))).reply
        ≡ commit t
        → t ≡ p.0
    checked pass b v x = open_reply_lem b v x
    checked (refuse n more) b v x = let z : ◌≡◌ {A = ℕ} 0 1 = cc in absurd (omega arith)
