-- Settle's loop over the accesses of a committed edit: it ends with the settled locks of every record accessed, and
-- there is a free row at each step, since the edit's own locks have gone before. Rests on Folds, Giving, and on Joining
-- of `meaning`.
use Prim.Native.Nat.{ℕ, suc, ◌+◌, ◌≤◌, ◌<◌}
use native.Mathlib.Omega.{arith}
use mathlib.Core.Path.{◌≡◌, refl, sym, ap, ◌∙◌}
use mathlib.Core.Bool.{Bool, true, false, cond}
use mathlib.Core.List.Memᴰ
use mathlib.Core.List.{List, [], ◌∷◌}
use lib.Dec.{eqb}
use lib.ListN.{length}
use borrow.Author.Tests.{eq-eqb, ne_eqb}
use Rattle.meaning.specs.Lists.{total, map_from}
use Rattle.types.specs.Limits.{READ, WRITE, COMMITTED}
use Rattle.types.specs.declared.Access.{Access}
use Rattle.types.specs.declared.Lock.{Lock}
use Rattle.meaning.specs.Store.{Rec, Edit, Store, fresh_rec, rec_of, edit_at, rec_at, with_edit, with_records}
use Rattle.meaning.specs.Store.{with_locks}
use Rattle.meaning.specs.Store.{no_access, access_of, has_read, locks_used}
use Rattle.meaning.specs.Points.{put_lock, join_read, leave_settled}
use Rattle.meaning.specs.Ending.{freed, settled_locks_by, settled_rec, settled, settled_by}
use Rattle.meaning.specs.Sound.{names_once, sound_store}
use Rattle.meaning.specs.SoundFacts.{SoundStore}
use Rattle.meaning.proofs.Lists.{length_map_from, total_map_from}
use Rattle.meaning.proofs.SoundParts.{sound_out}
use Rattle.meaning.proofs.Joining.{length_put, length_join}
use Rattle.meaning.proofs.StoresMore.{locks_set}
use Rattle.endings.specs.Steps.{Existing, changed, along, left_rec, freed_rec, freed_all, mark, rows_left, LeaveNeed}
use Rattle.endings.proofs.Folds.{along_all, existing_rest}
use Rattle.endings.proofs.Giving.{rows_given}
use Rattle.meaning.specs.Store.{has_written}

idle : (t r : ℕ) (x : Rec) → left_rec t (no_access r) x ≡ x
unfolding left_rec leave_settled
idle t r x = refl

-- one change of every record, then another
map_map : (f g : ℕ → Rec → Rec) (i : ℕ) (rs : List Rec)
    → map_from i f (map_from i g rs) ≡ map_from i (λ r x. f r (g r x)) rs
map_map f g i [] = refl
map_map f g i (x ∷ rs) = rw (map_map f g (suc i) rs)

map_ext : (f g : ℕ → Rec → Rec) → ((r : ℕ) (x : Rec) → f r x ≡ g r x) → (i : ℕ) (rs : List Rec)
    → map_from i f rs ≡ map_from i g rs
map_ext f g h i [] = refl
map_ext f g h i (x ∷ rs) = rw (h i x, map_ext f g h (suc i) rs)

-- what settling makes of one record: an edit that is not committed leaves nothing, a committed one what its access
-- leaves
module _ (k : ℕ) (e : Edit) (r : ℕ) (x : Rec) where
  rec_aborted : (e.state ≡ COMMITTED → ⊥) → freed_rec k x ≡ settled_rec k e r x
  unfolding freed_rec settled_locks_by
  rec_aborted n = rw (ne_eqb e.state COMMITTED n) refl

  rec_committed : e.state ≡ COMMITTED → left_rec e.point (access_of e r) (freed_rec k x) ≡ settled_rec k e r x
  unfolding freed_rec settled_locks_by left_rec
  rec_committed st = rw (eq-eqb e.state COMMITTED st) refl

module _ (s : Store) (k : ℕ) where
  abbrev e : Edit
  e = edit_at s k

  pub freed_existing : SoundStore s → Existing (freed_all k s).records e.accesses
  unfolding freed_all with_records
  freed_existing good a m = rw (length_map_from (λ r x. freed_rec k x) 0 s.records) ((good.edits k).existing a m)

  aborted_records : (e.state ≡ COMMITTED → ⊥) → freed_all k s ≡ with_records s (map_from 0 (settled_rec k e) s.records)
  unfolding freed_all
  aborted_records n =
      ap (with_records s) (map_ext (λ r x. freed_rec k x) (settled_rec k e) (λ r x. rec_aborted k e r x n) 0 s.records)

  committed_records : SoundStore s → e.state ≡ COMMITTED
      → along (left_rec e.point) e.accesses (freed_all k s)
      ≡ with_records s (map_from 0 (settled_rec k e) s.records)
  unfolding freed_all with_records names_once access_of
  committed_records good st =
      along_all (left_rec e.point) (idle e.point) e.accesses (freed_all k s) (freed_existing good)
      (good.edits k).once
      ∙ ap (with_records s)
      (map_map (λ r x. left_rec e.point (access_of e r) x) (λ r x. freed_rec k x) 0 s.records
      ∙ map_ext (λ r x. left_rec e.point (access_of e r) (freed_rec k x)) (settled_rec k e)
      (λ r x. rec_committed k e r x st) 0 s.records)

  pub settled_aborted : (e.state ≡ COMMITTED → ⊥) → settled s k ≡ with_edit (freed_all k s) k (freed e)
  unfolding settled_by
  settled_aborted n = ap (λ (x : Store). with_edit x k (freed e)) (sym (aborted_records n))

  pub settled_committed : SoundStore s → e.state ≡ COMMITTED
      → settled s k ≡ with_edit (along (left_rec e.point) e.accesses (freed_all k s)) k (freed e)
  unfolding settled_by
  settled_committed good st = ap (λ (x : Store). with_edit x k (freed e)) (sym (committed_records good st))

-- a read may be joined with others, so that fewer rows are left
grown_length : (joins : Bool) (low high : ℕ) (row : Lock) (ls : List Lock)
    → length (cond joins (join_read low high ls) (put_lock row ls)) ≤ 1 + length ls
grown_length true low high row ls = omega (arith, length_join low high ls)
grown_length false low high row ls = omega (arith, length_put row ls)

pub leave_length : (b : Bool) (mode low high : ℕ) (ls : List Lock)
    → length (leave_settled b mode low high ls) ≤ mark b + length ls
unfolding leave_settled
leave_length true mode low high ls = grown_length (eqb mode READ) low high _ ls
leave_length false mode low high ls = omega arith

left_used : (a : Access) (s : Store) (t : ℕ) → a.rec < length s.records
    → locks_used (changed (left_rec t) a s) ≤ locks_used s + rows_left a
unfolding changed left_rec
left_used a s t here =
    let x = rec_at s a.rec in
    let ls = leave_settled (has_read a) READ a.from t x.locks in
    omega (
      arith,
      locks_set s a.rec (left_rec t a x) here,
      leave_length (has_written a) WRITE t t ls,
      leave_length (has_read a) READ a.from t x.locks,
    )

-- the rows that accesses leave at most, as blank ones put beside the locks to count them
abbrev one_more : Bool → List Lock → List Lock
one_more b ls = cond b (record { low = 0; high = 0; mode = 0; owner = 0 } ∷ ls) ls

abbrev counted_rec : Access → Rec → Rec
counted_rec a x = with_locks x (one_more (has_written a) (one_more (has_read a) x.locks))

counted_idle : (r : ℕ) (x : Rec) → counted_rec (no_access r) x ≡ x
counted_idle r x = refl

more_length : (b : Bool) (ls : List Lock) → length (one_more b ls) ≡ mark b + length ls
more_length true ls = omega arith
more_length false ls = omega arith

counted_length : (a : Access) (x : Rec) → length (counted_rec a x).locks ≡ rows_left a + length x.locks
counted_length a x =
    omega (
      arith,
      more_length (has_written a) (one_more (has_read a) x.locks),
      more_length (has_read a) x.locks,
    )

counted_used : (acc : List Access) (s : Store) → Existing s.records acc
    → locks_used (along counted_rec acc s) ≡ locks_used s + total rows_left acc
unfolding along changed
counted_used [] s f = omega arith
counted_used (a ∷ acc) s f =
    let x = rec_at s a.rec in
    omega (
      arith,
      counted_used acc (changed counted_rec a s) (existing_rest counted_rec counted_idle a acc s f),
      locks_set s a.rec (counted_rec a x) (f a (Memᴰ.head refl)),
      counted_length a x,
    )

module _ (a : Access) (acc : List Access) (s : Store) (n : LeaveNeed (a ∷ acc) s) where
  pub leave_record : a.rec < length s.records
  leave_record = n.existing a (Memᴰ.head refl)

  -- the access at hand alone
  pub leave_one : LeaveNeed (a ∷ []) s
  leave_one = record { existing = λ b m. rw (Memᴰ.eq_of_singleton m) leave_record; room = omega (arith, n.room) }

  pub leave_step : (t : ℕ) → LeaveNeed acc (changed (left_rec t) a s)
  unfolding changed with_records
  leave_step t =
      record {
        existing = existing_rest (left_rec t) (idle t) a acc s n.existing;
        room = omega (arith, n.room, left_used a s t leave_record);
      }

-- The edit's own locks are gone, and there is a row for each that is left
module _ (s : Store) (k : ℕ) (good : SoundStore s) (st : (edit_at s k).state ≡ COMMITTED) where
  abbrev acc : List Access
  acc = (edit_at s k).accesses

  counted_few : locks_used (along counted_rec acc (freed_all k s)) ≤ locks_used s
  unfolding freed_all freed_rec with_records names_once access_of locks_used rec_of
  counted_few =
      rw (
        along_all counted_rec counted_idle acc (freed_all k s) (freed_existing s k good) (good.edits k).once,
        map_map (λ r x. counted_rec (access_of (edit_at s k) r) x) (λ r x. freed_rec k x) 0 s.records,
      )
      (total_map_from (λ x. length x.locks) (λ r x. counted_rec (access_of (edit_at s k) r) (freed_rec k x)) 0
      s.records fresh_rec
      (λ r h. let z : 0 + r ≡ r = omega arith in
      rw z (omega (
        arith,
        counted_length (access_of (edit_at s k) r) (freed_rec k (rec_at s r)),
        rows_given s k good st r,
      ))))

pub leave_start : (s : Store) (k : ℕ) → sound_store s ≡ true → (edit_at s k).state ≡ COMMITTED
    → LeaveNeed (edit_at s k).accesses (freed_all k s)
unfolding with_records freed_all
leave_start s k h st =
    let good = sound_out s h in
    let existing = freed_existing s k good in
    record {
      existing = existing;
      room = omega (
        arith,
        counted_used (edit_at s k).accesses (freed_all k s) existing,
        counted_few s k good st,
        good.locks_fit,
      );
    }
