-- Each test of the checks fails exactly where its cause of the table stands: the tests on a handle, a record, a point
-- and the rows left. Rests on Verdicts.
use Prim.Native.Nat.{ℕ, ◌+◌, ◌≤◌, ◌<◌}
use native.Mathlib.Omega.{arith}
use mathlib.Core.Path.{◌≡◌, refl}
use mathlib.Core.Logic.{◌⊎◌, inl, inr}
use mathlib.Core.Bool.{Bool, true, false, not, ◌&&◌, ◌||◌}
use lib.Dec.{leb, ltb, eqb}
use lib.ListN.{length}
use borrow.Author.Tests.{ltb-true, ltb-false, leb-true, leb-false, eqb-true, eqb-false, eq-eqb, not-true, not-false}
use Rattle.meaning.specs.Lists.{any}
use Rattle.types.specs.Limits.{LAST, FREE, OPEN, COMMITTED, ABORTED}
use Rattle.meaning.specs.Store.{Store, slot_of, generation_of, edit_at, in_use, is_of, names, written_of, versions_used}
use Rattle.meaning.specs.Store.{locks_used, accesses_used}
use Rattle.meaning.specs.Outcomes.{knows, is_open, has_record, is_point, access_room, lock_room, version_room}
use Rattle.meaning.specs.Causes.{NoSuchEdit, slot_zero, slot_past, slot_free, other_generation, HasEnded}
use Rattle.meaning.specs.Causes.{NoAccessRow}
use Rattle.meaning.proofs.Lists.{and_left, and_right, or_out, test, not_both, any_out, any_none}
use Rattle.meaning.proofs.Verdicts.{Known, knows_out}

-- the test fails exactly where the cause stands
pub record Refutes (b : Bool) (P : Type 0) : Type 0 where
  pub stands : b ≡ false → P
  pub free : b ≡ true → P → ⊥

-- the causes of two tests
pub and_test : {a b : Bool} {P Q : Type 0} → Refutes a P → Refutes b Q → Refutes (a && b) (P ⊎ Q)
and_test {a = true} {b} t u =
    record { stands = λ e. inr (u.stands e); free = λ e. elim [ inl p ↦ t.free refl p | inr q ↦ u.free e q ] }
and_test {a = false} {b} t u = record { stands = λ e. inl (t.stands refl); free = λ e. absurd (not_both e refl) }

pub either_fails : (a b : Bool) → (a && b) ≡ false → (a ≡ false) ⊎ (b ≡ false)
either_fails true b e = inr e
either_fails false b e = inl refl

pub both_fail : (a b : Bool) → (a || b) ≡ false → (a ≡ false) × (b ≡ false)
both_fail false b e = (refl, e)
both_fail true b e = absurd (not_both refl e)

-- 2
no_edit_stands : (s : Store) (h : ℕ) → knows s h ≡ false → NoSuchEdit s h
unfolding knows in_use
no_edit_stands s h e =
    go (either_fails (not (eqb (edit_at s (slot_of h)).state FREE))
    (eqb (edit_at s (slot_of h)).generation (generation_of h)) e)
  where
    go : (not (eqb (edit_at s (slot_of h)).state FREE) ≡ false)
        ⊎ (eqb (edit_at s (slot_of h)).generation (generation_of h) ≡ false)
        → NoSuchEdit s h
    go (inl q) =
        slot_free (eqb-true (edit_at s (slot_of h)).state FREE (not-false (eqb (edit_at s (slot_of h)).state FREE) q))
    go (inr q) = other_generation (eqb-false (edit_at s (slot_of h)).generation (generation_of h) q)

no_edit_free : (s : Store) (h : ℕ) → Known s h → NoSuchEdit s h → ⊥
no_edit_free s h k (slot_zero e) = omega (arith, k.range)
no_edit_free s h k (slot_past e) = omega (arith, k.range)
no_edit_free s h k (slot_free e) = k.used e
no_edit_free s h k (other_generation f) = f k.generation

pub known_test : (s : Store) (h : ℕ) → Refutes (knows s h) (NoSuchEdit s h)
known_test s h = record { stands = no_edit_stands s h; free = λ e. no_edit_free s h (knows_out s h e) }

-- 3: a slot in use is open, committed or aborted
ended_stands : (s : Store) (h : ℕ) → knows s h ≡ true → (edit_at s (slot_of h)).state ≤ ABORTED → is_open s h ≡ false
    → HasEnded s h
unfolding is_open
ended_stands s h k l e = go (test (eqb (edit_at s (slot_of h)).state COMMITTED))
  where
    go : (eqb (edit_at s (slot_of h)).state COMMITTED ≡ true) ⊎ (eqb (edit_at s (slot_of h)).state COMMITTED ≡ false)
        → HasEnded s h
    go (inl q) = inl (eqb-true (edit_at s (slot_of h)).state COMMITTED q)
    go (inr q) =
        inr (omega (
          arith,
          eqb-false (edit_at s (slot_of h)).state COMMITTED q,
          eqb-false (edit_at s (slot_of h)).state OPEN e,
          (knows_out s h k).used,
        ))

ended_free : (s : Store) (h : ℕ) → is_open s h ≡ true → HasEnded s h → ⊥
unfolding is_open
ended_free s h e (inl q) = omega (arith, eqb-true (edit_at s (slot_of h)).state OPEN e)
ended_free s h e (inr q) = omega (arith, eqb-true (edit_at s (slot_of h)).state OPEN e)

pub open_test : (s : Store) (h : ℕ) → (edit_at s (slot_of h)).state ≤ ABORTED → knows s h ≡ true
    → Refutes (is_open s h) (HasEnded s h)
open_test s h l k = record { stands = ended_stands s h k l; free = ended_free s h }

-- 4
pub closed_test : (s : Store) (h : ℕ) → Refutes (not (is_open s h)) ((edit_at s (slot_of h)).state ≡ OPEN)
unfolding is_open
closed_test s h =
    let st = (edit_at s (slot_of h)).state in
    record {
      stands = λ e. eqb-true st OPEN (not-false (eqb st OPEN) e);
      free = λ e. eqb-false st OPEN (not-true (eqb st OPEN) e);
    }

-- a number below a bound, and at most it
pub below_test : (a b : ℕ) → Refutes (ltb a b) (b ≤ a)
below_test a b = record { stands = ltb-false a b; free = λ e q. omega (arith, ltb-true a b e) }

pub at_most_test : (a b : ℕ) → Refutes (leb a b) (b < a)
at_most_test a b = record { stands = leb-false a b; free = λ e q. omega (arith, leb-true a b e) }

-- 5
pub record_test : (s : Store) (r : ℕ) → Refutes (has_record s r) (length s.records ≤ r)
unfolding has_record
record_test s r = below_test r (length s.records)

-- 6: a point above 0, as a count in its range
positive_test : (n : ℕ) → Refutes (leb 1 n) (n ≡ 0)
positive_test n = record {
  stands = λ (e : leb 1 n ≡ false). omega (arith, leb-false 1 n e);
  free = λ (e : leb 1 n ≡ true) q. omega (arith, leb-true 1 n e);
}

pub range_test : (n top : ℕ) → Refutes (leb 1 n && leb n top) ((n ≡ 0) ⊎ (top < n))
range_test n top = and_test (positive_test n) (at_most_test n top)

pub point_test : (p : ℕ) → Refutes (is_point p) ((p ≡ 0) ⊎ (LAST < p))
point_test p = range_test p LAST

-- 6: two points in order
span_stands : (low high : ℕ) → (high < low) ⊎ (LAST < high) → (LAST < low) ⊎ ((LAST < high) ⊎ (high < low))
span_stands low high (inl q) = inr (inr q)
span_stands low high (inr q) = inr (inl q)

span_free : (low high : ℕ) → low ≤ high → high ≤ LAST → (LAST < low) ⊎ ((LAST < high) ⊎ (high < low)) → ⊥
span_free low high l h (inl q) = omega arith
span_free low high l h (inr (inl q)) = omega arith
span_free low high l h (inr (inr q)) = omega arith

pub span_test : (low high : ℕ) → Refutes (leb low high && leb high LAST) ((LAST < low) ⊎ ((LAST < high) ⊎ (high < low)))
span_test low high =
    record {
      stands = λ e. span_stands low high ((and_test (at_most_test low high) (at_most_test high LAST)).stands e);
      free = λ e.
          span_free low high (leb-true low high (and_left (leb low high) (leb high LAST) e))
          (leb-true high LAST (and_right (leb low high) (leb high LAST) e));
    }

-- 10
access_stands : (s : Store) (k r : ℕ) → access_room s k r ≡ false → NoAccessRow s k r
unfolding access_room names
access_stands s k r e =
    let w = both_fail (any (is_of r) (edit_at s k).accesses) (ltb (accesses_used s) s.access_rows) e in
    record {
      unnamed = λ a m q. any_none (is_of r) (edit_at s k).accesses w.0 m (eq-eqb a.rec r q);
      full = ltb-false (accesses_used s) s.access_rows w.1;
    }

access_free : (s : Store) (k r : ℕ) → access_room s k r ≡ true → NoAccessRow s k r → ⊥
unfolding access_room names
access_free s k r e n = go (or_out (any (is_of r) (edit_at s k).accesses) (ltb (accesses_used s) s.access_rows) e)
  where
    go : (any (is_of r) (edit_at s k).accesses ≡ true) ⊎ (ltb (accesses_used s) s.access_rows ≡ true) → ⊥
    go (inl q) =
        let w = any_out (is_of r) (edit_at s k).accesses q in n.unnamed w.0 w.1 (eqb-true w.0.rec r w.2)
    go (inr q) = omega (arith, ltb-true (accesses_used s) s.access_rows q, n.full)

pub access_test : (s : Store) (k r : ℕ) → Refutes (access_room s k r) (NoAccessRow s k r)
access_test s k r = record { stands = access_stands s k r; free = access_free s k r }

-- 11, 12
pub lock_row_test : (s : Store) → Refutes (lock_room s) (s.lock_rows ≤ locks_used s)
unfolding lock_room
lock_row_test s = below_test (locks_used s) s.lock_rows

pub version_row_test : (s : Store) (k : ℕ)
    → Refutes (version_room s k) (s.version_rows < versions_used s + length (written_of (edit_at s k)))
unfolding version_room
version_row_test s k = at_most_test (versions_used s + length (written_of (edit_at s k))) s.version_rows
