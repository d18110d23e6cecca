-- Begin and Write judged along the order of the checks. Rests on Judging, CauseTests, SoundParts and Granted.
use Prim.Native.Nat.{ℕ, zero, suc, ◌+◌, ◌≤◌, ◌<◌}
use native.Mathlib.Omega.{arith}
use mathlib.Core.Path.{◌≡◌, refl}
use mathlib.Core.Logic.{◌⊎◌, inl, inr}
use mathlib.Core.Bool.{true, false}
use mathlib.Core.List.{List, [], ◌∷◌}
use lib.Dec.{leb, eqb}
use lib.ListN.{length, get_or}
use borrow.Author.Tests.{leb-true, leb-false, eqb-false}
use Rattle.types.specs.Limits.{FREE}
use Rattle.meaning.specs.Store.{Edit, Store, fresh_edit, slot_of, edit_of}
use Rattle.meaning.specs.Outcomes.{knows, is_open, has_record, access_room}
use Rattle.meaning.specs.Edits.{free_from, free_slot, beginning, begin_checks, writing, write_checks}
use Rattle.meaning.specs.Causes.{NoFreeSlot}
use Rattle.meaning.specs.Order.{order}
use Rattle.types.specs.declared.Handle.{Handle}
use Rattle.types.specs.declared.Call.TheVariants as C
use Rattle.meaning.proofs.Lists.{not_both, test}
use Rattle.meaning.proofs.Granted.{free_found}
use Rattle.meaning.proofs.SoundParts.{sound_out}
use Rattle.meaning.proofs.CauseTests.{Refutes, known_test, open_test, record_test, access_test}
use Rattle.meaning.proofs.Judging.{Judging, granted, ◌next◌, never, decided}

-- 13: where the search for a free slot ends past the last, none is free
none_free : (k : ℕ) (es : List Edit) → k + length es ≤ free_from k es → (j : ℕ) → j < length es
    → (get_or es j fresh_edit).state ≡ FREE → ⊥
none_free k [] h j l z = omega arith
none_free k (e ∷ es) h j l z = go (test (eqb e.state FREE)) j l z (none_free (suc k) es)
  where
    go : (eqb e.state FREE ≡ true) ⊎ (eqb e.state FREE ≡ false) → (j : ℕ) → j < suc (length es)
        → (get_or (e ∷ es) j fresh_edit).state ≡ FREE
        → (suc k + length es ≤ free_from (suc k) es → (i : ℕ) → i < length es
        → (get_or es i fresh_edit).state ≡ FREE → ⊥)
        → ⊥
    go (inl b) j l z ih = omega (arith, rw b at h)
    go (inr b) zero l z ih = eqb-false e.state FREE b z
    go (inr b) (suc j) l z ih = ih (omega (arith, rw b at h)) j (omega arith) z

slot_stands : (s : Store) → length s.edits < free_slot s → NoFreeSlot C.Begin s
unfolding edit_of
slot_stands s h zero a b z = omega arith
slot_stands s h (suc j) a b z = none_free 1 s.edits (omega arith) j b z

slot_test : (s : Store) → Refutes (leb (free_slot s) (length s.edits)) (NoFreeSlot C.Begin s)
slot_test s =
    record {
      stands = λ e. slot_stands s (leb-false (free_slot s) (length s.edits) e);
      free = λ e n.
          let f = free_found s.edits (leb-true (free_slot s) (length s.edits) e) in
          n (free_slot s) f.range.from f.range.upto f.free;
    }

pub judging_begin : (s : Store) → Judging C.Begin s (beginning s) order
unfolding beginning begin_checks
judging_begin s =
    not_both next
    decided (leb (free_slot s) (length s.edits)) (λ g. slot_test s) refl (λ a. rw a) λ a.
    never next never next never next never next never next never next never next never next
    never next never next never next never next never next never next never next
    granted (rw a (_, refl))

pub judging_write : (h : Handle) (r v : ℕ) (s : Store) → Judging (C.Write h r v) s (writing h.0 r v s) order
unfolding writing write_checks
judging_write h r v s =
    let k : ℕ = slot_of h.0 in
    not_both next
    never next
    decided (knows s h.0) (λ g. known_test s h.0) refl (λ a. rw a) λ a.
    decided (is_open s h.0) (λ g. open_test s h.0 ((sound_out s g).edits k).state a) refl (λ b. rw (a, b)) λ b.
    never next
    decided (has_record s r) (λ g. record_test s r) refl (λ c. rw (a, b, c)) λ c.
    never next never next never next never next never next never next never next never next
    decided (access_room s k r) (λ g. access_test s k r) refl (λ d. rw (a, b, c, d)) λ d.
    never next never next
    granted (rw (a, b, c, d))
