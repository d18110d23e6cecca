-- The ways that Lock ends, one law for each return of the code. Rests on Verdicts and Granting.
use Prim.Native.Nat.{ℕ}
use mathlib.Core.Path.{◌≡◌, sym, ap, ◌∙◌}
use mathlib.Core.Bool.{Bool, true, false, ◌&&◌}
use mathlib.Core.List.{List, []}
use lib.Dec.{leb, ltb}
use Rattle.types.specs.Limits.{LAST, WRITE}
use Rattle.meaning.specs.Store.{Store, rec_at}
use Rattle.types.specs.Numbers.{slot_of}
use Rattle.meaning.specs.Points.{first_blocked}
use Rattle.types.specs.Replies.{locked, refusing, of_refusal}
use Rattle.types.specs.declared.Refusal.{Refusal}
use Rattle.meaning.specs.Outcomes.{Outcome, replies, Verdict, pass, refuse, needs, unless, knows, is_open, has_record}
use Rattle.meaning.specs.Outcomes.{judge, lock_room}
use Rattle.meaning.specs.Locking.{lock_from, lock_end, lock_granted, with_lock, lock_verdict, lock_checks, lock_wanted}
use Rattle.meaning.specs.Locking.{lock_wanted_by}
use Rattle.meaning.specs.Locking.{locking, locking_by}
use Rattle.types.specs.declared.Extent.{Extent}
use Rattle.blocking.specs.declared.Blocked.{Blocked}
use Rattle.blocking.specs.Search.{judged}
use Rattle.std.specs.Prelude.{Result, Ok, Err}
use Rattle.calls.specs.Grants.{lock_grant, refusal_by, Small}
use Rattle.calls.proofs.Verdicts.{needs_fails, needs_holds, else_fails, else_holds, edit_open}
use Rattle.calls.specs.Checks.{open_slot}
use Rattle.calls.proofs.Checks.{open_refused}
use Rattle.calls.proofs.Granting.{grant_judged, grant_taken}
use Rattle.calls.proofs.Judged.{by_small, refusal_is}

module _ (s : Store) (h r low high : ℕ) (w : Extent) where
  abbrev lock_order : Bool
  lock_order = leb low high && leb high LAST

  abbrev lock_above : Verdict
  lock_above = needs (ltb (rec_at s r).floor low) 7 pass

  abbrev lock_rest : Verdict
  lock_rest = needs (has_record s r) 5 (needs lock_order 6 lock_above)

  abbrev lock_next : Outcome
  lock_next = lock_wanted s (slot_of h) r low high w

  pub lock_closed : {q : Result ℕ Refusal} {x : Refusal} → q ≡ open_slot s h → q ≡ Err x
      → locking h r low high w s ≡ replies s (of_refusal x)
  unfolding locking_by lock_checks
  lock_closed m e = open_refused s h m lock_rest lock_next e

  pub lock_no_record : knows s h ≡ true → is_open s h ≡ true → has_record s r ≡ false
      → locking h r low high w s ≡ replies s (refusing 5 [])
  unfolding locking_by lock_checks
  lock_no_record e f g =
      edit_open s lock_next h lock_rest e f
      ∙ needs_fails s lock_next (has_record s r) 5 (needs lock_order 6 lock_above) g

  module _ (e : knows s h ≡ true) (f : is_open s h ≡ true) (g : has_record s r ≡ true) where
    lock_edit : locking h r low high w s ≡ unless s (needs lock_order 6 lock_above) lock_next
    unfolding locking_by lock_checks
    lock_edit =
        edit_open s lock_next h lock_rest e f
        ∙ needs_holds s lock_next (has_record s r) 5 (needs lock_order 6 lock_above) g

    pub lock_bad_point : lock_order ≡ false → locking h r low high w s ≡ replies s (refusing 6 [])
    lock_bad_point o = lock_edit ∙ needs_fails s lock_next lock_order 6 lock_above o

    pub lock_below : lock_order ≡ true → ltb (rec_at s r).floor low ≡ false
        → locking h r low high w s ≡ replies s (refusing 7 [])
    lock_below o b =
        lock_edit ∙ needs_holds s lock_next lock_order 6 lock_above o
        ∙ needs_fails s lock_next (ltb (rec_at s r).floor low) 7 pass b

    pub lock_passes : lock_order ≡ true → ltb (rec_at s r).floor low ≡ true → locking h r low high w s ≡ lock_next
    lock_passes o b =
        lock_edit ∙ needs_holds s lock_next lock_order 6 lock_above o
        ∙ needs_holds s lock_next (ltb (rec_at s r).floor low) 7 pass b

-- the points wanted, by the open edit of slot k
module _ (s : Store) (k r low high : ℕ) (w : Extent) where
  abbrev lock_granted_lem : Bool
  lock_granted_lem = lock_granted w k (rec_at s r) low high

  abbrev lock_from_lem : ℕ
  lock_from_lem = lock_from w k (rec_at s r) low high

  abbrev lock_end_lem : ℕ
  lock_end_lem = lock_end w k (rec_at s r) low high

  abbrev lock_first : ℕ
  lock_first = first_blocked WRITE k (rec_at s r) low high

  abbrev lock_made : Outcome
  lock_made = replies (with_lock s r WRITE k lock_from_lem lock_end_lem) (locked lock_from_lem lock_end_lem)

  abbrev lock_judged : Blocked
  lock_judged = judged s r WRITE k low high

  module _ (b : Blocked) (e : Err b ≡ lock_grant w s k r low high) where
    granted : (lock_granted_lem ≡ false) × (lock_judged ≡ b)
    unfolding lock_grant
    granted = grant_judged lock_granted_lem lock_from_lem lock_end_lem lock_judged b (sym e)

    pub lock_by_small : Small b.judgement
    lock_by_small = by_small s r WRITE k low high b (sym granted.1)

    pub lock_blocked : (n : ℕ) (more : List ℕ) → refuse n more ≡ refusal_by s b.judgement
        → lock_wanted s k r low high w ≡ replies s (refusing n more)
    unfolding lock_wanted_by lock_verdict
    lock_blocked n more f =
        else_fails s lock_made lock_granted_lem n more (judge s r WRITE k lock_first) (needs (lock_room s) 11 pass)
        granted.0 (f ∙ refusal_is s r WRITE k low high b (sym granted.1))

  module _ (from end : ℕ) (e : Ok (from, end) ≡ lock_grant w s k r low high) where
    lock_taken : lock_wanted s k r low high w
        ≡ unless s (needs (lock_room s) 11 pass) (replies (with_lock s r WRITE k from end) (locked from end))
    unfolding lock_grant lock_wanted_by lock_verdict
    lock_taken =
        let g = grant_taken lock_granted_lem lock_from_lem lock_end_lem lock_judged from end (sym e) in
        else_holds s lock_made lock_granted_lem (judge s r WRITE k lock_first) (needs (lock_room s) 11 pass) g.0
        ∙ ap (λ (x : ℕ). unless s (needs (lock_room s) 11 pass)
        (replies (with_lock s r WRITE k x lock_end_lem) (locked x lock_end_lem)))
        g.1
        ∙ ap (λ (x : ℕ). unless s (needs (lock_room s) 11 pass)
        (replies (with_lock s r WRITE k from x) (locked from x)))
        g.2

    pub lock_no_room : lock_room s ≡ false → lock_wanted s k r low high w ≡ replies s (refusing 11 [])
    lock_no_room f =
        lock_taken ∙ needs_fails s (replies (with_lock s r WRITE k from end) (locked from end)) (lock_room s) 11 pass f

    pub lock_done : lock_room s ≡ true
        → lock_wanted s k r low high w ≡ replies (with_lock s r WRITE k from end) (locked from end)
    lock_done f =
        lock_taken ∙ needs_holds s (replies (with_lock s r WRITE k from end) (locked from end)) (lock_room s) 11 pass f
