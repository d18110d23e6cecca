-- The ways that Read ends, one law for each return of the code. Rests on Verdicts and Granting.
use Prim.Native.Nat.{ℕ, ◌-◌, ◌<◌}
use mathlib.Core.Path.{◌≡◌, sym, ap, ◌∙◌}
use mathlib.Core.Bool.{Bool, true, false}
use mathlib.Core.List.{List, []}
use lib.Dec.{ltb}
use borrow.Author.Tests.{lt-ltb}
use Rattle.types.specs.Limits.{READ}
use Rattle.meaning.specs.Store.{Store, edit_at, rec_at, access_of, version_on}
use Rattle.types.specs.Numbers.{slot_of}
use Rattle.meaning.specs.Points.{first_blocked}
use Rattle.types.specs.Replies.{read, own, again, refusing}
use Rattle.meaning.specs.Outcomes.{Outcome, replies, Verdict, pass, refuse, or_else, needs, unless, knows, is_open}
use Rattle.meaning.specs.Outcomes.{has_record, is_point, judge, access_room, lock_room}
use Rattle.meaning.specs.Locking.{read_version, read_from, read_end, read_granted, read_verdict, read_store, read_new}
use Rattle.meaning.specs.Locking.{read_new_by}
use Rattle.meaning.specs.Locking.{read_open, read_open_by, read_checks, reading, reading_by}
use Rattle.types.specs.declared.Version.{Version}
use Rattle.types.specs.declared.Access.{Access}
use Rattle.types.specs.declared.Extent.{Extent}
use Rattle.blocking.specs.declared.Blocked.{Blocked}
use Rattle.blocking.specs.Search.{judged}
use Rattle.std.specs.Prelude.{Result, Ok, Err}
use Rattle.calls.specs.Grants.{read_grant, refusal_by, Small}
use Rattle.calls.specs.Parts.{read_taken}
use Rattle.calls.proofs.Verdicts.{needs_fails, needs_holds, else_fails, else_holds, edit_open}
use Rattle.calls.specs.Checks.{open_slot}
use Rattle.calls.proofs.Checks.{open_refused}
use Rattle.types.specs.Replies.{of_refusal}
use Rattle.types.specs.declared.Refusal.{Refusal}
use Rattle.calls.proofs.Granting.{grant_judged, grant_taken}
use Rattle.calls.proofs.Judged.{by_small, refusal_is}
use Rattle.meaning.specs.Store.{has_written, written_value}

module _ (s : Store) (h r m : ℕ) (w : Extent) where
  abbrev read_rest : Verdict
  read_rest = needs (has_record s r) 5 (needs (is_point m) 6 pass)

  abbrev read_next : Outcome
  read_next = read_open s (slot_of h) r m w

  pub read_closed : {q : Result ℕ Refusal} {x : Refusal} → q ≡ open_slot s h → q ≡ Err x
      → reading h r m w s ≡ replies s (of_refusal x)
  unfolding reading_by read_checks
  read_closed m e = open_refused s h m read_rest read_next e

  pub read_no_record : knows s h ≡ true → is_open s h ≡ true → has_record s r ≡ false
      → reading h r m w s ≡ replies s (refusing 5 [])
  unfolding reading_by read_checks
  read_no_record e f g =
      edit_open s read_next h read_rest e f ∙ needs_fails s read_next (has_record s r) 5 (needs (is_point m) 6 pass) g

  module _ (e : knows s h ≡ true) (f : is_open s h ≡ true) (g : has_record s r ≡ true) where
    read_edit : reading h r m w s ≡ unless s (needs (is_point m) 6 pass) read_next
    unfolding reading_by read_checks
    read_edit =
        edit_open s read_next h read_rest e f ∙ needs_holds s read_next (has_record s r) 5 (needs (is_point m) 6 pass) g

    pub read_bad_point : is_point m ≡ false → reading h r m w s ≡ replies s (refusing 6 [])
    read_bad_point o = read_edit ∙ needs_fails s read_next (is_point m) 6 pass o

    pub read_passes : is_point m ≡ true → reading h r m w s ≡ read_next
    read_passes o = read_edit ∙ needs_holds s read_next (is_point m) 6 pass o

-- by the open edit of slot k, whose access of the record is a
module _ (s : Store) (k r m : ℕ) (w : Extent) (a : Access) (e : a ≡ access_of (edit_at s k) r) where
  pub read_own : has_written a ≡ true → read_open s k r m w ≡ replies s (own (written_value a))
  unfolding read_open_by
  read_own f = rw (← e, f)

  pub read_again : (v : Version) → has_written a ≡ false → 0 < a.from
      → v ≡ version_on (rec_at s r).versions (a.from - 1)
      → read_open s k r m w ≡ replies s (again (a.from - 1) v.value)
  unfolding read_open_by
  read_again v f l g = rw (← e, f, lt-ltb 0 a.from l, ← g)

  pub read_first : has_written a ≡ false → a.from ≡ 0 → read_open s k r m w ≡ read_new s k r m w
  unfolding read_open_by
  read_first f l = rw (← e, f, l)

-- of a record that the edit has neither written nor read
module _ (s : Store) (k r m : ℕ) (w : Extent) where
  abbrev read_granted_lem : Bool
  read_granted_lem = read_granted w k (rec_at s r) (read_from s r m) m

  abbrev read_blocked_at : ℕ
  read_blocked_at = first_blocked READ k (rec_at s r) (read_from s r m) m

  abbrev read_first_judged : Blocked
  read_first_judged = judged s r READ k (read_from s r m) m

  abbrev read_made : Outcome
  read_made =
      replies (read_store s k r (read_from s r m) (read_end s k r m w))
      (read (read_version s r m).point (read_end s k r m w) (read_version s r m).value)

  abbrev read_rooms : Verdict
  read_rooms = needs (access_room s k r) 10 (needs (lock_room s) 11 pass)

  abbrev read_judged : Verdict
  read_judged = or_else read_granted_lem (judge s r READ k read_blocked_at) read_rooms

  pub read_below : ltb (rec_at s r).floor m ≡ false → read_new s k r m w ≡ replies s (refusing 7 [])
  unfolding read_new_by read_verdict
  read_below e = needs_fails s read_made (ltb (rec_at s r).floor m) 7 read_judged e

  module _ (above : ltb (rec_at s r).floor m ≡ true) where
    read_above : read_new s k r m w ≡ unless s read_judged read_made
    unfolding read_new_by read_verdict
    read_above = needs_holds s read_made (ltb (rec_at s r).floor m) 7 read_judged above

    module _ (b : Blocked) (e : Err b ≡ read_grant w s k r (read_from s r m) m) where
      granted : (read_granted_lem ≡ false) × (read_first_judged ≡ b)
      unfolding read_grant
      granted = grant_judged read_granted_lem (read_from s r m) (read_end s k r m w) read_first_judged b (sym e)

      pub read_by_small : Small b.judgement
      read_by_small = by_small s r READ k (read_from s r m) m b (sym granted.1)

      pub read_blocked : (n : ℕ) (more : List ℕ) → refuse n more ≡ refusal_by s b.judgement
          → read_new s k r m w ≡ replies s (refusing n more)
      read_blocked n more f =
          read_above
          ∙ else_fails s read_made read_granted_lem n more (judge s r READ k read_blocked_at) read_rooms granted.0
          (f ∙ refusal_is s r READ k (read_from s r m) m b (sym granted.1))

    pub read_granted_is : (from end : ℕ) → Ok (from, end) ≡ read_grant w s k r (read_from s r m) m
        → read_new s k r m w ≡ read_taken s k r from end (read_version s r m)
    unfolding read_grant read_taken
    read_granted_is from end e =
        let g = grant_taken read_granted_lem (read_from s r m) (read_end s k r m w) read_first_judged
        from end (sym e) in
        let v = read_version s r m in
        read_above
        ∙ else_holds s read_made read_granted_lem (judge s r READ k read_blocked_at) read_rooms g.0
        ∙ ap (λ (x : ℕ). unless s read_rooms
        (replies (read_store s k r x (read_end s k r m w)) (read v.point (read_end s k r m w) v.value)))
        g.1
        ∙ ap (λ (x : ℕ). unless s read_rooms (replies (read_store s k r from x) (read v.point x v.value))) g.2

module _ (s : Store) (k r from end : ℕ) (v : Version) where
  abbrev taken_end : Outcome
  taken_end = replies (read_store s k r from end) (read v.point end v.value)

  pub read_no_access : access_room s k r ≡ false → read_taken s k r from end v ≡ replies s (refusing 10 [])
  unfolding read_taken
  read_no_access e = needs_fails s taken_end (access_room s k r) 10 (needs (lock_room s) 11 pass) e

  module _ (e : access_room s k r ≡ true) where
    pub read_no_lock : lock_room s ≡ false → read_taken s k r from end v ≡ replies s (refusing 11 [])
    unfolding read_taken
    read_no_lock f =
        needs_holds s taken_end (access_room s k r) 10 (needs (lock_room s) 11 pass) e
        ∙ needs_fails s taken_end (lock_room s) 11 pass f

    pub read_done : lock_room s ≡ true → read_taken s k r from end v ≡ taken_end
    unfolding read_taken
    read_done f =
        needs_holds s taken_end (access_room s k r) 10 (needs (lock_room s) 11 pass) e
        ∙ needs_holds s taken_end (lock_room s) 11 pass f
