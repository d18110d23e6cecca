-- The ways that Begin, Write and View end, one law for each return of the code. Rests on Verdicts and Checks.
use Rattle.std.specs.Prelude.{Result, Err}
use Prim.Native.Nat.{ℕ, ◌≤◌, ◌<◌}
use mathlib.Core.Path.{◌≡◌, ◌∙◌}
use mathlib.Core.Bool.{true, false}
use mathlib.Core.List.{[]}
use lib.Dec.{leb}
use lib.ListN.{length}
use borrow.Author.Tests.{le-leb, lt-leb}
use Rattle.types.specs.Limits.{LAST}
use Rattle.meaning.specs.Store.{Store, edit_at, rec_at, newest_at}
use Rattle.types.specs.Numbers.{handle, slot_of, next_generation}
use Rattle.types.specs.Values.{Val}
use Rattle.types.specs.Replies.{ok, edit, at, refusing, of_refusal}
use Rattle.types.specs.declared.Refusal.{Refusal}
use Rattle.meaning.specs.Outcomes.{Outcome, replies, Verdict, pass, needs, unless, knows, is_open, has_record}
use Rattle.meaning.specs.Outcomes.{access_room}
use Rattle.meaning.specs.Edits.{free_slot, begun, begin_checks, beginning, written, write_checks, writing}
use Rattle.meaning.specs.Records.{view_checks, viewing}
use Rattle.calls.specs.Parts.{write_open}
use Rattle.calls.proofs.Verdicts.{needs_fails, needs_holds, edit_open}
use Rattle.calls.specs.Checks.{open_slot}
use Rattle.calls.proofs.Checks.{open_refused}

-- Begin

pub begin_full : (s : Store) → length s.edits < free_slot s → beginning s ≡ replies s (refusing 13 [])
unfolding beginning begin_checks
begin_full s l =
    needs_fails s
    (replies (begun s (free_slot s))
    (edit (handle (next_generation (edit_at s (free_slot s)).generation) (free_slot s))))
    (leb (free_slot s) (length s.edits)) 13 pass (lt-leb (free_slot s) (length s.edits) l)

pub begin_done : (s : Store) → free_slot s ≤ length s.edits
    → beginning s
    ≡ replies (begun s (free_slot s))
    (edit (handle (next_generation (edit_at s (free_slot s)).generation) (free_slot s)))
unfolding beginning begin_checks
begin_done s l =
    needs_holds s
    (replies (begun s (free_slot s))
    (edit (handle (next_generation (edit_at s (free_slot s)).generation) (free_slot s))))
    (leb (free_slot s) (length s.edits)) 13 pass (le-leb (free_slot s) (length s.edits) l)

-- Write

module _ (s : Store) (h r : ℕ) (v : Val) where
  abbrev write_end : Outcome
  write_end = replies (written s (slot_of h) r v) ok

  abbrev write_rest : Verdict
  write_rest = needs (access_room s (slot_of h) r) 10 pass

  pub write_closed : {q : Result ℕ Refusal} {x : Refusal} → q ≡ open_slot s h → q ≡ Err x
      → writing h r v s ≡ replies s (of_refusal x)
  unfolding writing write_checks
  write_closed m e = open_refused s h m (needs (has_record s r) 5 write_rest) write_end e

  pub write_no_record : knows s h ≡ true → is_open s h ≡ true → has_record s r ≡ false
      → writing h r v s ≡ replies s (refusing 5 [])
  unfolding writing write_checks
  write_no_record e f g =
      edit_open s write_end h (needs (has_record s r) 5 write_rest) e f
      ∙ needs_fails s write_end (has_record s r) 5 write_rest g

  pub write_passes : knows s h ≡ true → is_open s h ≡ true → has_record s r ≡ true
      → writing h r v s ≡ write_open s (slot_of h) r v
  unfolding writing write_checks write_open
  write_passes e f g =
      edit_open s write_end h (needs (has_record s r) 5 write_rest) e f
      ∙ needs_holds s write_end (has_record s r) 5 write_rest g

module _ (s : Store) (k r : ℕ) (v : Val) where
  pub write_no_room : access_room s k r ≡ false → write_open s k r v ≡ replies s (refusing 10 [])
  unfolding write_open
  write_no_room e = needs_fails s (replies (written s k r v) ok) (access_room s k r) 10 pass e

  pub write_done : access_room s k r ≡ true → write_open s k r v ≡ replies (written s k r v) ok
  unfolding write_open
  write_done e = needs_holds s (replies (written s k r v) ok) (access_room s k r) 10 pass e

-- View

module _ (s : Store) (r p : ℕ) where
  abbrev view_end : Outcome
  view_end = replies s (at (newest_at (rec_at s r).versions p).point (newest_at (rec_at s r).versions p).value)

  abbrev view_above : Verdict
  view_above = needs (leb (rec_at s r).floor p) 7 pass

  pub view_no_record : has_record s r ≡ false → viewing r p s ≡ replies s (refusing 5 [])
  unfolding viewing view_checks
  view_no_record e = needs_fails s view_end (has_record s r) 5 (needs (leb p LAST) 6 view_above) e

  module _ (e : has_record s r ≡ true) where
    view_there : viewing r p s ≡ unless s (needs (leb p LAST) 6 view_above) view_end
    unfolding viewing view_checks
    view_there = needs_holds s view_end (has_record s r) 5 (needs (leb p LAST) 6 view_above) e

    pub view_bad_point : leb p LAST ≡ false → viewing r p s ≡ replies s (refusing 6 [])
    view_bad_point f = view_there ∙ needs_fails s view_end (leb p LAST) 6 view_above f

    pub view_below : leb p LAST ≡ true → leb (rec_at s r).floor p ≡ false → viewing r p s ≡ replies s (refusing 7 [])
    view_below f g =
        view_there ∙ needs_holds s view_end (leb p LAST) 6 view_above f
        ∙ needs_fails s view_end (leb (rec_at s r).floor p) 7 pass g

    pub view_done : leb p LAST ≡ true → leb (rec_at s r).floor p ≡ true → viewing r p s ≡ view_end
    view_done f g =
        view_there ∙ needs_holds s view_end (leb p LAST) 6 view_above f
        ∙ needs_holds s view_end (leb (rec_at s r).floor p) 7 pass g
