-- The ways that Abort and Settle end, one law for each return of the code. Rests on Verdicts of `calls`.
use Rattle.std.specs.Prelude.{Result, Err}
use Prim.Native.Nat.{ℕ}
use mathlib.Core.Path.{◌≡◌, ◌∙◌}
use mathlib.Core.Bool.{true, false, not}
use mathlib.Core.List.{[]}
use Rattle.meaning.specs.Store.{Store}
use Rattle.types.specs.Numbers.{slot_of}
use Rattle.types.specs.Replies.{ok, refusing, of_refusal}
use Rattle.types.specs.declared.Refusal.{Refusal}
use Rattle.meaning.specs.Outcomes.{Outcome, replies, Verdict, pass, needs, knows, is_open}
use Rattle.meaning.specs.Ending.{finished, aborted, settled, abort_checks, aborting, aborting_by, settle_checks}
use Rattle.meaning.specs.Ending.{settling}
use Rattle.meaning.specs.Ending.{settling_by}
use Rattle.types.specs.declared.Finish.{Finish}
use Rattle.calls.proofs.Verdicts.{needs_fails, needs_holds, edit_open}
use Rattle.calls.specs.Checks.{open_slot}
use Rattle.calls.proofs.Checks.{open_refused}

module _ (s : Store) (h : ℕ) (f : Finish) where
  abbrev abort_end : Outcome
  abort_end = replies (finished f (aborted s (slot_of h)) (slot_of h)) ok

  pub abort_closed : {q : Result ℕ Refusal} {x : Refusal} → q ≡ open_slot s h → q ≡ Err x
      → aborting h f s ≡ replies s (of_refusal x)
  unfolding aborting_by abort_checks
  abort_closed m e = open_refused s h m pass abort_end e

  pub abort_done : knows s h ≡ true → is_open s h ≡ true
      → aborting h f s ≡ replies (finished f (aborted s (slot_of h)) (slot_of h)) ok
  unfolding aborting_by abort_checks
  abort_done e g = edit_open s abort_end h pass e g

module _ (s : Store) (h : ℕ) where
  abbrev settle_end : Outcome
  settle_end = replies (settled s (slot_of h)) ok

  abbrev settle_rest : Verdict
  settle_rest = needs (not (is_open s h)) 4 pass

  pub settle_no_edit : knows s h ≡ false → settling h s ≡ replies s (refusing 2 [])
  unfolding settling_by settle_checks
  settle_no_edit e = needs_fails s settle_end (knows s h) 2 settle_rest e

  pub settle_open : knows s h ≡ true → is_open s h ≡ true → settling h s ≡ replies s (refusing 4 [])
  unfolding settling_by settle_checks
  settle_open e g = needs_holds s settle_end (knows s h) 2 settle_rest e ∙ rw g

  pub settle_done : knows s h ≡ true → is_open s h ≡ false → settling h s ≡ replies (settled s (slot_of h)) ok
  unfolding settling_by settle_checks
  settle_done e g = needs_holds s settle_end (knows s h) 2 settle_rest e ∙ rw g
