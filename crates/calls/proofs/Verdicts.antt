-- How the tests of a call come out: an outcome under a verdict is the refusal of the first test that fails, or what the
-- rest says. The laws of each call are chains of these. Rests on Outcomes of `meaning`.
use Prim.Native.Nat.{ℕ}
use mathlib.Core.Path.{◌≡◌, ◌∙◌}
use mathlib.Core.Bool.{Bool, true, false}
use mathlib.Core.List.{List, []}
use Rattle.meaning.specs.Store.{Store}
use Rattle.types.specs.Replies.{refusing}
use Rattle.meaning.specs.Outcomes.{Outcome, replies, Verdict, refuse, or_else, needs, unless, knows, is_open}
use Rattle.meaning.specs.Outcomes.{for_open}

module _ (s : Store) (o : Outcome) where
  -- one test
  pub needs_fails : (b : Bool) (n : ℕ) (v : Verdict) → b ≡ false → unless s (needs b n v) o ≡ replies s (refusing n [])
  needs_fails b n v e = rw e

  pub needs_holds : (b : Bool) (n : ℕ) (v : Verdict) → b ≡ true → unless s (needs b n v) o ≡ unless s v o
  needs_holds b n v e = rw e

  pub else_fails : (b : Bool) (n : ℕ) (more : List ℕ) (r v : Verdict) → b ≡ false → refuse n more ≡ r
      → unless s (or_else b r v) o ≡ replies s (refusing n more)
  else_fails b n more r v e f = rw (e, ← f)

  pub else_holds : (b : Bool) (r v : Verdict) → b ≡ true → unless s (or_else b r v) o ≡ unless s v o
  else_holds b r v e = rw e

  -- 2, 3, and what is left for an open edit
  module _ (h : ℕ) (v : Verdict) where
    pub no_edit_lem : knows s h ≡ false → unless s (for_open s h v) o ≡ replies s (refusing 2 [])
    no_edit_lem e = needs_fails (knows s h) 2 (needs (is_open s h) 3 v) e

    pub edit_ended : knows s h ≡ true → is_open s h ≡ false → unless s (for_open s h v) o ≡ replies s (refusing 3 [])
    edit_ended e f = needs_holds (knows s h) 2 (needs (is_open s h) 3 v) e ∙ needs_fails (is_open s h) 3 v f

    pub edit_open : knows s h ≡ true → is_open s h ≡ true → unless s (for_open s h v) o ≡ unless s v o
    edit_open e f = needs_holds (knows s h) 2 (needs (is_open s h) 3 v) e ∙ needs_holds (is_open s h) 3 v f
