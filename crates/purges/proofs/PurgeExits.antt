-- The ways that Purge ends, one law for each return of the code. Rests on Verdicts of `calls`.
use Prim.Native.Nat.{ℕ, ◌≤◌, ◌<◌}
use mathlib.Core.Path.{◌≡◌, refl, ◌∙◌}
use mathlib.Core.Bool.{true, false}
use mathlib.Core.List.{[]}
use lib.Dec.{leb}
use borrow.Author.Tests.{le-leb, lt-leb}
use Rattle.types.specs.Limits.{LAST}
use Rattle.meaning.specs.Store.{Rec, Store, rec_at, newest_at}
use Rattle.types.specs.Replies.{purged, refusing}
use Rattle.meaning.specs.Outcomes.{Outcome, replies, pass, needs, has_record}
use Rattle.meaning.specs.Records.{purge_verdict, purge_to, purge_checks, purging}
use Rattle.calls.proofs.Verdicts.{needs_fails, needs_holds}
use Rattle.endings.specs.Parts.{locked_below, purged_to, purge_all}

module _ (s : Store) (r b : ℕ) where
  abbrev rest : Outcome
  rest = purge_to s r (newest_at (rec_at s r).versions b).point

  pub purge_no_record : has_record s r ≡ false → purging r b s ≡ replies s (refusing 5 [])
  unfolding purging purge_checks
  purge_no_record e = needs_fails s rest (has_record s r) 5 (needs (leb b LAST) 6 pass) e

  pub purge_bad_point : has_record s r ≡ true → LAST < b → purging r b s ≡ replies s (refusing 6 [])
  unfolding purging purge_checks
  purge_bad_point e l =
      needs_holds s rest (has_record s r) 5 (needs (leb b LAST) 6 pass) e
      ∙ needs_fails s rest (leb b LAST) 6 pass (lt-leb b LAST l)

  pub purge_passes : has_record s r ≡ true → b ≤ LAST
      → purging r b s ≡ purge_to s r (newest_at (rec_at s r).versions b).point
  unfolding purging purge_checks
  purge_passes e l =
      needs_holds s rest (has_record s r) 5 (needs (leb b LAST) 6 pass) e
      ∙ needs_holds s rest (leb b LAST) 6 pass (le-leb b LAST l)

module _ (s : Store) (r v : ℕ) where
  abbrev x : Rec
  x = rec_at s r

  pub purge_at_floor : v ≤ x.floor → purge_to s r v ≡ replies s (purged 0 0)
  unfolding purge_to
  purge_at_floor l = rw (le-leb v x.floor l) refl

  pub purge_locked : x.floor < v → locked_below v x.locks ≡ true → purge_to s r v ≡ replies s (refusing 15 [])
  unfolding purge_to purge_verdict locked_below
  purge_locked l e = rw (lt-leb v x.floor l, e) refl

  pub purge_done : x.floor < v → locked_below v x.locks ≡ false → purge_to s r v ≡ purge_all s r v
  unfolding purge_to purge_verdict locked_below purged_to purge_all
  purge_done l e = rw (lt-leb v x.floor l, e) refl
