-- The ways that Commit ends, one law for each return of the code. The code asks for the earliest point, the latest, or
-- whether a named one is common: LAST + 1, 0 and a named point that is common say whether the common set is empty.
-- Rests on Verdicts of `calls` and the laws of `meaning`.
use Rattle.std.specs.Prelude.{Result, Err}
use Prim.Native.Nat.{ℕ, suc, ◌≤◌, ◌<◌}
use native.Mathlib.Omega.{arith}
use mathlib.Core.Path.{◌≡◌, refl, ◌∙◌}
use mathlib.Core.Logic.{◌⊎◌, inl, inr}
use mathlib.Core.Bool.{Bool, true, false}
use mathlib.Core.List.{[]}
use lib.Dec.{leb}
use borrow.Author.Tests.{lt-ltb, le-ltb, leb-true, leb-false}
use Rattle.types.specs.Limits.{LAST}
use Rattle.meaning.specs.Store.{Store, edit_at}
use Rattle.types.specs.Numbers.{slot_of}
use Rattle.meaning.specs.Points.{in_common, earliest, latest}
use Rattle.types.specs.Replies.{commit, nopoint, refusing, of_refusal}
use Rattle.types.specs.declared.Refusal.{Refusal}
use Rattle.meaning.specs.Outcomes.{Outcome, replies, Verdict, pass, needs, knows, is_open, version_room}
use Rattle.meaning.specs.Ending.{finished, committed, aborted, good_pick, no_common, commit_verdict, commit_open}
use Rattle.meaning.specs.Ending.{commit_open_by}
use Rattle.meaning.specs.Ending.{commit_checks, committing, committing_by}
use Rattle.meaning.specs.Pointwise.{EmptyCommonSet, LeastCommon, GreatestCommon}
use Rattle.types.specs.declared.Point.{Point}
use Rattle.types.specs.declared.Pick.{Pick}
use Rattle.types.specs.declared.Pick.TheVariants.{Earliest, Latest, Named}
use Rattle.types.specs.declared.Finish.{Finish}
use Rattle.meaning.proofs.Laws.{common_set_is, earliest_is_least, latest_is_greatest}
use Rattle.calls.proofs.Verdicts.{needs_fails, needs_holds, edit_open}
use Rattle.calls.specs.Checks.{open_slot}
use Rattle.calls.proofs.Checks.{open_refused}
use Rattle.std.specs.Prelude.{Option}
use Rattle.std.specs.Bool.{then_some}
use Rattle.meaning.proofs.Lists.{test}
use Rattle.endings.specs.Parts.{commit_at, commit_at_or_none, CommonAt}

-- only a named point can be bad
pub good_unnamed : (pick : Pick) → ((p : Point) → pick ≡ Named p → ⊥) → good_pick pick ≡ true
good_unnamed Earliest n = refl
good_unnamed Latest n = refl
good_unnamed (Named p) n = absurd (n p refl)

module _ (s : Store) (h : ℕ) (pick : Pick) (f : Finish) where
  abbrev rest : Outcome
  rest = commit_open s (slot_of h) pick f

  abbrev picked : Verdict
  picked = needs (good_pick pick) 6 pass

  pub commit_closed : {q : Result ℕ Refusal} {x : Refusal} → q ≡ open_slot s h → q ≡ Err x
      → committing h pick f s ≡ replies s (of_refusal x)
  unfolding committing_by commit_checks
  commit_closed m e = open_refused s h m picked rest e

  pub commit_bad_pick : knows s h ≡ true → is_open s h ≡ true → good_pick pick ≡ false
      → committing h pick f s ≡ replies s (refusing 6 [])
  unfolding committing_by commit_checks
  commit_bad_pick e g b = edit_open s rest h picked e g ∙ needs_fails s rest (good_pick pick) 6 pass b

  pub commit_passes : knows s h ≡ true → is_open s h ≡ true → good_pick pick ≡ true
      → committing h pick f s ≡ commit_open s (slot_of h) pick f
  unfolding committing_by commit_checks
  commit_passes e g b = edit_open s rest h picked e g ∙ needs_holds s rest (good_pick pick) 6 pass b

module _ (s : Store) (k : ℕ) (f : Finish) where
  abbrev common : ℕ → Bool
  common p = in_common s.records k (edit_at s k) p

  abbrev first : ℕ
  first = earliest s.records k (edit_at s k)

  abbrev last : ℕ
  last = latest s.records k (edit_at s k)

  abbrev none : Outcome
  none = replies (finished f (aborted s k) k) nopoint

  -- a common point is not above LAST, so the earliest is not; and the common set is empty where there is no latest
  some_common : (p : ℕ) → common p ≡ true → first ≤ LAST
  some_common p e = go (earliest_is_least s.records k (edit_at s k))
    where
      go : LeastCommon s.records k (edit_at s k) first
          ⊎ ((first ≡ suc LAST) × EmptyCommonSet s.records k (edit_at s k))
          → first ≤ LAST
      go (inl w) = w.common.last
      go (inr w) = absurd (w.1 p ((common_set_is s.records k (edit_at s k) p).0 e))

  none_latest : last ≡ 0 → LAST < first
  none_latest e = go (latest_is_greatest s.records k (edit_at s k)) (earliest_is_least s.records k (edit_at s k))
    where
      go : GreatestCommon s.records k (edit_at s k) last ⊎ ((last ≡ 0) × EmptyCommonSet s.records k (edit_at s k))
          → LeastCommon s.records k (edit_at s k) first
          ⊎ ((first ≡ suc LAST) × EmptyCommonSet s.records k (edit_at s k))
          → LAST < first
      go a (inr w) = omega (arith, w.0)
      go (inl v) (inl w) = absurd (omega (arith, v.common.least, e))
      go (inr v) (inl w) = absurd (v.1 first w.common)

  first_common : first ≤ LAST → common first ≡ true
  first_common l = go (earliest_is_least s.records k (edit_at s k))
    where
      go : LeastCommon s.records k (edit_at s k) first
          ⊎ ((first ≡ suc LAST) × EmptyCommonSet s.records k (edit_at s k))
          → common first ≡ true
      go (inl w) = (common_set_is s.records k (edit_at s k) first).1 w.common
      go (inr w) = absurd (omega (arith, w.0))

  last_common : (last ≡ 0 → ⊥) → common last ≡ true
  last_common n = go (latest_is_greatest s.records k (edit_at s k))
    where
      go : GreatestCommon s.records k (edit_at s k) last ⊎ ((last ≡ 0) × EmptyCommonSet s.records k (edit_at s k))
          → common last ≡ true
      go (inl w) = (common_set_is s.records k (edit_at s k) last).1 w.common
      go (inr w) = absurd (n w.0)

  empty_ends : (pick : Pick) → LAST < first → commit_open s k pick f ≡ none
  unfolding commit_open_by no_common
  empty_ends pick l = rw (lt-ltb LAST first l) refl

  earliest_none : LAST < first → commit_open s k Earliest f ≡ none
  earliest_none l = empty_ends Earliest l

  earliest_some : first ≤ LAST → commit_open s k Earliest f ≡ commit_at s k first f
  unfolding commit_open_by no_common commit_verdict commit_at
  earliest_some l = rw (le-ltb LAST first l) refl

  latest_none : last ≡ 0 → commit_open s k Latest f ≡ none
  latest_none e = empty_ends Latest (none_latest e)

  latest_some : (last ≡ 0 → ⊥) → commit_open s k Latest f ≡ commit_at s k last f
  unfolding commit_open_by no_common commit_verdict commit_at
  latest_some n = rw (le-ltb LAST first (some_common last (last_common n))) refl

  -- so the commit is at what the search found, or without a point
  module _ {o : Option ℕ} (e : o ≡ then_some (leb first LAST) first) where
    pub at_earliest : CommonAt s k o × (commit_open s k Earliest f ≡ commit_at_or_none s k o f)
    at_earliest = go (test (leb first LAST))
      where
        go : (leb first LAST ≡ true) ⊎ (leb first LAST ≡ false)
            → CommonAt s k o × (commit_open s k Earliest f ≡ commit_at_or_none s k o f)
        go (inl q) =
            let l = leb-true first LAST q in rw (e, q) (first_common l, earliest_some l)
        go (inr q) = rw (e, q) (tt, earliest_none (leb-false first LAST q))

  module _ {o : Option ℕ} (e : o ≡ then_some (leb 1 last) last) where
    pub at_latest : CommonAt s k o × (commit_open s k Latest f ≡ commit_at_or_none s k o f)
    at_latest = go (test (leb 1 last))
      where
        go : (leb 1 last ≡ true) ⊎ (leb 1 last ≡ false)
            → CommonAt s k o × (commit_open s k Latest f ≡ commit_at_or_none s k o f)
        go (inl q) =
            let l = leb-true 1 last q in
            rw (e, q) (last_common (λ z. omega (arith, l, z)), latest_some (λ z. omega (arith, l, z)))
        go (inr q) = rw (e, q) (tt, latest_none (omega (arith, leb-false 1 last q)))

  module _ (p : Point) where
    pub named_in : common p.0 ≡ true → commit_open s k (Named p) f ≡ commit_at s k p.0 f
    unfolding commit_open_by no_common commit_verdict commit_at
    named_in e = rw (le-ltb LAST first (some_common p.0 e), e) refl

    pub named_none : LAST < first → commit_open s k (Named p) f ≡ none
    named_none l = empty_ends (Named p) l

    pub named_out : common p.0 ≡ false → first ≤ LAST → commit_open s k (Named p) f ≡ replies s (refusing 14 [])
    unfolding commit_open_by no_common commit_verdict
    named_out e l = rw (le-ltb LAST first l, e) refl

  module _ (t : ℕ) where
    abbrev done : Outcome
    done = replies (finished f (committed s k t) k) (commit t)

    pub at_full : version_room s k ≡ false → commit_at s k t f ≡ replies s (refusing 12 [])
    unfolding commit_at
    at_full e = needs_fails s done (version_room s k) 12 pass e

    pub at_done : version_room s k ≡ true → commit_at s k t f ≡ replies (finished f (committed s k t) k) (commit t)
    unfolding commit_at
    at_done e = needs_holds s done (version_room s k) 12 pass e
