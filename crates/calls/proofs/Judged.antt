-- How a blocked point is refused, from the judgement that the search answered. Rests on Judged of `blocking`.
use Prim.Native.Nat.{ℕ, ◌≤◌}
use mathlib.Core.Path.{◌≡◌, refl, ap, ◌∙◌}
use mathlib.Core.Bool.{Bool, true, false, cond}
use mathlib.Core.List.{[], ◌∷◌, map}
use Rattle.meaning.specs.Lists.{keep}
use Rattle.types.specs.Limits.{SLOTS}
use Rattle.meaning.specs.Store.{Store, rec_at}
use Rattle.meaning.specs.Points.{covers, blockers, first_blocked, frozen, holder}
use Rattle.meaning.specs.Outcomes.{refuse, handle_at, judge}
use Rattle.types.specs.declared.Lock.{Lock}
use Rattle.meaning.proofs.Lists.{least_default}
use Rattle.blocking.specs.declared.Blocked.{Blocked}
use Rattle.blocking.specs.declared.Judgement.TheVariants.{Frozen, Held}
use Rattle.blocking.specs.Search.{judgement_at, judged}
use Rattle.calls.specs.Grants.{refusal_by, Small}

-- a slot that holds a point is one
module _ (s : Store) (r mode k : ℕ) where
  holder_small : (p : ℕ) → holder mode k (rec_at s r) p ≤ SLOTS
  unfolding holder
  holder_small p = least_default SLOTS (map (λ (l : Lock). l.owner) (keep (covers p) (blockers mode k (rec_at s r))))

  either_small : (t : Bool) (h : ℕ) → h ≤ SLOTS → Small (cond t Frozen (Held h))
  either_small true h l = tt
  either_small false h l = l

  pub by_small : (low high : ℕ) (b : Blocked) → b ≡ judged s r mode k low high → Small b.judgement
  unfolding judgement_at
  by_small low high b e =
      let p : ℕ = first_blocked mode k (rec_at s r) low high in
      rw e (either_small (frozen s r mode p) (holder mode k (rec_at s r) p) (holder_small p))

  -- the refusal is that of the point judged
  refusal_at : (p : ℕ) → refusal_by s (judgement_at s r mode k p) ≡ judge s r mode k p
  unfolding refusal_by judgement_at judge
  refusal_at p = go (frozen s r mode p)
    where
      go : (t : Bool) → refusal_by s (cond t Frozen (Held (holder mode k (rec_at s r) p)))
          ≡ cond t (refuse 9 []) (refuse 8 (handle_at s (holder mode k (rec_at s r) p) ∷ []))
      go true = refl
      go false = refl

  pub refusal_is : (low high : ℕ) (b : Blocked) → b ≡ judged s r mode k low high
      → refusal_by s b.judgement ≡ judge s r mode k (first_blocked mode k (rec_at s r) low high)
  refusal_is low high b e =
      ap (λ (y : Blocked). refusal_by s y.judgement) e
      ∙ refusal_at (first_blocked mode k (rec_at s r) low high)
