-- `calls::judge` meets its contract: a frozen point, or one held by a slot. Rests on Acting.
use mathlib.Core.Path.{refl, ap}
use mathlib.Core.List.{[], ◌∷◌}
use Rattle.meaning.specs.Outcomes.{refuse}
use Rattle.calls.specs.Grants.{refusal_by}
use Rattle.calls.proofs.Acting.{generation_fits}
use Rattle.calls.proofs.judge.Goals as goal

pub returns-in-Frozen : goal.returns-in-Frozen
unfolding refusal_by
returns-in-Frozen c = rw c.in-Frozen.is refl

pub handle_at-requires : goal.handle_at-requires
handle_at-requires c = (rw c.in-Held.is at c.requires.1, generation_fits _ _ c.requires.0 _)

pub returns-in-Held : goal.returns-in-Held
unfolding refusal_by
returns-in-Held c = rw c.in-Held.is (ap (λ h. refuse 8 (h ∷ [])) c.handle_at.ensures)
