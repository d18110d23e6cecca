-- The check of a table, as the code makes it: one step of its walk, and the walk's start. Rests on Parts.
use Prim.Native.Nat.{ℕ}
use mathlib.Core.Path.{◌≡◌, refl, ◌∙◌}
use mathlib.Core.Bool.{Bool, true, false}
use mathlib.Core.List.{List}
use lib.ListN.{get_or, set}
use Rattle.chains.specs.declared.Linked.{Linked}
use Rattle.chains.specs.declared.partition.Check.{Check}
use Rattle.chains.specs.Cursor.{Met}
use Rattle.chains.specs.Partition.{Marks, CanCheck, Begun}
use Rattle.chains.specs.Checked.{Starts, Advances, Steps}
use Rattle.chains.proofs.Parts.{mark_start, mark_met, mark_on, begun}

pub advances : (s : Check) → Marks s.marks → Advances s s
advances s k = record { stays = refl; advanced = mark_start _ _ _ k }

module _ {s₀ s : Check} (i : Advances s₀ s) where
  pub advances_on : {s' : Check} {moved : Bool} → Steps s s' moved → Advances s₀ s'
  advances_on j = record {
    stays = j.advances.stays ∙ i.stays;
    advanced = mark_on i.advanced (rw i.stays at j.advances.advanced);
  }

-- from its start on, a table can be checked, and its walk has begun
module _ {c : Linked} {w : List ℕ} {s₀ : Check} (i : Starts c w s₀) (k : CanCheck c.table c.heads w) where
  pub starts_begun : {s : Check} → Advances s₀ s
      → CanCheck s.of.table c.heads s.of.words.now × Begun s.of.table c.heads s.of.words.now s.marks s.walk
  starts_begun {s} a =
      rw (a.stays, i.table, i.words)
      (k, begun i.walk i.clear (rw (i.table, i.words) at a.advanced))

-- a step that marks row i
pub step_met : (s s' : Check) {i : ℕ} → Marks s.marks → Met s.of.table s.of.words.now s.walk i s'.walk
    → get_or s.marks i false ≡ false → s'.of ≡ s.of → s'.marks ≡ set s.marks i true → Steps s s' true
step_met s s' k m e o q = record {
  advances = record { stays = o; advanced = rw q (mark_met (mark_start _ _ _ k) s.few m e) };
  counted = m.counted;
}
