-- A table that is checked: how its check starts, and what a step of its walk does. Rests on Partition.
use Rattle.std.specs.Prelude.{ℕ, ◌+◌, ◌≡◌, Bool, cond, List}
use Rattle.chains.specs.declared.Linked.{Linked}
use Rattle.chains.specs.declared.partition.Check.{Check}
use Rattle.chains.specs.Partition.{Clear, Advanced, free_start}

-- no row is marked, and the walk stands at the free chain's head
pub record Starts (c : Linked) (w : List ℕ) (s : Check) : Type 0 where
  pub table : s.of.table ≡ c.table
  pub words : s.of.words.now ≡ w
  pub walk : s.walk ≡ free_start c.table c.heads w
  pub clear : Clear s.marks

-- some steps of the walk were made, or none
pub record Advances (s s' : Check) : Type 0 where
  pub stays : s'.of ≡ s.of
  pub advanced : Advanced s.of.table s.of.words.now s.marks s.walk s'.marks s'.walk

-- one step was made, or none
pub record Steps (s s' : Check) (moved : Bool) : Type 0 where
  pub advances : Advances s s'
  pub counted : s'.walk.left + cond moved 1 0 ≡ s.walk.left
