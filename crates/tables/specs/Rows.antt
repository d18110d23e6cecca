-- The tables of the five parts lie in words of their counts, and the heads of their chains before them. Rests on
-- Layout.
use Rattle.std.specs.Prelude.{List, ℕ}
use native.Mathlib.Omega.{arith}
use Rattle.chains.specs.Table.{Lies, Laid}
use Rattle.types.specs.declared.Counts.{Counts}
use Rattle.tables.specs.Layout.{slot_base, version_base, lock_base, access_base, size_of}
use Rattle.tables.specs.Layout.{record_table, slot_table, version_table, lock_table, access_table, Fits}
use Rattle.tables.specs.Layout.{version_heads, lock_heads, access_heads}

module _ (c : Counts) (w : List ℕ) (f : Fits c w) where
  pub records_lie : Lies (record_table c) w
  unfolding record_table size_of
  records_lie = record { inside = omega (arith, f.size); within = omega arith }

  pub slots_lie : Lies (slot_table c) w
  unfolding slot_table slot_base size_of
  slots_lie = record { inside = omega (arith, f.size); within = omega arith }

  pub versions_lie : Lies (version_table c) w
  unfolding version_table version_base size_of
  versions_lie = record { inside = omega (arith, f.size); within = omega arith }

  pub locks_lie : Lies (lock_table c) w
  unfolding lock_table lock_base size_of
  locks_lie = record { inside = omega (arith, f.size); within = omega arith }

  pub accesses_lie : Lies (access_table c) w
  unfolding access_table access_base size_of
  accesses_lie = record { inside = omega (arith, f.size); within = omega arith }

  pub versions_laid : Laid (version_table c) (version_heads c) w
  unfolding version_table version_heads version_base size_of
  versions_laid =
      record {
        inside = omega (arith, f.size);
        within = omega arith;
        free_first_lem = omega arith;
        heads_before = omega arith;
        step_pos = omega arith;
      }

  pub locks_laid : Laid (lock_table c) (lock_heads c) w
  unfolding lock_table lock_heads lock_base size_of
  locks_laid =
      record {
        inside = omega (arith, f.size);
        within = omega arith;
        free_first_lem = omega arith;
        heads_before = omega (arith, f.ranged.edits_low);
        step_pos = omega arith;
      }

  pub accesses_laid : Laid (access_table c) (access_heads c) w
  unfolding access_table access_heads access_base slot_base size_of
  accesses_laid =
      record {
        inside = omega (arith, f.size);
        within = omega arith;
        free_first_lem = omega arith;
        heads_before = omega (arith, f.ranged.versions_low);
        step_pos = omega arith;
      }
