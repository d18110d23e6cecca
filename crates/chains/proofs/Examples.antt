-- The definitions on small words, computed: three rows of two words from word 3 on, the second word the link; the heads
-- of the free chain and of two owners are words 0 to 2. Rests on nothing.
use Prim.Native.Nat.{ℕ}
use mathlib.Core.Path.{◌≡◌, refl}
use mathlib.Core.Bool.{true, false}
use mathlib.Core.List.{List, [], ◌∷◌}
use Rattle.chains.specs.declared.Table.{Table}
use Rattle.chains.specs.declared.Heads.{Heads}
use Rattle.chains.specs.Lists.{occ, sum_to, all_to}
use Rattle.chains.specs.Walk.{among, rows, ends}
use Rattle.chains.specs.Table.{place, field, chain, ended, head_cell, head_of, rows_of, ended_of}
use Rattle.chains.specs.Partition.{on_chains, partition}

abbrev table : Table
table = record { base = 3; stride = 2; off = 1; count = 3 }

abbrev heads : Heads
heads = record { free = 0; first = 1; step = 1; owners = 2 }

-- the free chain is 1, 3 and the first owner's 2
abbrev good : List ℕ
good = 1 ∷ 2 ∷ 0 ∷ 10 ∷ 3 ∷ 20 ∷ 0 ∷ 30 ∷ 0 ∷ []

free_rows : rows_of table heads good 0 ≡ 1 ∷ 3 ∷ []
unfolding rows_of chain head_of head_cell rows among field place
free_rows = refl

good_parted : partition table heads good ≡ true
unfolding partition on_chains all_to sum_to occ ended_of ended ends rows_of chain head_of head_cell
    rows among field place
good_parted = refl

-- the free chain is circular
circular : partition table heads (1 ∷ 2 ∷ 0 ∷ 10 ∷ 3 ∷ 20 ∷ 0 ∷ 30 ∷ 1 ∷ []) ≡ false
unfolding partition on_chains all_to sum_to occ ended_of ended ends rows_of chain head_of head_cell
    rows among field place
circular = refl

-- row 3 is on two chains
twice : partition table heads (1 ∷ 2 ∷ 3 ∷ 10 ∷ 3 ∷ 20 ∷ 0 ∷ 30 ∷ 0 ∷ []) ≡ false
unfolding partition on_chains all_to sum_to occ ended_of ended ends rows_of chain head_of head_cell
    rows among field place
twice = refl

-- row 1 is on no chain
missing : partition table heads (3 ∷ 2 ∷ 0 ∷ 10 ∷ 3 ∷ 20 ∷ 0 ∷ 30 ∷ 0 ∷ []) ≡ false
unfolding partition on_chains all_to sum_to occ ended_of ended ends rows_of chain head_of head_cell
    rows among field place
missing = refl
