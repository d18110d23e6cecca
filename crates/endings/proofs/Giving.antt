-- Settling gives up as many lock rows as it leaves: on a record that it wrote a committed edit has a write lock, on one
-- that it read a read lock, and both go. Rests on LocksLeft and Settled of `meaning`.
use Prim.Native.Nat.{ℕ, ◌+◌, ◌≤◌}
use native.Mathlib.Omega.{arith}
use mathlib.Core.Path.{◌≡◌, refl}
use mathlib.Core.Bool.{Bool, true, false}
use mathlib.Core.List.{List}
use lib.ListN.{length}
use Rattle.types.specs.Limits.{COMMITTED}
use Rattle.types.specs.declared.Access.{Access}
use Rattle.types.specs.declared.Lock.{Lock}
use Rattle.meaning.specs.Lists.{keep}
use Rattle.meaning.specs.Store.{Edit, Store, edit_at, rec_at, access_of, has_read}
use Rattle.meaning.specs.Points.{is_write, drop_owner}
use Rattle.meaning.specs.SoundFacts.{SoundStore}
use Rattle.meaning.proofs.Tests.{read_out}
use Rattle.meaning.proofs.LocksLeft.{mine, mine_read, some_write, some_read, parts}
use Rattle.meaning.proofs.Settled.{write_own, read_own}
use Rattle.endings.specs.Steps.{mark, rows_left}
use Rattle.meaning.specs.Store.{has_written}

mark_few : (b : Bool) (n : ℕ) → (b ≡ true → 1 ≤ n) → mark b ≤ n
mark_few true n h = h refl
mark_few false n h = omega arith

module _ (s : Store) (k : ℕ) (good : SoundStore s) (st : (edit_at s k).state ≡ COMMITTED) (r : ℕ) where
  abbrev e : Edit
  e = edit_at s k

  abbrev a : Access
  a = access_of e r

  abbrev ls : List Lock
  ls = (rec_at s r).locks

  pub rows_given : rows_left a + length (drop_owner k ls) ≤ length ls
  rows_given =
      omega (
        arith,
        parts k e r ls,
        mark_few (has_written a) (length (keep is_write (mine k e r ls)))
            (λ q. some_write k e r ls (write_own s k good r st q)),
        mark_few (has_read a) (length (mine_read k e r ls))
            (λ q. let t = read_out a q in some_read k e r ls (read_own s k good r t.0 t.1)),
      )
