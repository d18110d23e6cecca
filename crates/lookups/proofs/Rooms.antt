-- Room left: every row is on exactly one chain, so the rows in use and the free ones make the table. Rests on the
-- partition laws of `chains` and on Rooms of `tables`.
use Prim.Native.Nat.{ℕ, ◌+◌, min}
use mathlib.Core.Path.{◌≡◌, refl, sym, ap, ◌∙◌}
use mathlib.Core.Logic.{◌⊎◌, inl, inr}
use mathlib.Core.Bool.{Bool, true, false}
use mathlib.Core.List.{List}
use native.Mathlib.Omega.{arith}
use lib.Dec.{leb, ltb, eqb}
use lib.ListN.{length, take, length-take}
use borrow.Author.Tests.{le-leb, lt-leb, ltb-true, ltb-false, eqb-true, eqb-false}
use Rattle.chains.specs.declared.Table.{Table}
use Rattle.chains.specs.declared.Heads.{Heads}
use Rattle.std.specs.Prelude.{Option, is_some}
use Rattle.chains.specs.Table.{rows_of}
use Rattle.chains.specs.Partition.{partition, used}
use Rattle.chains.proofs.Rooms.{free_used}
use Rattle.meaning.specs.Store.{versions_used, locks_used, accesses_used, written_of}
use Rattle.meaning.specs.Outcomes.{lock_room, access_room, version_room}
use Rattle.types.specs.declared.Counts.{Counts}
use Rattle.meaning.proofs.Lists.{test}
use Rattle.tables.specs.Layout.{lock_table, lock_heads, version_table, version_heads, access_table, access_heads}
use Rattle.tables.specs.Decode.{slot_at, decode_at, AccessRow}
use Rattle.tables.proofs.Decoded.{edit_at_lem}
use Rattle.tables.proofs.Rooms.{versions_used_lem, locks_used_lem, accesses_used_lem}
use Rattle.lookups.proofs.Found.{access_named}
use Rattle.chains.specs.Walk.{IsRow}

-- rows in use and free rows: most rows can be taken off the free chain exactly if so many are not in use
pub enough_free : (t : Table) (h : Heads) (w : List ℕ) → partition t h w ≡ true → (most : ℕ) {n : ℕ}
    → n ≡ length (take most (rows_of t h w 0)) → eqb n most ≡ leb (used t h w + most) t.count
enough_free t h w p most {n} e = go (test (eqb n most))
  where
    size : n ≡ min most (length (rows_of t h w 0))
    size = e ∙ length-take most (rows_of t h w 0)

    go : (eqb n most ≡ true) ⊎ (eqb n most ≡ false) → eqb n most ≡ leb (used t h w + most) t.count
    go (inl z) =
        z ∙ sym (le-leb (used t h w + most) t.count (omega (arith, size, free_used t h w p, eqb-true n most z)))
    go (inr z) =
        z ∙ sym (lt-leb (used t h w + most) t.count (omega (arith, size, free_used t h w p, eqb-false n most z)))

-- the rows in use of the decoded store, counted
module _ (c : Counts) (w : List ℕ) where
  less_one : (a b : ℕ) → leb (a + 1) b ≡ ltb a b
  less_one a b = go (test (ltb a b))
    where
      go : (ltb a b ≡ true) ⊎ (ltb a b ≡ false) → leb (a + 1) b ≡ ltb a b
      go (inl e) = le-leb (a + 1) b (omega (arith, ltb-true a b e)) ∙ sym e
      go (inr e) = lt-leb (a + 1) b (omega (arith, ltb-false a b e)) ∙ sym e

  lock_sized : ltb (used (lock_table c) (lock_heads c) w) (lock_table c).count
      ≡ ltb (locks_used (decode_at c w)) (decode_at c w).lock_rows
  unfolding lock_table decode_at
  lock_sized = ap (λ n. ltb n c.locks) (sym (locks_used_lem c w))

  pub lock_room_is : {q : Bool} → q ≡ leb (used (lock_table c) (lock_heads c) w + 1) (lock_table c).count
      → q ≡ lock_room (decode_at c w)
  unfolding lock_room
  lock_room_is d = d ∙ less_one (used (lock_table c) (lock_heads c) w) (lock_table c).count ∙ lock_sized

  version_sized : (m : ℕ)
      → leb (used (version_table c) (version_heads c) w + m) (version_table c).count
      ≡ leb (versions_used (decode_at c w) + m) (decode_at c w).version_rows
  unfolding version_table decode_at
  version_sized m = ap (λ n. leb (n + m) c.versions) (sym (versions_used_lem c w))

  pub version_room_is : {q : Bool} {m : ℕ} (k : ℕ) → IsRow c.edits k → m ≡ length (written_of (slot_at c w k))
      → q ≡ leb (used (version_table c) (version_heads c) w + m) (version_table c).count
      → q ≡ version_room (decode_at c w) k
  unfolding version_room
  version_room_is {q} {m} k l e d = d ∙ version_sized m ∙ rw (edit_at_lem c w k l, ← e) refl

  -- i is the row of slot k's access of record r
  access_sized : leb (used (access_table c) (access_heads c) w + 1) (access_table c).count
      ≡ ltb (accesses_used (decode_at c w)) (decode_at c w).access_rows
  unfolding access_table decode_at
  access_sized =
      less_one (used (access_table c) (access_heads c) w) c.accesses
      ∙ ap (λ n. ltb n c.accesses) (sym (accesses_used_lem c w))

  module _ (k r : ℕ) (l : IsRow c.edits k) {i : Option ℕ} (d : AccessRow c w k r i) where
    pub access_room_named : is_some i ≡ true → true ≡ access_room (decode_at c w) k r
    unfolding access_room
    access_room_named n = rw (edit_at_lem c w k l, access_named c w k r d, n) refl

    pub access_room_is : {q : Bool} → is_some i ≡ false
        → q ≡ leb (used (access_table c) (access_heads c) w + 1) (access_table c).count
        → q ≡ access_room (decode_at c w) k r
    unfolding access_room
    access_room_is z e = rw (edit_at_lem c w k l, access_named c w k r d, z) (e ∙ access_sized)
