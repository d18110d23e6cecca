-- What trims leave: of versions those that are not below a point; of locks, whose low ends the same walk raises, those
-- that are not left empty. In each, `m` is what the walk's step ensures. Rests on Freed and Raises, on Freeing,
-- Versions, Locks, Lists, OneTable and OneWord of `changes`, and on Stepping and Turns of `chains`.
use Prim.Native.Nat.{ℕ, suc, ◌+◌, ◌<◌}
use mathlib.Core.Path.{◌≡◌, refl, sym, ap, ◌∙◌}
use mathlib.Core.Bool.{Bool, true, false, not}
use mathlib.Core.List.{List, map}
use native.Mathlib.Omega.{arith}
use lib.ListN.{set}
use lib.Dec.{leb, ltb}
use borrow.Author.Tests.{ltb-true, ltb-false, le-leb, lt-leb}
use Rattle.chains.specs.Lists.{drop_if}
use Rattle.chains.specs.declared.Cursor.{Cursor}
use Rattle.chains.specs.Cursor.{start, Met, Halted}
use Rattle.chains.specs.Table.{place, link, head_of, rows_of}
use Rattle.chains.specs.Change.{Ready, Follows, Unlinked}
use Rattle.chains.proofs.Cells.{field_other}
use Rattle.chains.proofs.Entries.{entries_kept}
use Rattle.chains.proofs.Frames.{only_elsewhere}
use Rattle.chains.proofs.Stepping.{met_in, halted_in}
use Rattle.chains.proofs.Turns.{turn_met}
use Rattle.types.specs.declared.Lock.{Lock}
use Rattle.types.specs.declared.Counts.{Counts}
use Rattle.meaning.specs.Lists.{keep}
use Rattle.meaning.specs.Store.{with_locks, rec_at}
use Rattle.meaning.specs.Points.{emptied, trimmed, trim_to}
use Rattle.tables.specs.Layout.{lock_table, lock_heads, version_table, version_heads, Fits, L_LOW, L_NEXT}
use Rattle.tables.specs.Decode.{lock_at, lock_rows, version_at, decode_at}
use Rattle.tables.specs.Words.{Well}
use Rattle.tables.proofs.Places.{locks_laid}
use Rattle.changes.specs.Freed.{FreedBy}
use Rattle.changes.proofs.Freeing.{Freeing, freeing_start, freeing_ready, freeing_hit, freeing_miss}
use Rattle.changes.proofs.Freeing.{freeing_put, freeing_end}
use Rattle.changes.proofs.OneTable.{locks_fit}
use Rattle.changes.proofs.Versions.{drop_versions_law}
use Rattle.changes.proofs.Locks.{lock_ready_back, lock_kept, locks_dropped, drop_locks_law}
use Rattle.changes.proofs.Lists.{drop_keep, map_map, occ_drop}
use Rattle.changes.proofs.OneWord.{then_rec}
use Rattle.trims.specs.Frees.{FreesVersions, FreesLocks}
use Rattle.trims.proofs.Freed.{frees_versions, frees_locks}
use Rattle.trims.proofs.Raises.{Raises, raises_start, raises_fits, raises_entry, raises_again}
use Rattle.trims.proofs.Raises.{raises_same, raises_here, raise_lows_law}

-- what is not below is at or above
not_below : (a b : ℕ) → leb a b ≡ not (ltb b a)
not_below a b = go (ltb b a) refl
  where
    go : (t : Bool) → ltb b a ≡ t → leb a b ≡ not (ltb b a)
    go true e = rw e (lt-leb a b (ltb-true b a e))
    go false e = rw e (le-leb a b (ltb-false b a e))

pub cut_versions_law : {c : Counts} {w w' : List ℕ} {r n : ℕ} (v : ℕ) → Well c w → r < c.records
    → FreedBy (λ i. ltb (version_at c w i).point v) (version_table c) (version_heads c) w w' (suc r) n
    → FreesVersions c w w' r (keep (λ x. leb v x.point)) n
cut_versions_law v W l f =
    frees_versions _ _ l f.lost
    (drop_versions_law W l (λ x. ltb x.point v) f.unlinked
    (drop_keep (λ x. ltb x.point v) _ (λ x. not_below v x.point) _))

-- The walk that trims a record's locks: rows left empty go, and of each row that is met the low end becomes that of the
-- trimmed lock. It frees rows as if begun in `base`, where those low ends are already raised
pub record Trims (c : Counts) (v : ℕ) (w₀ : List ℕ) (r : ℕ) (w : List ℕ) (place' : ℕ) (s : Cursor)
    (freed : ℕ) : Type 0 where
  pub base : List ℕ
  pub raises : Raises c v w₀ r base s
  pub frees : Freeing (lock_table c) (lock_heads c) (λ i. emptied v (lock_at c w₀ i)) base (suc r) w place' s freed

pub trims_start : {c : Counts} {w : List ℕ} {r : ℕ} {s : Cursor} (v : ℕ) → Well c w → r < c.records
    → s ≡ start (lock_table c) (head_of (lock_heads c) w (suc r)) → Trims c v w r w 0 s 0
trims_start {c} {w} v W l e = record {
  base = w;
  raises = raises_start v W l e;
  frees = freeing_start (λ i. emptied v (lock_at c w i)) (lock_ready_back W l) e;
}

module _ {c : Counts} {v : ℕ} {w₀ : List ℕ} {r : ℕ} {w : List ℕ} {place' : ℕ} {s : Cursor} {freed : ℕ}
    (i : Trims c v w₀ r w place' s freed) where
  pub trims_fits : Fits c w
  unfolding lock_table
  trims_fits = locks_fit (raises_fits i.raises) (only_elsewhere (omega arith) i.frees.turns.elsewhere)

  module _ {s' : Cursor} {cur : ℕ} (m : Met (lock_table c) w s cur s') where
    based : lock_at c w cur ≡ lock_at c i.base cur
    unfolding lock_table
    based = (lock_kept (raises_fits i.raises) i.frees.turns.elsewhere cur m.row).0

    entry : lock_at c w cur ≡ lock_at c w₀ cur
    entry = based ∙ raises_entry i.raises (turn_met i.frees.turns m)

    low : ℕ
    low = (trimmed v (lock_at c w cur)).low

    base₁ : List ℕ
    base₁ = set i.base (place (lock_table c) cur L_LOW) low

    raised : Raises c v w₀ r base₁ s'
    unfolding base₁ low
    raised = raises_again i.raises (turn_met i.frees.turns m)
        (ap (λ l. set i.base (place (lock_table c) cur L_LOW) (trimmed v l).low) based)

    -- the low end of the row is raised, here and in `base`
    module _ {w₁ : List ℕ} (e : w₁ ≡ set w (place (lock_table c) cur L_LOW) (trimmed v (lock_at c w cur)).low) where
      stored : Freeing (lock_table c) (lock_heads c) (λ i. emptied v (lock_at c w₀ i)) base₁ (suc r) w₁ place' s freed
      unfolding lock_table base₁ low
      stored = rw e (freeing_put i.frees (locks_laid (raises_fits i.raises)) cur L_LOW low m.row (omega arith)
          (λ z. omega arith))

      linked : link (lock_table c) w cur ≡ link (lock_table c) w₁ cur
      unfolding lock_table low
      linked = rw e (sym (field_other (lock_table c) w cur cur L_LOW L_NEXT low m.row.low m.row.low
          (omega arith) (omega arith) (λ z. omega (arith, z.1))))

      met₁ : Met (lock_table c) w₁ s cur s'
      met₁ = met_in w₁ m linked

      pub trims_ready : Ready (lock_table c) (lock_heads c) w₁ (suc r) 0
          × Follows (lock_table c) (lock_heads c) w₁ (suc r) place' cur
      trims_ready = freeing_ready stored met₁

      -- the row met was read as l: it goes where it is left empty, and stays otherwise
      module _ {l : Lock} (q : l ≡ lock_at c w cur) where
        tested : emptied v (lock_at c w₀ cur) ≡ emptied v l
        tested = ap (emptied v) (sym (q ∙ entry))

        pub trims_hit : {w₂ : List ℕ} → emptied v l ≡ true
            → Unlinked (lock_table c) (lock_heads c) w₁ w₂ (suc r) 0 place' cur
            → Trims c v w₀ r w₂ place' s' (freed + 1)
        trims_hit k u =
            record { base = base₁; raises = raised; frees = freeing_hit stored met₁ (tested ∙ k) u }

        pub trims_miss : emptied v l ≡ false → Trims c v w₀ r w₁ cur s' freed
        trims_miss k = record { base = base₁; raises = raised; frees = freeing_miss stored met₁ (tested ∙ k) }

  -- the end of the chain
  module _ {s' : Cursor} (m : Halted (lock_table c) w s s') where
    halted : Halted (lock_table c) i.base s s'
    halted = halted_in i.base m

    left_locks : map (lock_at c i.base) (drop_if (λ x. emptied v (lock_at c w₀ x))
        (rows_of (lock_table c) (lock_heads c) w₀ (suc r))) ≡ trim_to v (rec_at (decode_at c w₀) r).locks
    unfolding trim_to lock_rows
    left_locks =
        let test : ℕ → Bool = λ x. emptied v (lock_at c w₀ x) in
        let rs = rows_of (lock_table c) (lock_heads c) w₀ (suc r) in
        entries_kept (lock_at c i.base) (λ x. trimmed v (lock_at c w₀ x)) (drop_if test rs)
        (λ x o. raises_here i.raises halted x (omega (arith, occ_drop x test rs)))
        ∙ sym (map_map (lock_at c w₀) (trimmed v) (drop_if test rs))
        ∙ ap (map (trimmed v)) (locks_dropped c w₀ r i.raises.within (emptied v)
        ∙ drop_keep (emptied v) (λ l. not (emptied v l)) (λ l. refl) (rec_at (decode_at c w₀) r).locks)

    pub trim_locks_law : FreesLocks c w₀ w r (trim_to v) freed
    unfolding lock_rows lock_heads
    trim_locks_law =
        let f = freeing_end i.frees m in
        let raised = raise_lows_law i.raises halted in
        let l = i.raises.within in
        let s = (raises_same i.raises halted).rows_kept (suc r) l in
        let ls = trim_to v (rec_at (decode_at c w₀) r).locks in
        let dropped = drop_locks_law raised.well l (λ x. emptied v (lock_at c w₀ x)) f.unlinked {ls = ls}
        (rw s left_locks) in
        frees_locks w₀ r l (rw s at f.lost) (then_rec w₀ r
        (with_locks (rec_at (decode_at c w₀) r) (map (trimmed v) (rec_at (decode_at c w₀) r).locks))
        (λ y. with_locks y ls) l raised dropped)
