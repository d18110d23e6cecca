-- The walk that raises the low ends of a record's settled locks: the chains stay, and row by row the low end becomes
-- that of the trimmed lock. In each, `m` is what the walk's step ensures. Rests on OneTable and Locks of `changes`, on
-- Frames and Stepping of `chains`.
use Prim.Native.Nat.{ℕ, suc, ◌+◌, ◌≤◌, ◌<◌}
use mathlib.Core.Path.{◌≡◌, refl, sym, ap, ◌∙◌}
use mathlib.Core.Bool.{Bool, true, false, cond}
use mathlib.Core.List.{List, [], ◌∷◌, ◌++◌, map, append-nil}
use native.Mathlib.Omega.{arith}
use native.Mathlib.Decide.{ℕ_discrete}
use lib.Dec.{eqb}
use lib.ListN.{set}
use Rattle.chains.specs.Lists.{occ, all_of}
use Rattle.chains.specs.declared.Cursor.{Cursor}
use Rattle.chains.specs.Walk.{IsRow}
use Rattle.chains.specs.Cursor.{ahead, start, Met, Halted}
use Rattle.chains.specs.Table.{place, field, link, chain, front, head_of, rows_of}
use Rattle.chains.specs.Change.{Same}
use Rattle.chains.proofs.Occurs.{occ_nil, occ_same, occ_other, occ_append, snoc}
use Rattle.chains.proofs.Stepping.{met_in, halted_in}
use Rattle.chains.proofs.Words.{on_chain, on_once, on_one}
use Rattle.chains.proofs.Cells.{field_same, field_other, head_place, lies}
use Rattle.chains.proofs.Frames.{OnlyTable, only_put, only_trans, same_chains}
use Rattle.chains.proofs.Entries.{entries_kept}
use Rattle.types.specs.Limits.{SETTLED}
use Rattle.meaning.specs.Store.{with_rec, with_locks, rec_at}
use Rattle.meaning.specs.Points.{is_owned, trimmed, cut}
use Rattle.types.specs.declared.Lock.{Lock}
use Rattle.types.specs.declared.Counts.{Counts}
use Rattle.tables.specs.Layout.{lock_table, lock_heads, Fits, LOCK, L_LOW, L_HIGH, L_MODE, L_RECORD, L_NEXT}
use Rattle.tables.specs.Decode.{lock_at, lock_rows, locks_of, decode_at}
use Rattle.tables.specs.Words.{Well, names_record}
use Rattle.tables.proofs.Places.{locks_laid}
use Rattle.changes.specs.Becomes.{Becomes}
use Rattle.changes.proofs.Parts.{all_same}
use Rattle.changes.proofs.OneTable.{locks_become, locks_fit}
use Rattle.changes.proofs.Locks.{locks_at}
use Rattle.changes.proofs.Lists.{map_map}

-- trimming changes the low end alone
trimmed_parts : (v : ℕ) (l : Lock)
    → trimmed v l ≡ record { low = (trimmed v l).low; high = l.high; mode = l.mode; owner = l.owner }
trimmed_parts v l = go (is_owned SETTLED l)
  where
    go : (b : Bool) → cond b (cut v l) l
        ≡ record {
          low = (cond b (cut v l)
              l).low;
          high = l.high;
          mode = l.mode;
          owner = l.owner;
        }
    go true = refl
    go false = refl

-- done are the rows passed
pub record Raises (c : Counts) (v : ℕ) (w₀ : List ℕ) (r : ℕ) (w : List ℕ) (s : Cursor) : Type 0 where
  pub well : Well c w₀
  pub within : r < c.records
  pub done : List ℕ
  pub split : rows_of (lock_table c) (lock_heads c) w₀ (suc r) ≡ done ++ ahead (lock_table c) w₀ s
  pub only : OnlyTable (lock_table c) (lock_heads c) w₀ w
  pub heads : (j : ℕ) → j ≤ c.records → head_of (lock_heads c) w j ≡ head_of (lock_heads c) w₀ j
  pub kept : (x o : ℕ) → IsRow c.locks x → o < LOCK → (o ≡ L_LOW → ⊥)
      → field (lock_table c) w x o ≡ field (lock_table c) w₀ x o
  pub later : (x : ℕ) → IsRow c.locks x → occ x done ≡ 0
      → field (lock_table c) w x L_LOW ≡ field (lock_table c) w₀ x L_LOW
  pub earlier : (x : ℕ) → 1 ≤ occ x done → field (lock_table c) w x L_LOW ≡ (trimmed v (lock_at c w₀ x)).low

pub raises_start : {c : Counts} {w : List ℕ} {r : ℕ} {s : Cursor} (v : ℕ) → Well c w → r < c.records
    → s ≡ start (lock_table c) (head_of (lock_heads c) w (suc r)) → Raises c v w r w s
unfolding rows_of chain front
raises_start {c} {w} v W l e = record {
  well = W;
  within = l;
  done = [];
  split = ap (ahead (lock_table c) w) (sym e);
  only = record { size = refl; kept = λ p f g. refl };
  heads = λ j q. refl;
  kept = λ x o q b n. refl;
  later = λ x q z. refl;
  earlier = λ x o. absurd (omega (arith, occ_nil x));
}

module _ {c : Counts} {v : ℕ} {w₀ : List ℕ} {r : ℕ} {w : List ℕ} {s : Cursor} (i : Raises c v w₀ r w s) where
  pub raises_fits : Fits c w
  raises_fits = locks_fit i.well.fits i.only

  -- the rows of record r's chain
  chain_row : (x : ℕ) → 1 ≤ occ x (rows_of (lock_table c) (lock_heads c) w₀ (suc r)) → IsRow c.locks x
  unfolding lock_table lock_heads
  chain_row x o = on_chain (lock_table c) (lock_heads c) w₀ i.well.locks_parted_lem (suc r) i.within x o

  module _ {s' : Cursor} {cur : ℕ} (m : Met (lock_table c) w s cur s') where
    row : IsRow c.locks cur
    unfolding lock_table
    row = m.row

    next : link (lock_table c) w cur ≡ link (lock_table c) w₀ cur
    unfolding lock_table
    next = i.kept cur L_NEXT row (omega arith) (λ z. omega arith)

    rest : List ℕ
    rest = ahead (lock_table c) w₀ s'

    parts : rows_of (lock_table c) (lock_heads c) w₀ (suc r) ≡ i.done ++ cur ∷ rest
    unfolding rest
    parts = i.split ∙ ap (λ y. i.done ++ y) (met_in w₀ m next).rest

    -- the row is not among those passed
    fresh : occ cur i.done ≡ 0
    unfolding lock_heads
    fresh =
        omega (
          arith,
          on_once (lock_table c) (lock_heads c) w₀ i.well.locks_parted_lem (suc r) i.within cur,
          ap (occ cur) parts ∙ occ_append cur i.done (cur ∷ rest),
          occ_same cur rest,
        )

    pub raises_entry : lock_at c w cur ≡ lock_at c w₀ cur
    unfolding lock_at
    raises_entry = rw (
      i.later cur row fresh,
      i.kept cur L_HIGH row (omega arith) (λ z. omega arith),
      i.kept cur L_MODE row (omega arith) (λ z. omega arith),
    ) refl

    passed : (x : ℕ) → occ x (i.done ++ (cur ∷ [])) ≡ occ x i.done + occ x (cur ∷ [])
    passed x = occ_append x i.done (cur ∷ [])

    module _ (u : ℕ) where
      after_other : (x o : ℕ) → 1 ≤ x → o < LOCK → ((x ≡ cur) × (o ≡ L_LOW) → ⊥)
          → field (lock_table c) (set w (place (lock_table c) cur L_LOW) u) x o ≡ field (lock_table c) w x o
      unfolding lock_table
      after_other x o p q n = field_other (lock_table c) w cur x L_LOW o u row.low p (omega arith) q n

      after_here : field (lock_table c) (set w (place (lock_table c) cur L_LOW) u) cur L_LOW ≡ u
      unfolding lock_table
      after_here = field_same (lock_table c) w cur L_LOW u (lies (locks_laid raises_fits)) row (omega arith)

      after_only : OnlyTable (lock_table c) (lock_heads c) w₀ (set w (place (lock_table c) cur L_LOW) u)
      unfolding lock_table
      after_only = only_trans i.only (only_put (lock_table c) (lock_heads c) w cur L_LOW u row (omega arith))

      after_heads : (j : ℕ) → j ≤ c.records
          → head_of (lock_heads c) (set w (place (lock_table c) cur L_LOW) u) j ≡ head_of (lock_heads c) w₀ j
      unfolding lock_heads
      after_heads j q = head_place (locks_laid raises_fits) cur L_LOW u j q ∙ i.heads j q

      after_later : (x : ℕ) → IsRow c.locks x → occ x (i.done ++ (cur ∷ [])) ≡ 0
          → field (lock_table c) (set w (place (lock_table c) cur L_LOW) u) x L_LOW ≡ field (lock_table c) w₀ x L_LOW
      after_later x q z =
          let n : x ≡ cur → ⊥ = λ y. omega (arith, passed x, ap (λ k. occ k (cur ∷ [])) y, occ_same cur []) in
          after_other x L_LOW q.low (omega arith) (λ y. n y.0) ∙ i.later x q (omega (arith, passed x))

      after_earlier : u ≡ (trimmed v (lock_at c w₀ cur)).low → (x : ℕ) → 1 ≤ occ x (i.done ++ (cur ∷ []))
          → field (lock_table c) (set w (place (lock_table c) cur L_LOW) u) x L_LOW ≡ (trimmed v (lock_at c w₀ x)).low
      after_earlier h x o = elim (ℕ_discrete x cur) [
        | yes z ↦ rw z (after_here ∙ h)
        | no z ↦ (let p : 1 ≤ occ x i.done = omega (arith, passed x, occ_other x cur [] z, occ_nil x) in
            let q = chain_row x (omega (arith, ap (occ x) parts ∙ occ_append x i.done (cur ∷ rest))) in
            after_other x L_LOW q.low (omega arith) (λ y. z y.0) ∙ i.earlier x p)
      ]

    pub raises_again : {w' : List ℕ}
        → w' ≡ set w (place (lock_table c) cur L_LOW) (trimmed v (lock_at c w cur)).low
        → Raises c v w₀ r w' s'
    unfolding rest
    raises_again ew =
        let u = (trimmed v (lock_at c w cur)).low in
        let h : u ≡ (trimmed v (lock_at c w₀ cur)).low = ap (λ l. (trimmed v l).low) raises_entry in
        rw ew (record {
          well = i.well;
          within = i.within;
          done = i.done ++ (cur ∷ []);
          split = parts ∙ snoc i.done cur rest;
          only = after_only u;
          heads = after_heads u;
          kept = λ x o q b n. after_other u x o q.low b (λ y. n y.1) ∙ i.kept x o q b n;
          later = after_later u;
          earlier = after_earlier u h;
        })

  -- the end of the chain
  module _ {s' : Cursor} (m : Halted (lock_table c) w s s') where
    all_passed : i.done ≡ rows_of (lock_table c) (lock_heads c) w₀ (suc r)
    all_passed = sym (i.split ∙ ap (λ y. i.done ++ y) (halted_in w₀ m).rest ∙ append-nil i.done)

    pub raises_same : Same (lock_table c) (lock_heads c) w₀ w
    unfolding lock_table lock_heads
    raises_same = same_chains (lock_table c) (lock_heads c) w₀ w
        (λ x q. i.kept x L_NEXT q (omega arith) (λ z. omega arith)) i.heads

    pub raises_here : (x : ℕ) → 1 ≤ occ x (rows_of (lock_table c) (lock_heads c) w₀ (suc r))
        → lock_at c w x ≡ trimmed v (lock_at c w₀ x)
    unfolding lock_at
    raises_here x o =
        let q = chain_row x o in
        rw (
          i.earlier x (rw all_passed o),
          i.kept x L_HIGH q (omega arith) (λ z. omega arith),
          i.kept x L_MODE q (omega arith) (λ z. omega arith),
        ) (sym (trimmed_parts v (lock_at c w₀ x)))

    there : (j : ℕ) → j < c.records → (j ≡ r → ⊥) → (x : ℕ)
        → 1 ≤ occ x (rows_of (lock_table c) (lock_heads c) w₀ (suc j)) → lock_at c w x ≡ lock_at c w₀ x
    unfolding lock_at lock_table lock_heads
    there j q n x o =
        let p = on_chain (lock_table c) (lock_heads c) w₀ i.well.locks_parted_lem (suc j) q x o in
        let z =
        on_one (lock_table c) (lock_heads c) w₀ i.well.locks_parted_lem (suc j) (suc r) q i.within
        (λ y. n (omega arith)) x o in
        rw (
          i.later x p (rw all_passed z),
          i.kept x L_HIGH p (omega arith) (λ z. omega arith),
          i.kept x L_MODE p (omega arith) (λ z. omega arith),
        ) refl

    named : (j : ℕ) → j < c.records → all_of (names_record c w j) (lock_rows c w j) ≡ true
    unfolding lock_rows lock_table lock_heads
    named j q = all_same (names_record c w j) (names_record c w₀ j) (lock_rows c w₀ j) (lock_rows c w j)
        (ap (map (names_record c w j)) (raises_same.rows_kept (suc j) q)
        ∙ entries_kept (names_record c w j) (names_record c w₀ j) (rows_of (lock_table c) (lock_heads c) w₀ (suc j))
        (λ x o. ap (λ y. eqb y j)
        (i.kept x L_RECORD (on_chain (lock_table c) (lock_heads c) w₀ i.well.locks_parted_lem (suc j) q x o)
        (omega arith) (λ z. omega arith))))
        (i.well.named j q)

    pub raise_lows_law : Becomes c w
        (with_rec (decode_at c w₀) r
        (with_locks (rec_at (decode_at c w₀) r) (map (trimmed v) (rec_at (decode_at c w₀) r).locks)))
    unfolding locks_of lock_rows lock_heads
    raise_lows_law = locks_become i.well i.only r i.within
        (raises_same.parted_kept ∙ i.well.locks_parted_lem) named
        (λ j q n. ap (map (lock_at c w)) (raises_same.rows_kept (suc j) q)
        ∙ entries_kept (lock_at c w) (lock_at c w₀) (rows_of (lock_table c) (lock_heads c) w₀ (suc j)) (there j q n))
        (ap (map (lock_at c w)) (raises_same.rows_kept (suc r) i.within)
        ∙ entries_kept (lock_at c w) (λ x. trimmed v (lock_at c w₀ x))
        (rows_of (lock_table c) (lock_heads c) w₀ (suc r)) raises_here
        ∙ sym (map_map (lock_at c w₀) (trimmed v) (rows_of (lock_table c) (lock_heads c) w₀ (suc r)))
        ∙ ap (map (trimmed v)) (sym (locks_at c w₀ r i.within)))
