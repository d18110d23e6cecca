-- The loops of the partition check: marking one chain, in steps that may stop anywhere and be taken up again, and one
-- chain after the other within one budget of rows. Rests on Words.
use Prim.Native.Nat.{ℕ, zero, suc, ◌+◌, ◌-◌, ◌≤◌, ◌<◌}
use mathlib.Core.Path.{◌≡◌, refl, sym, ap, subst, ◌∙◌}
use mathlib.Core.Logic.{◌⊎◌, inl, inr}
use mathlib.Core.Bool.{Bool, true, false, cond, false≢true}
use mathlib.Core.List.{List, ◌∷◌}
use native.Mathlib.Omega.{arith}
use native.Mathlib.Numerals.{add-one}
use native.Mathlib.Decide.{ℕ_discrete}
use lib.ListN.{length, get_or, set, length-set, replicate, length-replicate}
use lib.Seq.{get_or-set_same, get_or-set_other}
use lib.Dec.{eqb}
use borrow.Author.Tests.{eq-eqb, ne_eqb}
use Rattle.std.specs.Prelude.{Option, None, Some}
use Rattle.chains.specs.declared.Table.{Table}
use Rattle.chains.specs.declared.Heads.{Heads}
use Rattle.chains.specs.declared.Cursor.{Cursor}
use Rattle.chains.specs.Lists.{occ, sum_to, all_to}
use Rattle.chains.specs.Cursor.{Met, Halted}
use Rattle.chains.specs.Walk.{more, rows, ends}
use Rattle.chains.specs.Table.{Laid, link, chain, ended, front, head_of, rows_of, ended_of}
use Rattle.chains.specs.Partition.{MARKS, on_chains, partition, Marks, mark, Clear, Unmarked, Marked}
use Rattle.chains.specs.Partition.{MarkedChain, CanCheck, Advanced, free_start, Begun}
use Rattle.chains.proofs.Bounded.{bool_false, all_suc, all_at, sum_front, sum_full}
use Rattle.chains.proofs.Occurs.{occ_nil, occ_same, occ_other, occ_here}
use Rattle.chains.proofs.Walks.{more_out, step, stop, rows_length}
use Rattle.chains.proofs.Segments.{seg_in, seg_rows, rows_seg}
use Rattle.chains.proofs.Chains.{row_once, lengths_of, lengths}
use Rattle.chains.proofs.Cells.{lies, heads_lie}
use Rattle.chains.proofs.Words.{partition_in, ended_seg, rep_of}

-- a new array has the same value everywhere
same : {A : Type 0} (d : A) (n i : ℕ) → get_or (replicate n d) i d ≡ d
same d zero i = refl
same d (suc n) zero = refl
same d (suc n) (suc i) = same d n i

pub zeros : (n i : ℕ) → ◌≡◌ {A = ℕ} (get_or (replicate n 0) i 0) 0
zeros = same 0

pub clear_new : (n : ℕ) → n ≡ MARKS → Clear (replicate n false)
clear_new n e = record { size = length-replicate n false ∙ e; clear = same false n }

-- a row counts once at most
mark_most : (m : List Bool) (i : ℕ) → mark m i ≤ 1
mark_most m i = go (get_or m i false)
  where
    go : (b : Bool) → cond b 1 0 ≤ 1
    go true = omega arith
    go false = omega arith

mark_set : (m : List Bool) (i : ℕ) → get_or m i false ≡ true → mark m i ≡ 1
mark_set m i e = rw e refl

mark_clear : (m : List Bool) (i : ℕ) → get_or m i false ≡ false → mark m i ≡ 0
mark_clear m i e = rw e refl

-- one row marked
mark_one : (m : List Bool) (x : ℕ) (xs : List ℕ) (i : ℕ) → x < length m → get_or m x false ≡ false
    → mark (set m x true) i + occ i xs ≡ mark m i + occ i (x ∷ xs)
mark_one m x xs i l z = go (ℕ_discrete i x)
  where
    go : Dec (i ≡ x) → mark (set m x true) i + occ i xs ≡ mark m i + occ i (x ∷ xs)
    go (yes p) =
        rw p
        (omega
        (arith, mark_set (set m x true) x (get_or-set_same m x true false l), mark_clear m x z, occ_same x xs))
    go (no p) =
        omega (arith, ap {B = ℕ} (λ b. cond b 1 0) (get_or-set_other m x i true false p), occ_other i x xs p)

-- a walk that marks: none of its steps, and one more
pub mark_start : (t : Table) (w : List ℕ) {m : List Bool} (s : Cursor) → Marks m → Advanced t w m s m s
mark_start t w s k = record { fuel = omega arith; marks = k; met = λ i. refl; end = refl; long = refl }

pub mark_again : {t : Table} {w : List ℕ} {m₀ : List Bool} {s₀ : Cursor} {m : List Bool} {s : Cursor} {x : ℕ} {r : Bool}
    → Advanced t w m₀ s₀ m s
    → t.count < MARKS → r ≡ more t.count s.left s.row → r ≡ true → get_or m s.row false ≡ false
    → x ≡ link t w s.row
    → Advanced t w m₀ s₀ (set m s.row true) (record { row = x; left = s.left - 1 })
unfolding front
mark_again {t} {w} {m₀} {s₀} {m} {s} {x} i b d e z q =
    let nx = link t w in
    let n = t.count in
    let f = s.left in
    let h = s.row in
    let o = more_out n f h d e in
    let y = step nx n f h d e in
    let l : h < length m = omega (arith, o.row.high, b, i.marks) in
    rw q (record {
      fuel = omega (arith, i.fuel);
      marks = length-set m h true ∙ i.marks;
      met =
          λ k. mark_one m h (rows nx n (f - 1) (nx h)) k l z ∙ ap (λ l. mark m k + occ k l) (sym y.row) ∙ i.met k;
      end = sym y.end ∙ i.end;
      long = omega (arith, o.fuel, ap length y.row, i.long);
    })

-- the same by a cursor's step
pub mark_met : {t : Table} {w : List ℕ} {m₀ : List Bool} {s₀ : Cursor} {m : List Bool} {s : Cursor}
    {i : ℕ} {s' : Cursor}
    → Advanced t w m₀ s₀ m s → t.count < MARKS → Met t w s i s' → get_or m i false ≡ false
    → Advanced t w m₀ s₀ (set m i true) s'
mark_met {t} {w} {m₀} {s₀} {m} {s} {i} {s'} v b k z =
    let left : s.left - 1 ≡ s'.left = omega (arith, k.counted) in
    let next : s'.row ≡ link t w s.row = k.next ∙ ap (link t w) k.at in
    let a = mark_again v b (sym k.goes_on) refl (ap (λ x. get_or m x false) (sym k.at) ∙ z) next in
    subst (λ f. Advanced t w m₀ s₀ (set m i true) (record { row = s'.row; left = f })) left
    (subst (λ x. Advanced t w m₀ s₀ (set m x true) (record { row = s'.row; left = s.left - 1 })) (sym k.at) a)

-- where it stops, the whole chain is judged
module _ (t : Table) (w : List ℕ) {m₀ : List Bool} {s₀ : Cursor} {m : List Bool} {s s' : Cursor}
    (v : Advanced t w m₀ s₀ m s) where
  -- a row is met for the second time
  pub mark_twice : {i : ℕ} → Met t w s i s' → get_or m i false ≡ true → Unmarked t w m₀ s₀.row s₀.left
  unfolding Unmarked front
  mark_twice {i} k z =
      let y = step (link t w) t.count s.left s.row (sym k.goes_on) refl in
      inr (
        s.row,
        omega (
          arith,
          v.met s.row,
          ap (occ s.row) y.row,
          occ_here s.row (rows (link t w) t.count (s.left - 1) (link t w s.row)),
          mark_set m s.row (ap (λ x. get_or m x false) (sym k.at) ∙ z),
        ),
      )

  module _ (k : Halted t w s s') where
    pub mark_broken : (s'.row ≡ 0 → ⊥) → Unmarked t w m₀ s₀.row s₀.left
    unfolding Unmarked
    mark_broken z =
        inl (sym v.end ∙ (stop (link t w) t.count s.left s.row (sym k.ends) refl).end
        ∙ ne_eqb s.row 0 (λ q. z (ap (λ (x : Cursor). x.row) k.stays ∙ q)))

    pub mark_end : s'.row ≡ 0 → Marked t w m₀ m s₀.row s₀.left s'.left
    unfolding front
    mark_end z =
        let y = stop (link t w) t.count s.left s.row (sym k.ends) refl in
        let left : s'.left ≡ s.left = ap (λ (x : Cursor). x.left) k.stays in
        record {
          ended_in = sym v.end ∙ y.end ∙ eq-eqb s.row 0 (sym (ap (λ (x : Cursor). x.row) k.stays) ∙ z);
          marks = v.marks;
          added = λ i. omega (arith, v.met i, ap (occ i) y.row, occ_nil i);
          room_left = omega (arith, left, v.long, v.fuel, ap length y.row);
        }

-- a walk taken up again where it stopped: the steps of both parts are steps of one walk, and what marking
-- the rest of the chain finds out is so of the whole
module _ {t : Table} {w : List ℕ} {m₀ : List Bool} {s₀ : Cursor} {m : List Bool} {s : Cursor}
    (i : Advanced t w m₀ s₀ m s) where
  pub mark_on : {m' : List Bool} {s' : Cursor} → Advanced t w m s m' s' → Advanced t w m₀ s₀ m' s'
  mark_on j = record {
    fuel = omega (arith, i.fuel, j.fuel);
    marks = j.marks;
    met = λ k. j.met k ∙ i.met k;
    end = j.end ∙ i.end;
    long = omega (arith, i.long, j.long);
  }

  pub rest_unmarked : Unmarked t w m s.row s.left → Unmarked t w m₀ s₀.row s₀.left
  unfolding Unmarked
  rest_unmarked u =
      elim u [
        | inl n ↦ inl (sym i.end ∙ n)
        | inr n ↦ inr (n.0, omega (arith, n.1, i.met n.0))
      ]

  pub rest_marked : {m' : List Bool} {left : ℕ} → Marked t w m m' s.row s.left left
      → Marked t w m₀ m' s₀.row s₀.left left
  rest_marked y =
      record {
        ended_in = sym i.end ∙ y.ended_in;
        marks = y.marks;
        added = λ k. y.added k ∙ i.met k;
        room_left = omega (arith, y.room_left, i.long);
      }

  pub mark_rest : (m' : List Bool) (r : Option ℕ) → MarkedChain t w m m' s.row s.left r
      → MarkedChain t w m₀ m' s₀.row s₀.left r
  mark_rest m' None u = rest_unmarked u
  mark_rest m' (Some left) y = rest_marked y

-- a table can be checked, and the walk of its free chain begins at the head
pub can_check : {t : Table} {h : Heads} {w : List ℕ} → Laid t h w → t.count < MARKS → CanCheck t h w
can_check l b = record { lies = lies l; heads_lie = heads_lie l; few = b }

pub begun : {t : Table} {h : Heads} {w : List ℕ} {m₀ : List Bool} {s₀ : Cursor} {m : List Bool} {s : Cursor}
    → s₀ ≡ free_start t h w
    → Clear m₀
    → Advanced t w m₀ s₀ m s → Begun t h w m s
begun {m₀ = m₀} e c i = record { before = m₀; clear = c; advanced = rw e at i }

-- the loop of `partition_from`: the chains before k end, and no row stands on them twice
pub record PartInv (t : Table) (h : Heads) (w : List ℕ) (m : List Bool) (room k : ℕ) : Type 0 where
  pub upto : k ≤ suc h.owners
  pub marks : Marks m
  pub met : (i : ℕ) → mark m i ≡ sum_to k (λ j. occ i (rows_of t h w j))
  pub ended_all : all_to k (ended_of t h w) ≡ true
  pub budget : room + sum_to k (λ j. length (rows_of t h w j)) ≡ t.count

pub part_start : (t : Table) (h : Heads) (w : List ℕ) {m : List Bool} → Clear m → PartInv t h w m t.count 0
unfolding sum_to all_to
part_start t h w {m} c = record {
  upto = omega arith;
  marks = c.size;
  met = λ i. mark_clear m i (c.clear i);
  ended_all = refl;
  budget = omega arith;
}

-- a chain that ends within the room is the whole chain
within : (t : Table) (w : List ℕ) (f x : ℕ) → f ≤ t.count → ends (link t w) t.count f x ≡ true
    → (chain t w x ≡ front t w f x) × (ended t w x ≡ true)
unfolding chain ended front
within t w f x l e =
    seg_rows (link t w) t.count (rows (link t w) t.count f x) t.count x (rows_seg (link t w) t.count f x e)
    (omega (arith, rows_length (link t w) t.count f x))

pub part_again : {t : Table} {h : Heads} {w : List ℕ} {m m' : List Bool} {room k x left : ℕ}
    → PartInv t h w m room k → k ≤ h.owners
    → x ≡ head_of h w k → Marked t w m m' x room left → PartInv t h w m' left (k + 1)
unfolding rows_of ended_of sum_to
part_again {t} {h} {w} {m} {m'} {room} {k} {x} i b p y =
    let a = within t w room x (omega (arith, i.budget)) y.ended_in in
    rw add-one (record {
      upto = omega arith;
      marks = y.marks;
      met = λ j. omega (arith, y.added j, i.met j, ap (occ j) a.0, ap (λ l. occ j (chain t w l)) p);
      ended_all = all_suc (ended_of t h w) k i.ended_all (ap (ended t w) (sym p) ∙ a.1);
      budget = omega (arith, i.budget, y.room_left, ap length a.0, ap (λ l. length (chain t w l)) p);
    })

-- a chain that cannot be marked
pub part_broken : {t : Table} {h : Heads} {w : List ℕ} {m : List Bool} {room k x : ℕ}
    → PartInv t h w m room k → k ≤ h.owners
    → x ≡ head_of h w k → Unmarked t w m x room → partition t h w ≡ false
unfolding Unmarked front
part_broken {t} {h} {w} {m} {room} {k} {x} i b p u = bool_false (partition t h w) (λ d. go d u)
  where
    go : partition t h w ≡ true
        → (ends (link t w) t.count room x ≡ false)
        ⊎ ((j : ℕ) × (2 ≤ mark m j + occ j (rows (link t w) t.count room x)))
        → ⊥
    go d u =
        let R = rep_of t h w d in
        let seg = R.segs k (omega arith) in
        let f : length (rows_of t h w k) ≤ room =
        omega
        (arith, i.budget, lengths R, sum_front (λ j. length (rows_of t h w j)) (suc h.owners) k (omega arith)) in
        let s = seg_rows (link t w) t.count (rows_of t h w k) room (head_of h w k) seg f in
        elim u [
          | inl n ↦ false≢true (sym n ∙ ap (ends (link t w) t.count room) p ∙ s.1)
          | inr n ↦
              (let o : occ n.0 (rows (link t w) t.count room x) ≡ occ n.0 (rows_of t h w k) =
              ap (occ n.0) (ap (rows (link t w) t.count room) p ∙ s.0) in
              let row =
              seg_in (link t w) t.count (rows_of t h w k) (head_of h w k) 0 n.0 seg
              (omega (arith, n.1, mark_most m n.0)) in
              omega (
                arith,
                n.1,
                i.met n.0,
                sum_front (λ j. occ n.0 (rows_of t h w j)) (suc h.owners) k (omega arith),
                row_once R n.0 row,
              ))
        ]

-- the free chain is the first, however far it was marked before
module _ {t : Table} {h : Heads} {w : List ℕ} {m : List Bool} {s : Cursor} (b : Begun t h w m s) where
  pub free_broken : Unmarked t w m s.row s.left → partition t h w ≡ false
  free_broken u = part_broken (part_start t h w b.clear) (omega arith) refl (rest_unmarked b.advanced u)

  pub free_marked : {m' : List Bool} {left : ℕ} → Marked t w m m' s.row s.left left → PartInv t h w m' left 1
  free_marked y = part_again (part_start t h w b.clear) (omega arith) refl (rest_marked b.advanced y)

-- all chains are marked: if the budget is spent, every row was met
module _ (t : Table) (h : Heads) (w : List ℕ) {m : List Bool} {room : ℕ} (i : PartInv t h w m room (suc h.owners)) where
  part_full : room ≡ 0 → partition t h w ≡ true
  unfolding on_chains
  part_full z =
      let ended : (k : ℕ) → k ≤ h.owners → ended_of t h w k ≡ true =
      λ k l. all_at (ended_of t h w) (suc h.owners) k i.ended_all (omega arith) in
      let sum =
      lengths_of t.count (suc h.owners) (link t w) (head_of h w) (rows_of t h w)
      (λ k l. ended_seg t h w k (ended k (omega arith))) in
      let full =
      sum_full (λ j. on_chains t h w (suc j)) t.count (λ j l. omega (arith, i.met (suc j), mark_most m (suc j)))
      (omega (arith, sum, i.budget)) in
      partition_in t h w (record {
        ended_all = ended;
        once = λ r row. let k : suc (r - 1) ≡ r = omega (arith, row.low) in
            rw k at (full (r - 1) (omega (arith, row.low, row.high)));
      })

  part_left : (room ≡ 0 → ⊥) → partition t h w ≡ false
  part_left z = bool_false (partition t h w) (λ d. z (omega (arith, i.budget, lengths (rep_of t h w d))))

pub part_end : {t : Table} {h : Heads} {w : List ℕ} {m : List Bool} {room k : ℕ} → PartInv t h w m room k → h.owners < k
    → eqb room 0 ≡ partition t h w
part_end {t} {h} {w} {m} {room} {k} i b =
    let e : k ≡ suc h.owners = omega (arith, i.upto) in
    let v = rw e at i in
    elim (ℕ_discrete room 0)
    [ yes z ↦ eq-eqb room 0 z ∙ sym (part_full t h w v z) | no z ↦ ne_eqb room 0 z ∙ sym (part_left t h w v z) ]
