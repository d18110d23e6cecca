-- Where the words of rows and the head words lie: within the slice, and apart. Stores to them. Rests on specs.Table;
-- only here and in the proofs of `at` and `head_at` are products seen.
use Prim.Native.Nat.{ℕ, zero, suc, ◌+◌, ◌*◌, ◌-◌, ◌≤◌, ◌<◌}
use mathlib.Core.Path.{◌≡◌, refl, sym, ap}
use mathlib.Core.List.{List}
use native.Mathlib.Nat.{suc-mul, mul-le-mul_right, eq_of_mul-eq-mul_right}
use native.Mathlib.Omega.{arith}
use native.Mathlib.Decide.{dec_lt}
use lib.ListN.{length, get_or, set, length-set}
use lib.Seq.{get_or-set_same, get_or-set_other}
use Rattle.chains.specs.declared.Table.{Table}
use Rattle.chains.specs.declared.Heads.{Heads}
use Rattle.chains.specs.Walk.{IsRow}
use Rattle.chains.specs.Table.{place, field, link_cell, link, head_cell, head_of, after_cell, Lies, HeadsLie, Laid}

-- row i of width s ends within n rows
pub row_end : (i n s : ℕ) → 1 ≤ i → i ≤ n → (i - 1) * s + s ≤ n * s
row_end zero n s p q = omega arith
row_end (suc j) n s p q =
    let e : suc j - 1 ≡ j = omega arith in
    rw e (omega (arith, suc-mul j s, mul-le-mul_right s q))

-- Words of rows

pub place_lt : (t : Table) (w : List ℕ) (i o : ℕ) → Lies t w → IsRow t.count i → o < t.stride
    → place t i o < length w
unfolding place
place_lt t w i o l r k = omega (arith, row_end i t.count t.stride r.low r.high, l.inside)

apart : (i j s o v b : ℕ) → i < j → 1 ≤ i → o < s → b + (i - 1) * s + o ≡ b + (j - 1) * s + v → ⊥
apart i zero s o v b h p q e = omega arith
apart i (suc j) s o v b h p q e =
    let k : suc j - 1 ≡ j = omega arith in
    let e2 : b + (i - 1) * s + o ≡ b + j * s + v = rw k at e in
    omega (arith, row_end i j s p (omega arith))

-- words of two rows, or two words of a row, lie apart
pub place_ne : (t : Table) (i j o v : ℕ) → 1 ≤ i → 1 ≤ j → o < t.stride → v < t.stride → ((i ≡ j) × (o ≡ v) → ⊥)
    → place t i o ≡ place t j v → ⊥
unfolding place
place_ne t i j o v p q k l h e = go (dec_lt i j) (dec_lt j i)
  where
    go : Dec (i < j) → Dec (j < i) → ⊥
    go (yes a) b = apart i j t.stride o v t.base a p k e
    go (no a) (yes b) = apart j i t.stride v o t.base b q l (sym e)
    go (no a) (no b) =
        let d : i ≡ j = omega arith in
        let e2 : t.base + (j - 1) * t.stride + o ≡ t.base + (j - 1) * t.stride + v = rw d at e in
        h (d, omega arith)

pub base_le : (t : Table) (i o : ℕ) → t.base ≤ place t i o
unfolding place
base_le t i o = omega arith

-- a row's word after a store to a row's word
pub field_same : (t : Table) (w : List ℕ) (i o v : ℕ) → Lies t w → IsRow t.count i → o < t.stride
    → field t (set w (place t i o) v) i o ≡ v
unfolding field
field_same t w i o v l r k = get_or-set_same w (place t i o) v 0 (place_lt t w i o l r k)

pub field_other : (t : Table) (w : List ℕ) (i j o u v : ℕ) → 1 ≤ i → 1 ≤ j → o < t.stride → u < t.stride
    → ((j ≡ i) × (u ≡ o) → ⊥) → field t (set w (place t i o) v) j u ≡ field t w j u
unfolding field
field_other t w i j o u v p q k l h = get_or-set_other w (place t i o) (place t j u) v 0 (place_ne t j i u o q p l k h)

-- and after a store below the table
pub field_below : (t : Table) (w : List ℕ) (a j u v : ℕ) → a < t.base → field t (set w a v) j u ≡ field t w j u
unfolding field
field_below t w a j u v h = get_or-set_other w a (place t j u) v 0 (λ e. omega (arith, base_le t j u))

-- Head words

pub head_free : (h : Heads) → head_cell h 0 ≡ h.free
unfolding head_cell
head_free h = refl

pub head_later : (h : Heads) (k : ℕ) → 1 ≤ k → head_cell h k ≡ h.first + (k - 1) * h.step
unfolding head_cell
head_later h zero p = absurd (omega arith)
head_later h (suc k) p = let e : suc k - 1 ≡ k = omega arith in rw e

le_mul : (n s : ℕ) → 0 < s → n ≤ n * s
le_mul zero s p = omega arith
le_mul (suc n) s p = omega (arith, suc-mul n s, le_mul n s p)

-- there are no more owners than words
pub owners_le : {h : Heads} {w : List ℕ} → HeadsLie h w → h.owners ≤ length w
owners_le {h} l = omega (arith, l.heads_in, le_mul h.owners h.step l.step_pos)

-- Layouts

pub lies : {t : Table} {h : Heads} {w : List ℕ} → Laid t h w → Lies t w
lies l = record { inside = l.inside; within = l.within }

pub heads_lie : {t : Table} {h : Heads} {w : List ℕ} → Laid t h w → HeadsLie h w
heads_lie l = record {
  free_in = omega (arith, l.inside, l.free_first_lem, l.heads_before);
  heads_in = omega (arith, l.inside, l.heads_before);
  step_pos = l.step_pos;
}

pub laid_same : {t : Table} {h : Heads} {w : List ℕ} (u : List ℕ) → length u ≡ length w → Laid t h w → Laid t h u
laid_same {t} {h} {w} u e l = record {
  inside = rw e l.inside;
  within = l.within;
  free_first_lem = l.free_first_lem;
  heads_before = l.heads_before;
  step_pos = l.step_pos;
}

pub laid_set : {t : Table} {h : Heads} {w : List ℕ} (c v : ℕ) → Laid t h w → Laid t h (set w c v)
laid_set {t} {h} {w} c v l = laid_same (set w c v) (length-set w c v) l

-- head words lie below the table, and apart
module _ {t : Table} {h : Heads} {w : List ℕ} (l : Laid t h w) where
  pub head_below : (k : ℕ) → k ≤ h.owners → head_cell h k < t.base
  unfolding head_cell
  head_below zero q = omega (arith, l.free_first_lem, l.heads_before)
  head_below (suc k) q = omega (arith, l.heads_before, l.step_pos, suc-mul k h.step, mul-le-mul_right h.step q)

  pub head_ne : (j k : ℕ) → (j ≡ k → ⊥) → head_cell h j ≡ head_cell h k → ⊥
  unfolding head_cell
  head_ne zero zero d e = d refl
  head_ne zero (suc k) d e = omega (arith, l.free_first_lem)
  head_ne (suc j) zero d e = omega (arith, l.free_first_lem)
  head_ne (suc j) (suc k) d e = d (ap suc (eq_of_mul-eq-mul_right h.step l.step_pos j k (omega arith)))

  -- heads after a store to a head word, and to a row's word
  pub head_set : (k v : ℕ) → k ≤ h.owners → head_of h (set w (head_cell h k) v) k ≡ v
  unfolding head_of
  head_set k v q = get_or-set_same w (head_cell h k) v 0 (omega (arith, head_below k q, l.inside))

  pub head_set_other : (k v j : ℕ) → (j ≡ k → ⊥) → head_of h (set w (head_cell h k) v) j ≡ head_of h w j
  unfolding head_of
  head_set_other k v j d = get_or-set_other w (head_cell h k) (head_cell h j) v 0 (head_ne j k d)

  pub head_place : (i o v j : ℕ) → j ≤ h.owners → head_of h (set w (place t i o) v) j ≡ head_of h w j
  unfolding head_of
  head_place i o v j q =
      get_or-set_other w (place t i o) (head_cell h j) v 0 (λ e. omega (arith, head_below j q, base_le t i o))

  -- links after a store to a head word, and to a link word
  pub link_head : (k v i : ℕ) → k ≤ h.owners → link t (set w (head_cell h k) v) i ≡ link t w i
  link_head k v i q = field_below t w (head_cell h k) i t.off v (head_below k q)

  pub link_set : (i v : ℕ) → IsRow t.count i → link t (set w (link_cell t i) v) i ≡ v
  link_set i v r = field_same t w i t.off v (lies l) r l.within

  pub link_set_other : (i v j : ℕ) → 1 ≤ i → 1 ≤ j → (j ≡ i → ⊥) → link t (set w (link_cell t i) v) j ≡ link t w j
  link_set_other i v j p q d = field_other t w i j t.off t.off v p q l.within l.within (λ e. d e.0)

-- Places

pub after_start : (t : Table) (h : Heads) (a p : ℕ) → p ≡ 0 → after_cell t h a p ≡ head_cell h a
unfolding after_cell
after_start t h a zero e = refl
after_start t h a (suc p) e = absurd (omega arith)

pub after_row : (t : Table) (h : Heads) (a p : ℕ) → (p ≡ 0 → ⊥) → after_cell t h a p ≡ link_cell t p
unfolding after_cell
after_row t h a zero e = absurd (e refl)
after_row t h a (suc p) e = refl

pub after_head : (t : Table) (h : Heads) (w : List ℕ) (a p : ℕ) → p ≡ 0
    → get_or w (after_cell t h a p) 0 ≡ head_of h w a
unfolding head_of
after_head t h w a p e = ap (λ c. get_or w c 0) (after_start t h a p e)

pub after_link : (t : Table) (h : Heads) (w : List ℕ) (a p : ℕ) → (p ≡ 0 → ⊥)
    → get_or w (after_cell t h a p) 0 ≡ link t w p
unfolding field
after_link t h w a p e = ap (λ c. get_or w c 0) (after_row t h a p e)

-- stores to the word after place p of chain a
module _ {t : Table} {h : Heads} {w : List ℕ} (l : Laid t h w) where
  pub link_after : (a p v x : ℕ) → a ≤ h.owners → 1 ≤ x → (x ≡ p → ⊥)
      → link t (set w (after_cell t h a p) v) x ≡ link t w x
  unfolding after_cell
  link_after a zero v x ha q d = link_head l a v x ha
  link_after a (suc p) v x ha q d = link_set_other l (suc p) v x (omega arith) q d

  pub link_after_at : (a p v : ℕ) → (p ≡ 0 → ⊥) → p ≤ t.count → link t (set w (after_cell t h a p) v) p ≡ v
  unfolding after_cell
  link_after_at a zero v z q = absurd (z refl)
  link_after_at a (suc p) v z q = link_set l (suc p) v (record { low = omega arith; high = q })

  pub head_after : (a p v j : ℕ) → j ≤ h.owners → (j ≡ a → ⊥)
      → head_of h (set w (after_cell t h a p) v) j ≡ head_of h w j
  unfolding after_cell
  head_after a zero v j q d = head_set_other l a v j d
  head_after a (suc p) v j q d = head_place l (suc p) t.off v j q

  pub head_after_start : (a p v : ℕ) → a ≤ h.owners → p ≡ 0 → head_of h (set w (after_cell t h a p) v) a ≡ v
  unfolding after_cell
  head_after_start a zero v q z = head_set l a v q
  head_after_start a (suc p) v q z = absurd (omega arith)

  pub head_after_row : (a p v : ℕ) → a ≤ h.owners → (p ≡ 0 → ⊥)
      → head_of h (set w (after_cell t h a p) v) a ≡ head_of h w a
  unfolding after_cell
  head_after_row a zero v q z = absurd (z refl)
  head_after_row a (suc p) v q z = head_place l (suc p) t.off v a q

  pub after_kept : (a p v c : ℕ) → a ≤ h.owners → p ≤ t.count
      → ((k : ℕ) → k ≤ h.owners → c ≡ head_cell h k → ⊥) → ((i : ℕ) → IsRow t.count i → c ≡ link_cell t i → ⊥)
      → get_or (set w (after_cell t h a p) v) c 0 ≡ get_or w c 0
  unfolding after_cell
  after_kept a zero v c ha q f g = get_or-set_other w (head_cell h a) c v 0 (f a ha)
  after_kept a (suc p) v c ha q f g =
      get_or-set_other w (link_cell t (suc p)) c v 0 (g (suc p) (record { low = omega arith; high = q }))
