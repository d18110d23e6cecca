-- The marks of lock rows: what the marking loops compute, and that in the end a row of record r is marked exactly if
-- its owner wrote the record. Rests on Walk and Words of `chains`.
use Prim.Native.Nat.{ℕ, zero, suc, ◌≤◌, ◌<◌}
use mathlib.Core.Path.{◌≡◌, refl, sym, ap, ◌∙◌}
use mathlib.Core.Logic.{◌⊎◌, inl, inr}
use mathlib.Core.Bool.{Bool, true, false, cond, not, ◌&&◌, ◌||◌, false≢true}
use mathlib.Core.List.{List, [], ◌∷◌}
use native.Mathlib.Omega.{arith}
use native.Mathlib.Decide.{ℕ_discrete}
use lib.ListN.{length, get_or, set, length-set}
use lib.Seq.{get_or-set_same, get_or-set_other}
use lib.Dec.{ltb, eqb}
use borrow.Author.Tests.{eq-eqb, ne_eqb, eqb-true, eqb-false, ltb-true, lt-ltb, not-true}
use Rattle.chains.specs.Lists.{occ}
use Rattle.chains.specs.Walk.{IsRow}
use Rattle.chains.specs.Partition.{Marks, partition}
use Rattle.chains.proofs.Occurs.{occ_nil, occ_other, occ_here}
use Rattle.chains.proofs.Words.{on_chain, on_one}
use Rattle.types.specs.Limits.{MAX_ROWS}
use Rattle.meaning.specs.Lists.{any, all, find, pairwise}
use Rattle.meaning.specs.Store.{is_of, no_access, access_of}
use Rattle.meaning.specs.Points.{is_owned}
use Rattle.meaning.specs.Sound.{names_once}
use Rattle.types.specs.declared.Access.{Access}
use Rattle.types.specs.declared.Counts.{Counts}
use Rattle.meaning.proofs.Lists.{test, and_left, and_right}
use Rattle.tables.specs.Layout.{lock_table, lock_heads}
use Rattle.tables.specs.Decode.{lock_at, slot_at, lock_rows}
use Rattle.clauses.specs.Marks.{own_mark, mark_own, mark_access, mark_accesses, mark_slots, Writers}
use Rattle.meaning.specs.Store.{has_written}

module _ (c : Counts) (w : List ℕ) where
  -- lengths
  pub own_size : (k : ℕ) (m : List Bool) (rs : List ℕ) → length (mark_own c w k m rs) ≡ length m
  unfolding mark_own
  own_size k m [] = refl
  own_size k m (i ∷ rs) = own_size k (set m i (own_mark c w k (get_or m i false) i)) rs ∙ length-set m i _

  pub access_size : (k : ℕ) (m : List Bool) (a : Access) → length (mark_access c w k m a) ≡ length m
  unfolding mark_access
  access_size k m a = go ((has_written a) && ltb a.rec c.records)
    where
      go : (b : Bool) → length (cond b (mark_own c w k m (lock_rows c w a.rec)) m) ≡ length m
      go true = own_size k m (lock_rows c w a.rec)
      go false = refl

  pub accesses_size : (k : ℕ) (m : List Bool) (xs : List Access) → length (mark_accesses c w k m xs) ≡ length m
  unfolding mark_accesses
  accesses_size k m [] = refl
  accesses_size k m (a ∷ xs) = accesses_size k (mark_access c w k m a) xs ∙ access_size k m a

  pub slots_size : (m : List Bool) (n : ℕ) → length (mark_slots c w m n) ≡ length m
  unfolding mark_slots
  slots_size m zero = refl
  slots_size m (suc k) = accesses_size (suc k) (mark_slots c w m k) (slot_at c w (suc k)).accesses ∙ slots_size m k

  -- one row
  own_same : (k : ℕ) (m : List Bool) (i : ℕ) → i < length m
      → get_or (set m i (own_mark c w k (get_or m i false) i)) i false ≡ own_mark c w k (get_or m i false) i
  own_same k m i l = get_or-set_same m i (own_mark c w k (get_or m i false) i) false l

  own_not : (k : ℕ) (m : List Bool) (rs : List ℕ) (i : ℕ) → i < length m → is_owned k (lock_at c w i) ≡ false
      → get_or (mark_own c w k m rs) i false ≡ get_or m i false
  unfolding mark_own
  own_not k m [] i l e = refl
  own_not k m (j ∷ rs) i l e =
      own_not k (set m j (own_mark c w k (get_or m j false) j)) rs i
      (omega (arith, length-set m j (own_mark c w k (get_or m j false) j))) e
      ∙ go (ℕ_discrete i j)
    where
      go : Dec (i ≡ j) → get_or (set m j (own_mark c w k (get_or m j false) j)) i false ≡ get_or m i false
      go (yes p) = ap (λ x. get_or (set m x (own_mark c w k (get_or m x false) x)) i false) (sym p)
          ∙ own_same k m i l ∙ rw e refl
      go (no p) = get_or-set_other m j i (own_mark c w k (get_or m j false) j) false p

  -- a marked row stays marked
  own_keeps : (k : ℕ) (m : List Bool) (rs : List ℕ) (i : ℕ) → i < length m → get_or m i false ≡ true
      → get_or (mark_own c w k m rs) i false ≡ true
  unfolding mark_own
  own_keeps k m [] i l e = e
  own_keeps k m (j ∷ rs) i l e =
      own_keeps k (set m j (own_mark c w k (get_or m j false) j)) rs i
      (omega (arith, length-set m j (own_mark c w k (get_or m j false) j))) (go (ℕ_discrete i j))
    where
      one : (b : Bool) → (b || get_or m i false) ≡ true
      one true = refl
      one false = e

      go : Dec (i ≡ j) → get_or (set m j (own_mark c w k (get_or m j false) j)) i false ≡ true
      go (yes p) =
          ap (λ x. get_or (set m x (own_mark c w k (get_or m x false) x)) i false) (sym p) ∙ own_same k m i l
          ∙ one (is_owned k (lock_at c w i))
      go (no p) = get_or-set_other m j i (own_mark c w k (get_or m j false) j) false p ∙ e

  own_absent : (k : ℕ) (m : List Bool) (rs : List ℕ) (i : ℕ) → occ i rs ≡ 0
      → get_or (mark_own c w k m rs) i false ≡ get_or m i false
  unfolding mark_own
  own_absent k m [] i o = refl
  own_absent k m (j ∷ rs) i o =
      let d : i ≡ j → ⊥ = λ p. omega (arith, ap (λ x. occ x (j ∷ rs)) p, occ_here j rs) in
      own_absent k (set m j (own_mark c w k (get_or m j false) j)) rs i (sym (occ_other i j rs d) ∙ o)
      ∙ get_or-set_other m j i (own_mark c w k (get_or m j false) j) false d

  own_hit : (k : ℕ) (m : List Bool) (rs : List ℕ) (i : ℕ) → i < length m → is_owned k (lock_at c w i) ≡ true
      → 1 ≤ occ i rs
      → get_or (mark_own c w k m rs) i false ≡ true
  unfolding mark_own
  own_hit k m [] i l e o = absurd (omega (arith, occ_nil i))
  own_hit k m (j ∷ rs) i l e o = go (ℕ_discrete i j)
      (own_hit k (set m j (own_mark c w k (get_or m j false) j)) rs i size e)
    where
      size : i < length (set m j (own_mark c w k (get_or m j false) j))
      size = omega (arith, length-set m j (own_mark c w k (get_or m j false) j))

      go : Dec (i ≡ j) → (1 ≤ occ i rs → get_or (mark_own c w k (set m j (own_mark c w k (get_or m j false) j)) rs)
          i false ≡ true)
          → get_or (mark_own c w k (set m j (own_mark c w k (get_or m j false) j)) rs) i false ≡ true
      go (yes p) ih =
          own_keeps k (set m j (own_mark c w k (get_or m j false) j)) rs i size
          (ap (λ x. get_or (set m x (own_mark c w k (get_or m x false) x)) i false) (sym p)
          ∙ own_same k m i l ∙ rw e refl)
      go (no p) ih = ih (omega (arith, occ_other i j rs p))

-- does an access of the list say that record r was written
abbrev says_written : ℕ → List Access → Bool
says_written r xs = any (λ a. is_of r a && has_written a) xs

-- row i stands on record r's chain
module _ (c : Counts) (w : List ℕ) (d : partition (lock_table c) (lock_heads c) w ≡ true) (r i : ℕ) (lr : r < c.records)
    (on : 1 ≤ occ i (lock_rows c w r)) where
  elsewhere : (s : ℕ) → s < c.records → (s ≡ r → ⊥) → occ i (lock_rows c w s) ≡ 0
  unfolding lock_rows lock_heads
  elsewhere s l e =
      on_one (lock_table c) (lock_heads c) w d (suc r) (suc s) (omega arith) (omega arith) (λ z. e (omega arith)) i on

  module _ (k : ℕ) where
    other_owner : (m : List Bool) (xs : List Access) → i < length m → is_owned k (lock_at c w i) ≡ false
        → get_or (mark_accesses c w k m xs) i false ≡ get_or m i false
    unfolding mark_accesses mark_access
    other_owner m [] l e = refl
    other_owner m (a ∷ xs) l e =
        other_owner (mark_access c w k m a) xs (omega (arith, access_size c w k m a)) e
        ∙ go ((has_written a) && ltb a.rec c.records)
      where
        go : (b : Bool) → get_or (cond b (mark_own c w k m (lock_rows c w a.rec)) m) i false ≡ get_or m i false
        go true = own_not c w k m (lock_rows c w a.rec) i l e
        go false = refl

    module _ (e : is_owned k (lock_at c w i) ≡ true) where
      -- one access
      one_says : (m : List Bool) (a : Access) → i < length m → (is_of r a && has_written a) ≡ true
          → get_or (mark_access c w k m a) i false ≡ true
      unfolding mark_access
      one_says m a l h =
          let q = eqb-true a.rec r (and_left (is_of r a) (has_written a) h) in
          rw (and_right (is_of r a) (has_written a) h, lt-ltb a.rec c.records (omega arith))
          (own_hit c w k m (lock_rows c w a.rec) i l e (rw q on))

      one_silent : (m : List Bool) (a : Access) → (is_of r a && has_written a) ≡ false
          → get_or (mark_access c w k m a) i false ≡ get_or m i false
      unfolding mark_access
      one_silent m a h = go (test (has_written a)) (test (ltb a.rec c.records))
        where
          go : (has_written a ≡ true) ⊎ (has_written a ≡ false)
              → (ltb a.rec c.records ≡ true) ⊎ (ltb a.rec c.records ≡ false)
              → get_or (cond ((has_written a) && ltb a.rec c.records) (mark_own c w k m (lock_rows c w a.rec)) m)
              i false
              ≡ get_or m i false
          go (inr p) q = rw p refl
          go (inl p) (inr q) = rw (p, q) refl
          go (inl p) (inl q) =
              rw (p, q)
              (own_absent c w k m (lock_rows c w a.rec) i
              (elsewhere a.rec (ltb-true a.rec c.records q)
              (λ z. false≢true (sym h ∙ rw (eq-eqb a.rec r z, p) refl))))

      keeps : (m : List Bool) (xs : List Access) → i < length m → get_or m i false ≡ true
          → get_or (mark_accesses c w k m xs) i false ≡ true
      unfolding mark_accesses mark_access
      keeps m [] l o = o
      keeps m (a ∷ xs) l o =
          keeps (mark_access c w k m a) xs (omega (arith, access_size c w k m a))
          (go ((has_written a) && ltb a.rec c.records))
        where
          go : (b : Bool) → get_or (cond b (mark_own c w k m (lock_rows c w a.rec)) m) i false ≡ true
          go true = own_keeps c w k m (lock_rows c w a.rec) i l o
          go false = o

      own_slot : (m : List Bool) (xs : List Access) → i < length m → get_or m i false ≡ false
          → get_or (mark_accesses c w k m xs) i false ≡ says_written r xs
      unfolding mark_accesses
      own_slot m [] l o = rw o refl
      own_slot m (a ∷ xs) l o =
          go (test (is_of r a && has_written a))
          (own_slot (mark_access c w k m a) xs (omega (arith, access_size c w k m a)))
        where
          go : ((is_of r a && has_written a) ≡ true) ⊎ ((is_of r a && has_written a) ≡ false)
              → (get_or (mark_access c w k m a) i false ≡ false
              → get_or (mark_accesses c w k (mark_access c w k m a) xs) i false ≡ says_written r xs)
              → get_or (mark_accesses c w k (mark_access c w k m a) xs) i false ≡ says_written r (a ∷ xs)
          go (inl h) ih =
              rw (keeps (mark_access c w k m a) xs (omega (arith, access_size c w k m a)) (one_says m a l h), h) refl
          go (inr h) ih = rw h (ih (one_silent m a h ∙ o))

  -- the slots up to n: nothing before the owner, its writes at the owner, kept after it
  slots_before : (m : List Bool) (n : ℕ) → i < length m → get_or m i false ≡ false → n < (lock_at c w i).owner
      → get_or (mark_slots c w m n) i false ≡ false
  unfolding mark_slots
  slots_before m zero l z o = z
  slots_before m (suc n) l z o =
      other_owner (suc n) (mark_slots c w m n) (slot_at c w (suc n)).accesses (omega (arith, slots_size c w m n))
      (ne_eqb (lock_at c w i).owner (suc n) (λ e. omega arith))
      ∙ slots_before m n l z (omega arith)

  slots_from : (m : List Bool) (n : ℕ) → i < length m → get_or m i false ≡ false → 1 ≤ (lock_at c w i).owner
      → (lock_at c w i).owner ≤ n
      → get_or (mark_slots c w m n) i false ≡ says_written r (slot_at c w (lock_at c w i).owner).accesses
  unfolding mark_slots
  slots_from m zero l z p o = absurd (omega arith)
  slots_from m (suc n) l z p o = go (ℕ_discrete (lock_at c w i).owner (suc n)) (slots_from m n l z p)
    where
      size : i < length (mark_slots c w m n)
      size = omega (arith, slots_size c w m n)

      go : Dec ((lock_at c w i).owner ≡ suc n)
          → ((lock_at c w i).owner ≤ n
          → get_or (mark_slots c w m n) i false ≡ says_written r (slot_at c w (lock_at c w i).owner).accesses)
          → get_or (mark_accesses c w (suc n) (mark_slots c w m n) (slot_at c w (suc n)).accesses) i false
          ≡ says_written r (slot_at c w (lock_at c w i).owner).accesses
      go (yes e) ih =
          own_slot (suc n) (eq-eqb (lock_at c w i).owner (suc n) e) (mark_slots c w m n) (slot_at c w (suc n)).accesses
          size (slots_before m n l z (omega arith))
          ∙ ap (λ k. says_written r (slot_at c w k).accesses) (sym e)
      go (no e) ih =
          other_owner (suc n) (mark_slots c w m n) (slot_at c w (suc n)).accesses size
          (ne_eqb (lock_at c w i).owner (suc n) e)
          ∙ ih (omega arith)

-- an edit that names each record at most once: one of its accesses says written exactly if the access of the record
-- does
none_other : (r : ℕ) (a : Access) (xs : List Access) → a.rec ≡ r → all (λ b. not (eqb a.rec b.rec)) xs ≡ true
    → says_written r xs ≡ false
none_other r a [] e h = refl
none_other r a (b ∷ xs) e h =
    let q = and_left (not (eqb a.rec b.rec)) (all (λ b. not (eqb a.rec b.rec)) xs) h in
    rw (ne_eqb b.rec r (λ z. eqb-false a.rec b.rec (not-true (eqb a.rec b.rec) q) (e ∙ sym z)))
    (none_other r a xs e (and_right (not (eqb a.rec b.rec)) (all (λ b. not (eqb a.rec b.rec)) xs) h))

says_found : (r : ℕ) (xs : List Access) → pairwise (λ a b. not (eqb a.rec b.rec)) xs ≡ true
    → says_written r xs ≡ (has_written (find (is_of r) (no_access r) xs))
says_found r [] h = refl
says_found r (a ∷ xs) h =
    go (test (is_of r a)) (says_found r xs
    (and_right (all (λ b. not (eqb a.rec b.rec)) xs) (pairwise (λ a b. not (eqb a.rec b.rec)) xs) h))
  where
    last : (b : Bool) → (b || false) ≡ b
    last true = refl
    last false = refl

    go : (is_of r a ≡ true) ⊎ (is_of r a ≡ false) → says_written r xs ≡ (has_written (find (is_of r) (no_access r) xs))
        → says_written r (a ∷ xs) ≡ (has_written (find (is_of r) (no_access r) (a ∷ xs)))
    go (inl e) ih =
        rw (
          e,
          none_other r a xs (eqb-true a.rec r e)
              (and_left (all (λ b. not (eqb a.rec b.rec)) xs) (pairwise (λ a b. not (eqb a.rec b.rec)) xs)
              h),
        ) (last (has_written a))
    go (inr e) ih = rw e ih

-- the marks that the code makes
pub writers : (c : Counts) (w : List ℕ) (m : List Bool) → partition (lock_table c) (lock_heads c) w ≡ true
    → c.locks ≤ MAX_ROWS
    → Marks m → ((i : ℕ) → get_or m i false ≡ false)
    → ((k : ℕ) → IsRow c.edits k → names_once (slot_at c w k) ≡ true) → (r : ℕ) → r < c.records
    → Writers c w r (mark_slots c w m c.edits)
unfolding names_once access_of lock_rows lock_table lock_heads
writers c w m d few size zero-all once r l =
    record {
      size = slots_size c w m c.edits ∙ size;
      wrote = λ i on row.
          slots_from c w d r i l on m c.edits
          (omega (arith, (on_chain (lock_table c) (lock_heads c) w d (suc r) (omega arith) i on).high, size))
          (zero-all i)
          row.low row.high
          ∙ says_found r (slot_at c w (lock_at c w i).owner).accesses (once (lock_at c w i).owner row);
    }
