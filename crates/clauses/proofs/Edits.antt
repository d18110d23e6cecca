-- The clauses of a slot, in the order in which the check tests them, are those of `sound_edit`: with no stamp k at
-- first, a record is named at most once exactly if it never bears the stamp k when it is met. Rests on Lists of
-- the crate `meaning`.
use Prim.Native.Nat.{ℕ, ◌-◌, ◌≤◌, ◌<◌}
use mathlib.Core.Path.{◌≡◌, refl, sym, ap, ◌∙◌}
use mathlib.Core.Logic.{◌⊎◌, inl, inr}
use mathlib.Core.Bool.{Bool, true, not, ◌&&◌, ◌||◌}
use mathlib.Core.List.Memᴰ
use mathlib.Core.List.{List, [], ◌∷◌}
use native.Mathlib.Omega.{arith}
use lib.ListN.{length, get_or, set, length-set}
use lib.Seq.{get_or-set_same, get_or-set_other}
use lib.Dec.{ltb, eqb}
use borrow.Author.Tests.{ltb-true, lt-ltb, eqb-false, ne_eqb, not-true}
use Rattle.types.specs.Limits.{MAX_RECORDS}
use Rattle.meaning.specs.Lists.{◌∈◌, all, any, pairwise}
use Rattle.meaning.specs.Store.{Rec, Edit, rec_of, has_read}
use Rattle.meaning.specs.Sound.{state_listed, generation_listed, point_listed, names_existing, names_once, is_present}
use Rattle.meaning.specs.Sound.{reads_present, starts_read, reads_locked, point_common, free_idle, sound_edit}
use Rattle.types.specs.declared.Access.{Access}
use Rattle.meaning.proofs.Lists.{and_in, and_left, and_right, implies_out, implies_in, all_in, all_out, every_at}
use Rattle.meaning.proofs.Lists.{both}
use Rattle.clauses.specs.Clauses.{read_sound, accesses_sound, slot_listed, Stamps}

pub stamps_up : {k : ℕ} {m : List ℕ} → Stamps (k - 1) m → Stamps k m
stamps_up {k} {m} s = record { size = s.size; upto = λ i. omega (arith, s.upto i) }

abbrev apart : Access → Access → Bool
apart a b = not (eqb a.rec b.rec)

module _ (rs : List Rec) (k : ℕ) where
  -- what the loop finds of the accesses from here on, with stamps m
  record Named (m : List ℕ) (xs : List Access) : Type 0 where
    exists : (a : Access) → a ∈ xs → a.rec < length rs
    once : pairwise apart xs ≡ true
    new : (a : Access) → a ∈ xs → get_or m a.rec 0 ≡ k → ⊥
    reads : (a : Access) → a ∈ xs → read_sound rs k a ≡ true

  -- once a is stamped, another access is unstamped exactly if it was and names another record
  new_out : (m : List ℕ) (a b : Access) → a.rec < length m → (get_or (set m a.rec k) b.rec 0 ≡ k → ⊥)
      → (a.rec ≡ b.rec → ⊥) × (get_or m b.rec 0 ≡ k → ⊥)
  new_out m a b l f =
      let d : a.rec ≡ b.rec → ⊥ =
      λ e. f (ap (λ i. get_or (set m a.rec k) i 0) (sym e) ∙ get_or-set_same m a.rec k 0 l) in
      (d, λ z. f (get_or-set_other m a.rec b.rec k 0 (λ e. d (sym e)) ∙ z))

  new_in : (m : List ℕ) (a b : Access) → (a.rec ≡ b.rec → ⊥) → (get_or m b.rec 0 ≡ k → ⊥)
      → get_or (set m a.rec k) b.rec 0 ≡ k → ⊥
  new_in m a b d f z = f (sym (get_or-set_other m a.rec b.rec k 0 (λ e. d (sym e))) ∙ z)

  named_out : (m : List ℕ) (xs : List Access) → length rs ≤ length m → accesses_sound rs k m xs ≡ true → Named m xs
  unfolding accesses_sound
  named_out m [] l h =
      record {
        exists = λ a i. absurd (Memᴰ.not-nil i);
        once = refl;
        new = λ a i. absurd (Memᴰ.not-nil i);
        reads = λ a i. absurd (Memᴰ.not-nil i);
      }
  named_out m (a ∷ xs) l h =
      let g = and_right (ltb a.rec (length rs)) _ h in
      let f = and_right (not (eqb (get_or m a.rec 0) k)) _ g in
      go
      (ltb-true a.rec (length rs) (and_left (ltb a.rec (length rs)) _ h))
      (eqb-false (get_or m a.rec 0) k
      (not-true (eqb (get_or m a.rec 0) k) (and_left (not (eqb (get_or m a.rec 0) k)) _ g)))
      (and_left (read_sound rs k a) _ f)
      (named_out (set m a.rec k) xs (omega (arith, length-set m a.rec k)) (and_right (read_sound rs k a) _ f))
    where
      go : a.rec < length rs → (get_or m a.rec 0 ≡ k → ⊥) → read_sound rs k a ≡ true → Named (set m a.rec k) xs
          → Named m (a ∷ xs)
      go e u s n =
          record {
            exists = λ b i. exists b (Memᴰ.cases_cons i);
            once = and_in (all_in (apart a) xs (λ b i. ap not (ne_eqb a.rec b.rec (later b i).0))) n.once;
            new = λ b i. new b (Memᴰ.cases_cons i);
            reads = λ b i. reads b (Memᴰ.cases_cons i);
          }
        where
          later : (b : Access) → b ∈ xs → (a.rec ≡ b.rec → ⊥) × (get_or m b.rec 0 ≡ k → ⊥)
          later b i = new_out m a b (omega (arith, e, l)) (n.new b i)

          exists : (b : Access) → (b ≡ a) ⊎ (b ∈ xs) → b.rec < length rs
          exists b (inl q) = rw q e
          exists b (inr i) = n.exists b i

          new : (b : Access) → (b ≡ a) ⊎ (b ∈ xs) → get_or m b.rec 0 ≡ k → ⊥
          new b (inl q) z = u (ap (λ y. get_or m y.rec 0) (sym q) ∙ z)
          new b (inr i) z = (later b i).1 z

          reads : (b : Access) → (b ≡ a) ⊎ (b ∈ xs) → read_sound rs k b ≡ true
          reads b (inl q) = rw q s
          reads b (inr i) = n.reads b i

  named_in : (m : List ℕ) (xs : List Access) → Named m xs → accesses_sound rs k m xs ≡ true
  unfolding accesses_sound
  named_in m [] n = refl
  named_in m (a ∷ xs) n =
      and_in (lt-ltb a.rec (length rs) (n.exists a (Memᴰ.head refl)))
      (and_in (ap not (ne_eqb (get_or m a.rec 0) k (n.new a (Memᴰ.head refl))))
      (and_in (n.reads a (Memᴰ.head refl))
      (named_in (set m a.rec k) xs
      (record {
        exists = λ b i. n.exists b (Memᴰ.tail i);
        once = and_right (all (apart a) xs) (pairwise apart xs) n.once;
        new =
            λ b i. new_in m a b (eqb-false a.rec b.rec
            (not-true (eqb a.rec b.rec)
            (all_out (apart a) xs (and_left (all (apart a) xs) (pairwise apart xs) n.once) b i)))
            (n.new b (Memᴰ.tail i));
        reads = λ b i. n.reads b (Memᴰ.tail i);
      }))))

-- a read in order is the two clauses on it
module _ (rs : List Rec) (k : ℕ) (a : Access) where
  abbrev locked : Bool
  locked = any (starts_read k a.from) (rec_of rs a.rec).locks

  abbrev present : Bool
  present = is_present (rec_of rs a.rec) a.from

  read_out : read_sound rs k a ≡ true → ((not (has_read a) || present) ≡ true) × ((not (has_read a) || locked) ≡ true)
  unfolding read_sound
  read_out h = (
    implies_in (has_read a) present (λ q. and_right locked present (implies_out (has_read a) (locked && present) h q)),
    implies_in (has_read a) locked (λ q. and_left locked present (implies_out (has_read a) (locked && present) h q)),
  )

  read_in : (not (has_read a) || present) ≡ true → (not (has_read a) || locked) ≡ true → read_sound rs k a ≡ true
  unfolding read_sound
  read_in p l =
      implies_in (has_read a) (locked && present)
      (λ q. and_in (implies_out (has_read a) locked l q) (implies_out (has_read a) present p q))

module _ (rs : List Rec) (k : ℕ) (m : List ℕ) (e : Edit) (low : 1 ≤ k) (few : length rs ≤ MAX_RECORDS)
    (s : Stamps (k - 1) m) where
  abbrev pub edit_parts : Bool
  edit_parts = slot_listed e && (accesses_sound rs k m e.accesses && point_common rs k e)

  pub accesses_exist : accesses_sound rs k m e.accesses ≡ true → names_existing rs e ≡ true
  unfolding names_existing
  accesses_exist h =
      let n = named_out rs k m e.accesses (omega (arith, s.size, few)) h in
      all_in (λ a. ltb a.rec (length rs)) e.accesses (λ a i. lt-ltb a.rec (length rs) (n.exists a i))

  forth : edit_parts ≡ true → sound_edit rs k e ≡ true
  unfolding sound_edit slot_listed names_once reads_present reads_locked
  forth h =
      let listed = and_left (slot_listed e) (accesses_sound rs k m e.accesses && point_common rs k e) h in
      let rest = and_right (slot_listed e) (accesses_sound rs k m e.accesses && point_common rs k e) h in
      let gen = and_right (state_listed e) _ listed in
      let pt = and_right (generation_listed e) _ gen in
      let acc = and_left (accesses_sound rs k m e.accesses) (point_common rs k e) rest in
      let n = named_out rs k m e.accesses (omega (arith, s.size, few)) acc in
      and_in (and_left (state_listed e) _ listed)
      (and_in (and_left (generation_listed e) _ gen) (and_in (and_left (point_listed e) (free_idle e) pt)
      (and_in (accesses_exist acc) (and_in n.once
      (and_in (all_in (λ a. not (has_read a) || is_present (rec_of rs a.rec) a.from) e.accesses
      (λ a i. (read_out rs k a (n.reads a i)).0))
      (and_in (all_in (λ a. not (has_read a) || any (starts_read k a.from) (rec_of rs a.rec).locks) e.accesses
      (λ a i. (read_out rs k a (n.reads a i)).1))
      (and_in (and_right (accesses_sound rs k m e.accesses) (point_common rs k e) rest)
      (and_in (and_right (point_listed e) (free_idle e) pt) refl))))))))

  back : sound_edit rs k e ≡ true → edit_parts ≡ true
  unfolding sound_edit slot_listed names_existing names_once reads_present reads_locked
  back h =
      let at =
      every_at
      (state_listed e ∷ generation_listed e ∷ point_listed e ∷ names_existing rs e ∷ names_once e ∷ reads_present rs e
      ∷ reads_locked rs k e ∷ point_common rs k e ∷ free_idle e ∷ [])
      h in
      and_in (and_in (at 0) (and_in (at 1) (and_in (at 2) (at 8))))
      (and_in
      (named_in rs k m e.accesses
      (record {
        exists =
            λ a i. ltb-true a.rec (length rs) (all_out (λ a. ltb a.rec (length rs)) e.accesses (at 3) a i);
        once = at 4;
        new = λ a i z. omega (arith, s.upto a.rec);
        reads =
            λ a i. read_in rs k a
            (all_out (λ a. not (has_read a) || is_present (rec_of rs a.rec) a.from) e.accesses (at 5) a i)
            (all_out (λ a. not (has_read a) || any (starts_read k a.from) (rec_of rs a.rec).locks) e.accesses
            (at 6) a i);
      }))
      (at 7))

  pub edit_checked : edit_parts ≡ sound_edit rs k e
  edit_checked = both edit_parts (sound_edit rs k e) forth back
