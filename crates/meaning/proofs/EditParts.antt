-- The clauses of soundness that speak of an edit, each as the fact that it says, both ways: edit-out and edit-in. Rests
-- on Lists, Tests, CommonSet and RecParts.
use Prim.Native.Nat.{ℕ, suc}
use native.Mathlib.Omega.{arith}
use mathlib.Core.Path.{◌≡◌, refl, ap}
use mathlib.Core.Logic.{◌⊎◌, inl, inr}
use mathlib.Core.Bool.{Bool, true, false, not, ◌&&◌, ◌||◌}
use mathlib.Core.List.{List, [], ◌∷◌}
use lib.Dec.{ltb, eqb}
use lib.ListN.{length, get_or}
use borrow.Author.Tests.{leb-true, le-leb, ltb-true, lt-ltb, eqb-true, eqb-false, eq-eqb, ne_eqb, not-true}
use Rattle.meaning.specs.Lists.{◌∈◌, any}
use Rattle.types.specs.Limits.{GENERATIONS, WRITE, FREE, COMMITTED, ABORTED}
use Rattle.meaning.specs.Store.{Lock, Access, Rec, Edit, rec_of, has_read}
use Rattle.meaning.specs.Points.{is_write, is_owned, in_common}
use Rattle.meaning.specs.Sound.{state_listed, generation_listed, point_listed, names_existing, names_once, is_present}
use Rattle.meaning.specs.Sound.{reads_present, starts_read, reads_locked, point_common, free_idle, sound_edit}
use Rattle.meaning.specs.SoundFacts.{Present, ReadStarts, SoundEdit}
use Rattle.meaning.proofs.Lists.{and_in, and_left, and_right, or_out, or_left, or_right, implies_out, implies_in}
use Rattle.meaning.proofs.Lists.{test, every_at, any_in, any_out, all_in, all_out}
use Rattle.meaning.proofs.Tests.{read_out, read_in}
use Rattle.meaning.proofs.CommonSet.{common_set_is}
use Rattle.meaning.proofs.RecParts.{◌also◌}

-- a point read, and the read lock that starts just after it
pub present_out : (x : Rec) (from tr : ℕ) → from ≡ suc tr → is_present x from ≡ true → Present x tr
unfolding is_present
present_out x from tr f e = go (or_out (any (λ v. eqb (suc v.point) from) x.versions) _ e)
  where
    go : (any (λ v. eqb (suc v.point) from) x.versions ≡ true) ⊎ ((eqb from 1 && eqb x.floor 0) ≡ true)
        → Present x tr
    go (inl q) =
        let w = any_out (λ v. eqb (suc v.point) from) x.versions q in
        inl (record { version = w.0; member = w.1; stands = omega (arith, eqb-true (suc w.0.point) from w.2) })
    go (inr q) =
        inr (
          omega (arith, eqb-true from 1 (and_left (eqb from 1) (eqb x.floor 0) q)),
          eqb-true x.floor 0 (and_right (eqb from 1) (eqb x.floor 0) q),
        )

pub present_in : (x : Rec) (from tr : ℕ) → from ≡ suc tr → Present x tr → is_present x from ≡ true
unfolding is_present
present_in x from tr f (inl w) =
    or_left (eqb from 1 && eqb x.floor 0)
    (any_in (λ v. eqb (suc v.point) from) w.member
    (eq-eqb (suc w.version.point) from (omega (arith, w.stands))))
present_in x from tr f (inr w) =
    or_right (any (λ v. eqb (suc v.point) from) x.versions)
    (and_in (eq-eqb from 1 (omega (arith, w.0))) (eq-eqb x.floor 0 w.1))

pub starts_out : (k from : ℕ) (ls : List Lock) → any (starts_read k from) ls ≡ true → ReadStarts k from ls
unfolding starts_read
starts_out k from ls e =
    let w = any_out (starts_read k from) ls e in
    let l = w.0 in
    let b = not (is_write l) && eqb l.low from in
    let f = and_right (is_owned k l) b w.2 in
    record {
      lock = l;
      member = w.1;
      owned = eqb-true l.owner k (and_left (is_owned k l) b w.2);
      mode = eqb-false l.mode WRITE (not-true (is_write l) (and_left (not (is_write l)) (eqb l.low from) f));
      starts = eqb-true l.low from (and_right (not (is_write l)) (eqb l.low from) f);
    }

pub starts_in : (k from : ℕ) (ls : List Lock) → ReadStarts k from ls → any (starts_read k from) ls ≡ true
unfolding starts_read
starts_in k from ls s =
    let l = s.lock in
    any_in (starts_read k from) s.member
    (and_in (eq-eqb l.owner k s.owned)
    (and_in {a = not (is_write l)} (ap not (ne_eqb l.mode WRITE s.mode)) (eq-eqb l.low from s.starts)))

-- the tests of an edit, in the order of sound_edit
abbrev pub edit_tests : List Rec → ℕ → Edit → List Bool
edit_tests rs k e =
    state_listed e
    ∷ generation_listed e
    ∷ point_listed e
    ∷ names_existing rs e
    ∷ names_once e
    ∷ reads_present rs e
    ∷ reads_locked rs k e
    ∷ point_common rs k e
    ∷ free_idle e
    ∷ []

no_length : {A : Type 0} (xs : List A) → length xs ≡ 0 → xs ≡ []
no_length [] e = refl
no_length (x ∷ xs) e = absurd (omega arith)

module _ (rs : List Rec) (k : ℕ) (e : Edit) where
  abbrev exists : Access → Bool
  exists a = ltb a.rec (length rs)

  abbrev present : Access → Bool
  present a = not (has_read a) || is_present (rec_of rs a.rec) a.from

  abbrev locked : Access → Bool
  locked a = not (has_read a) || any (starts_read k a.from) (rec_of rs a.rec).locks

  pub edit_out : sound_edit rs k e ≡ true → SoundEdit rs k e
  unfolding sound_edit state_listed generation_listed point_listed names_existing reads_present
      reads_locked point_common
      free_idle
  edit_out h =
      record {
        state = leb-true e.state ABORTED (tests 0);
        generation = ltb-true e.generation GENERATIONS (tests 1);
        point = λ o. pointed o (or_out (eqb e.state COMMITTED) (eqb e.point 0) (tests 2));
        existing = λ a m. ltb-true a.rec (length rs) (all_out exists e.accesses (tests 3) a m);
        once = tests 4;
        present = presented;
        locked = started;
        common =
            λ c. (common_set_is rs k e e.point).0
            (implies_out (eqb e.state COMMITTED) (in_common rs k e e.point) (tests 7)
            (eq-eqb e.state COMMITTED c));
        idle =
            λ c. no_length e.accesses
            (eqb-true (length e.accesses) 0
            (implies_out (eqb e.state FREE) (eqb (length e.accesses) 0) (tests 8) (eq-eqb e.state FREE c)));
      }
    where
      tests : (i : ℕ) → get_or (edit_tests rs k e) i true ≡ true
      tests i = every_at (edit_tests rs k e) h i

      pointed : (e.state ≡ COMMITTED → ⊥) → (eqb e.state COMMITTED ≡ true) ⊎ (eqb e.point 0 ≡ true)
          → e.point ≡ 0
      pointed o (inl q) = absurd (o (eqb-true e.state COMMITTED q))
      pointed o (inr q) = eqb-true e.point 0 q

      presented : (a : Access) (tr : ℕ) → a ∈ e.accesses → a.from ≡ suc tr → Present (rec_of rs a.rec) tr
      presented a tr m f =
          let t = all_out present e.accesses (tests 5) a m in
          present_out (rec_of rs a.rec) a.from tr f
          (implies_out (has_read a) (is_present (rec_of rs a.rec) a.from) t (read_in a tr f))

      started : (a : Access) (tr : ℕ) → a ∈ e.accesses → a.from ≡ suc tr
          → ReadStarts k (suc tr) (rec_of rs a.rec).locks
      started a tr m f =
          let ls = (rec_of rs a.rec).locks in
          let t = all_out locked e.accesses (tests 6) a m in
          rw f at
          (starts_out k a.from ls (implies_out (has_read a) (any (starts_read k a.from) ls) t (read_in a tr f)))

  pub edit_in : SoundEdit rs k e → sound_edit rs k e ≡ true
  unfolding sound_edit state_listed generation_listed point_listed names_existing reads_present
      reads_locked point_common
      free_idle
  edit_in s =
      le-leb e.state ABORTED s.state
      also lt-ltb e.generation GENERATIONS s.generation
      also pointed (test (eqb e.state COMMITTED))
      also all_in exists e.accesses (λ a m. lt-ltb a.rec (length rs) (s.existing a m))
      also s.once
      also all_in present e.accesses
      (λ a m. implies_in (has_read a) (is_present (rec_of rs a.rec) a.from) (λ r. presented a m (read_out a r)))
      also all_in locked e.accesses
      (λ a m. implies_in (has_read a) (any (starts_read k a.from) (rec_of rs a.rec).locks)
      (λ r. started a m (read_out a r)))
      also implies_in (eqb e.state COMMITTED) (in_common rs k e e.point)
      (λ c. (common_set_is rs k e e.point).1 (s.common (eqb-true e.state COMMITTED c)))
      also implies_in (eqb e.state FREE) (eqb (length e.accesses) 0)
      (λ c. eq-eqb (length e.accesses) 0 (ap length (s.idle (eqb-true e.state FREE c))))
      also refl
    where
      pointed : (eqb e.state COMMITTED ≡ true) ⊎ (eqb e.state COMMITTED ≡ false)
          → (eqb e.state COMMITTED || eqb e.point 0) ≡ true
      pointed (inl q) = or_left (eqb e.point 0) q
      pointed (inr q) =
          or_right (eqb e.state COMMITTED) (eq-eqb e.point 0 (s.point (eqb-false e.state COMMITTED q)))

      presented : (a : Access) → a ∈ e.accesses → (tr : ℕ) × (a.from ≡ suc tr)
          → is_present (rec_of rs a.rec) a.from ≡ true
      presented a m t = present_in (rec_of rs a.rec) a.from t.0 t.1 (s.present a t.0 m t.1)

      started : (a : Access) → a ∈ e.accesses → (tr : ℕ) × (a.from ≡ suc tr)
          → any (starts_read k a.from) (rec_of rs a.rec).locks ≡ true
      started a m t = starts_in k a.from (rec_of rs a.rec).locks (rw t.1 (s.locked a t.0 m t.1))
