-- An access takes its place in an open edit: the edit and the store stay sound; Write as an instance. Rests on
-- EditChanged and Kept.
use Prim.Native.Nat.{ℕ, suc, ◌+◌, ◌≤◌, ◌<◌}
use native.Mathlib.Omega.{arith}
use mathlib.Core.Path.{◌≡◌, refl, sym, ap}
use mathlib.Core.Logic.{◌⊎◌, inl, inr}
use mathlib.Core.Bool.{Bool, true, false, not, cond}
use mathlib.Core.List.Memᴰ
use mathlib.Core.List.{List, [], ◌∷◌, map}
use lib.Dec.{ltb, eqb}
use lib.ListN.{length, length-map}
use borrow.Author.Tests.{ltb-true, eqb-true, eq-eqb, ne_eqb}
use Rattle.meaning.specs.Lists.{◌∈◌, all, pairwise}
use Rattle.types.specs.Limits.{OPEN}
use Rattle.meaning.specs.Store.{Val, Access, Rec, Edit, Store, set_edit, edit_at, rec_of, with_edit, is_of, no_access}
use Rattle.meaning.specs.Store.{access_of, names, accesses_used}
use Rattle.meaning.specs.Outcomes.{access_room}
use Rattle.meaning.specs.Edits.{with_access, written_access, written}
use Rattle.meaning.specs.Sound.{names_once}
use Rattle.meaning.specs.SoundFacts.{Present, ReadStarts, SoundEdit, SoundStore}
use Rattle.meaning.proofs.Lists.{and_in, and_left, and_right, or_out, test, any_none, all_in}
use Rattle.meaning.proofs.Stores.{used_range}
use Rattle.meaning.proofs.Kept.{access_out}
use Rattle.meaning.proofs.EditChanged.{edit_changed, none_wrote}

abbrev pub apart : Access → Access → Bool
apart a b = not (eqb a.rec b.rec)

abbrev pub put : Access → Access → Access
put a b = cond (is_of a.rec b) a b

pub put_rec : (a b : Access) → (put a b).rec ≡ b.rec
put_rec a b = go (test (is_of a.rec b))
  where
    go : (is_of a.rec b ≡ true) ⊎ (is_of a.rec b ≡ false) → (put a b).rec ≡ b.rec
    go (inl q) = rw q (sym (eqb-true b.rec a.rec q))
    go (inr q) = rw q

-- the accesses stay those of different records
pub put_all : (a : Access) (r : ℕ) (acc : List Access) → all (λ y. not (eqb r y.rec)) acc ≡ true
    → all (λ y. not (eqb r y.rec)) (map (put a) acc) ≡ true
put_all a r [] h = refl
put_all a r (x ∷ acc) h =
    let p = not (eqb r x.rec) in
    let q = all (λ y. not (eqb r y.rec)) acc in
    and_in {a = not (eqb r (put a x).rec)} (rw (put_rec a x) (and_left p q h)) (put_all a r acc (and_right p q h))

pub put_apart : (a : Access) (acc : List Access) → pairwise apart acc ≡ true → pairwise apart (map (put a) acc) ≡ true
put_apart a [] h = refl
put_apart a (x ∷ acc) h =
    let p = all (λ y. not (eqb x.rec y.rec)) acc in
    let q = pairwise apart acc in
    and_in {a = all (λ y. not (eqb (put a x).rec y.rec)) (map (put a) acc)}
    (rw (put_rec a x) (put_all a x.rec acc (and_left p q h))) (put_apart a acc (and_right p q h))

pub put_out : (a : Access) (acc : List Access) (b : Access) → b ∈ map (put a) acc → (b ≡ a) ⊎ (b ∈ acc)
put_out a [] b m = absurd (Memᴰ.not-nil m)
put_out a (x ∷ acc) b m = go (is_of a.rec x) (Memᴰ.cases_cons m) (put_out a acc b)
  where
    here : (t : Bool) → b ≡ cond t a x → (b ≡ a) ⊎ (b ∈ x ∷ acc)
    here true q = inl q
    here false q = inr (Memᴰ.head q)

    later : (b ≡ a) ⊎ (b ∈ acc) → (b ≡ a) ⊎ (b ∈ x ∷ acc)
    later (inl q) = inl q
    later (inr n) = inr (Memᴰ.tail n)

    go : (t : Bool) → (b ≡ cond t a x) ⊎ (b ∈ map (put a) acc) → (b ∈ map (put a) acc → (b ≡ a) ⊎ (b ∈ acc))
        → (b ≡ a) ⊎ (b ∈ x ∷ acc)
    go t (inl q) ih = here t q
    go t (inr n) ih = later (ih n)

module _ (e : Edit) (a : Access) where
  pub access_put_out : (b : Access) → b ∈ (with_access e a).accesses → (b ≡ a) ⊎ (b ∈ e.accesses)
  unfolding with_access
  access_put_out b m = go (names e a.rec) m
    where
      go : (t : Bool) → b ∈ cond t (map (put a) e.accesses) (a ∷ e.accesses) → (b ≡ a) ⊎ (b ∈ e.accesses)
      go true n = put_out a e.accesses b n
      go false n = Memᴰ.cases_cons n

  pub access_put_once : names_once e ≡ true → names_once (with_access e a) ≡ true
  unfolding with_access names_once names
  access_put_once h = go (test (names e a.rec))
    where
      go : (names e a.rec ≡ true) ⊎ (names e a.rec ≡ false) → pairwise apart (with_access e a).accesses ≡ true
      go (inl q) = rw q (put_apart a e.accesses h)
      go (inr q) =
          rw q
          (and_in (all_in (apart a) e.accesses
          (λ b m. ap not (ne_eqb a.rec b.rec
          (λ z. any_none (is_of a.rec) e.accesses q m (eq-eqb b.rec a.rec (sym z)))))) h)

  pub access_put_named : names e a.rec ≡ true → length (with_access e a).accesses ≡ length e.accesses
  unfolding with_access
  access_put_named h = rw h (length-map e.accesses (put a))

  pub access_put_length : length (with_access e a).accesses ≤ suc (length e.accesses)
  unfolding with_access
  access_put_length = go (names e a.rec)
    where
      go : (t : Bool) → length (cond t (map (put a) e.accesses) (a ∷ e.accesses)) ≤ suc (length e.accesses)
      go true = omega (arith, length-map e.accesses (put a))
      go false = omega arith

-- the access names a record, and what it read is present and locked, as in a sound edit
pub record AccessFits (rs : List Rec) (k : ℕ) (a : Access) : Type 0 where
  pub existing : a.rec < length rs
  pub present : (tr : ℕ) → a.from ≡ suc tr → Present (rec_of rs a.rec) tr
  pub locked : (tr : ℕ) → a.from ≡ suc tr → ReadStarts k (suc tr) (rec_of rs a.rec).locks

-- a property of every access, before and of the new one, is one of every access after
pub put_each : (P : Access → Type 0) (e : Edit) (a : Access) → P a → ((b : Access) → b ∈ e.accesses → P b)
    → (b : Access) → b ∈ (with_access e a).accesses → P b
put_each P e a new old b m = go (access_put_out e a b m)
  where
    go : (b ≡ a) ⊎ (b ∈ e.accesses) → P b
    go (inl q) = rw q new
    go (inr n) = old b n

module _ (rs : List Rec) (k : ℕ) (e : Edit) (a : Access) (o : e.state ≡ OPEN) (fit : AccessFits rs k a) where
  pub access_put_sound : SoundEdit rs k e → SoundEdit rs k (with_access e a)
  unfolding with_access
  access_put_sound h =
      record {
        state = h.state;
        generation = h.generation;
        point = h.point;
        existing = put_each (λ b. b.rec < length rs) e a fit.existing h.existing;
        once = access_put_once e a h.once;
        present =
            λ b tr m. put_each (λ c. c.from ≡ suc tr → Present (rec_of rs c.rec) tr) e a (fit.present tr)
            (λ c n. h.present c tr n) b m;
        locked =
            λ b tr m. put_each (λ c. c.from ≡ suc tr → ReadStarts k (suc tr) (rec_of rs c.rec).locks) e a
            (fit.locked tr) (λ c n. h.locked c tr n) b m;
        common = λ q. absurd (omega (arith, o, q));
        idle = λ q. absurd (omega (arith, o, q));
      }

-- room for an access of record r in the edit of slot k
abbrev pub AccessRoom : Store → ℕ → ℕ → Type 0
AccessRoom s k r = (names (edit_at s k) r ≡ true) ⊎ (accesses_used s < s.access_rows)

pub access_room_out : (s : Store) (k r : ℕ) → access_room s k r ≡ true → AccessRoom s k r
unfolding access_room
access_room_out s k r h = go (or_out (names (edit_at s k) r) (ltb (accesses_used s) s.access_rows) h)
  where
    go : (names (edit_at s k) r ≡ true) ⊎ (ltb (accesses_used s) s.access_rows ≡ true) → AccessRoom s k r
    go (inl q) = inl q
    go (inr q) = inr (ltb-true (accesses_used s) s.access_rows q)

module _ (s : Store) (h : SoundStore s) (k : ℕ) (o : (edit_at s k).state ≡ OPEN) where
  pub access_put : (a : Access) → AccessFits s.records k a → AccessRoom s k a.rec
      → SoundStore (with_edit s k (with_access (edit_at s k) a))
  unfolding with_access
  access_put a fit room =
      edit_changed s k (with_access (edit_at s k) a)
      (record {
        range = used_range s.edits k (λ q. omega (arith, o, q));
        used = λ q. omega (arith, o, q);
        room = fits room;
        wrote =
            λ r t. none_wrote s.edits (set_edit s.edits k (with_access (edit_at s k) a)) k r t
            (λ q. omega (arith, o, q));
        fits = access_put_sound s.records k (edit_at s k) a o fit (h.edits k);
      })
      h
    where
      fits : AccessRoom s k a.rec
          → accesses_used s + length (with_access (edit_at s k) a).accesses
          ≤ s.access_rows + length (edit_at s k).accesses
      fits (inl q) = omega (arith, access_put_named (edit_at s k) a q, h.accesses_fit)
      fits (inr q) = omega (arith, access_put_length (edit_at s k) a, q)

  -- what is read of a record in a sound edit is present and locked
  module _ (r : ℕ) where
    abbrev x : Access
    x = access_of (edit_at s k) r

    read_present : (x ≡ no_access r) ⊎ ((x ∈ (edit_at s k).accesses) × (x.rec ≡ r)) → (tr : ℕ) → x.from ≡ suc tr
        → Present (rec_of s.records r) tr
    read_present (inl z) tr q = absurd (omega (arith, q, ap (λ (b : Access). b.from) z))
    read_present (inr w) tr q = rw w.1 at ((h.edits k).present x tr w.0 q)

    read_locked : (x ≡ no_access r) ⊎ ((x ∈ (edit_at s k).accesses) × (x.rec ≡ r)) → (tr : ℕ) → x.from ≡ suc tr
        → ReadStarts k (suc tr) (rec_of s.records r).locks
    read_locked (inl z) tr q = absurd (omega (arith, q, ap (λ (b : Access). b.from) z))
    read_locked (inr w) tr q = rw w.1 at ((h.edits k).locked x tr w.0 q)

  -- Write: what was read of the record stays
  pub written_sound : (r : ℕ) (v : Val) → r < length s.records → AccessRoom s k r → SoundStore (written s k r v)
  unfolding written
  written_sound r v there room =
      access_put (written_access (edit_at s k) r v)
      (record {
        existing = there;
        present = read_present r (access_out (edit_at s k) r);
        locked = read_locked r (access_out (edit_at s k) r);
      })
      room
