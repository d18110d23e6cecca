-- What a change of slots and records is to the serial core: a slot that stays, locks that only grow, and an access that
-- takes its place. Rests on StoreSlots.
use Prim.Native.Nat.{ℕ, ◌<◌}
use native.Mathlib.Omega.{arith}
use mathlib.Core.Path.{◌≡◌, refl, sym, ap, ◌∙◌, subst}
use mathlib.Core.Logic.{◌⊎◌, inl, inr, ◌↔◌}
use mathlib.Core.Bool.{true, false, cond}
use mathlib.Core.List.{List, [], ◌∷◌, map}
use borrow.Author.Tests.{eqb-true, eq-eqb, ne_eqb}
use Rattle.meaning.specs.Lists.{◌∈◌, any, find}
use Rattle.types.specs.Limits.{COMMITTED}
use Rattle.meaning.specs.Store.{Rec, Edit, is_of, no_access, access_of, names}
use Rattle.types.specs.Numbers.{handle}
use Rattle.types.specs.Values.{Val}
use Rattle.meaning.specs.Edits.{with_access}
use Rattle.meaning.specs.Pointwise.{LockOn, HeldOn}
use Rattle.types.specs.declared.Version.{Version}
use Rattle.types.specs.declared.Lock.{Lock}
use Rattle.types.specs.declared.Access.{Access}
use Rattle.meaning.proofs.Lists.{test, not_both}
use Rattle.serial.proofs.Slots.{Used, SlotStays, Moves, Grows, Nothing}
use Rattle.history.proofs.StoreSlots.{StandsAt, ReadAt, Wrote, slots_of}

pub iff : {A : Type 0} (P : A → Type 0) {a b : A} → a ≡ b → P a ↔ P b
iff P q = (subst P q, subst P (sym q))

-- more locks lock more points
module _ {ls ms : List Lock} (more : (l : Lock) → l ∈ ls → l ∈ ms) where
  pub held_more : {o p : ℕ} → HeldOn ls o p → HeldOn ms o p
  held_more h =
      record { lock = h.lock; member = more h.lock h.member; owned = h.owned; from = h.from; upto = h.upto }

  pub locked_more : {o m p : ℕ} → LockOn ls o m p → LockOn ms o m p
  locked_more h =
      record {
        lock = h.lock;
        member = more h.lock h.member;
        owned = h.owned;
        moded = h.moded;
        from = h.from;
        upto = h.upto;
      }

-- the same floor and versions, and all the locks
pub record Locked (x x' : Rec) : Type 0 where
  pub floor : x'.floor ≡ x.floor
  pub versions : x'.versions ≡ x.versions
  pub locks : (l : Lock) → l ∈ x.locks → l ∈ x'.locks

pub locked_refl : (x : Rec) → Locked x x
locked_refl x = record { floor = refl; versions = refl; locks = λ l m. m }

module _ (e e' : ℕ → Edit) (x x' : ℕ → Rec) where
  -- a slot with the same edit
  pub slot_stays : (k : ℕ) → e' k ≡ e k → Used (slots_of e' x') k → SlotStays (slots_of e x) (slots_of e' x') k
  slot_stays k q u =
      record {
        used = subst (λ (d : Edit). 0 < d.state) q u;
        handle = ap (λ (d : Edit). handle d.generation k) q;
        committed = iff (λ (d : Edit). d.state ≡ COMMITTED) q;
        point = λ z. ap (λ (d : Edit). d.point) q;
        read_at = λ r t. iff (λ (d : Edit). ReadAt d r t) q;
        written = λ r v. iff (λ (d : Edit). Wrote d r v) q;
      }

  stands_same : (r p : ℕ) (v : Val) → Locked (x r) (x' r) → StandsAt (x' r).versions p v ↔ StandsAt (x r).versions p v
  stands_same r p v g = iff (λ (vs : List Version). StandsAt vs p v) g.versions

  module _ (more : (r : ℕ) → Locked (x r) (x' r)) where
    -- no lock goes, no floor moves, no version comes or goes, and slots in use keep their handles
    pub grows_more : ((k : ℕ) → Used (slots_of e x) k → Used (slots_of e' x') k
        × ((e' k).generation ≡ (e k).generation))
        → Grows (slots_of e x) (slots_of e' x') Nothing
    grows_more same =
        record {
          stays = λ k u. ((same k u).0, ap (λ g. handle g k) (same k u).1);
          floor = λ r. (more r).floor;
          lock = λ r p k h. held_more (more r).locks h;
          write_lock = λ r p k h. locked_more (more r).locks h;
          stay = λ r p v w. (stands_same r p v (more r)).1 w;
          saves = λ r p v z. absurd z;
          only = λ r p v w. inl ((stands_same r p v (more r)).0 w);
        }

    -- nor does a slot in use change what it has read, written and committed
    pub moves_more : ((k : ℕ) → Used (slots_of e' x') k → SlotStays (slots_of e x) (slots_of e' x') k)
        → ((k : ℕ) → (e' k).generation ≡ (e k).generation)
        → Moves (slots_of e x) (slots_of e' x')
    moves_more stays same =
        record {
          slots = stays;
          rises = λ r. omega (arith, (more r).floor);
          settled = λ r p f h. held_more (more r).locks h;
          settled_write = λ r p f h. locked_more (more r).locks h;
          reads = λ k r u p c a low high f h. inr (held_more (more r).locks h, ap (λ g. handle g k) (same k));
          writes = λ k r v c a f h. inr (locked_more (more r).locks h, ap (λ g. handle g k) (same k));
          stay = λ r p v f w. (stands_same r p v (more r)).1 w;
          only = λ r p v w. (stands_same r p v (more r)).0 w;
        }

-- the access of a record after one was put in its place
module _ (a : Access) where
  abbrev put : List Access → List Access
  put acc = map (λ b. cond (is_of a.rec b) a b) acc

  find_put : (acc : List Access) → any (is_of a.rec) acc ≡ true
      → find (is_of a.rec) (no_access a.rec) (put acc) ≡ a
  find_put [] h = absurd (not_both h refl)
  find_put (y ∷ acc) h = go (test (is_of a.rec y)) (find_put acc)
    where
      go : (is_of a.rec y ≡ true) ⊎ (is_of a.rec y ≡ false)
          → (any (is_of a.rec) acc ≡ true → find (is_of a.rec) (no_access a.rec) (put acc) ≡ a)
          → find (is_of a.rec) (no_access a.rec) (put (y ∷ acc)) ≡ a
      go (inl q) ih = rw q (rw (eq-eqb a.rec a.rec refl))
      go (inr q) ih = rw q (rw q (ih (rw q at h)))

  find_apart : (j : ℕ) → ¬ (j ≡ a.rec) → (acc : List Access)
      → find (is_of j) (no_access j) (put acc) ≡ find (is_of j) (no_access j) acc
  find_apart j n [] = refl
  find_apart j n (y ∷ acc) = go (test (is_of a.rec y)) (find_apart j n acc)
    where
      go : (is_of a.rec y ≡ true) ⊎ (is_of a.rec y ≡ false)
          → find (is_of j) (no_access j) (put acc) ≡ find (is_of j) (no_access j) acc
          → find (is_of j) (no_access j) (put (y ∷ acc)) ≡ find (is_of j) (no_access j) (y ∷ acc)
      go (inl q) ih =
          let z : is_of j y ≡ false = ne_eqb y.rec j (λ w. n (sym w ∙ eqb-true y.rec a.rec q)) in
          rw q (rw (ne_eqb a.rec j (λ w. n (sym w)), z) ih)
      go (inr q) ih = rw q (rw ih)

  pub access_here : (e : Edit) → access_of (with_access e a) a.rec ≡ a
  unfolding access_of with_access names
  access_here e = go (test (names e a.rec))
    where
      go : (names e a.rec ≡ true) ⊎ (names e a.rec ≡ false) → access_of (with_access e a) a.rec ≡ a
      go (inl q) = rw q (find_put e.accesses q)
      go (inr q) = rw q (rw (eq-eqb a.rec a.rec refl))

  pub access_there : (e : Edit) (j : ℕ) → ¬ (j ≡ a.rec) → access_of (with_access e a) j ≡ access_of e j
  unfolding access_of with_access names
  access_there e j n = go (test (names e a.rec))
    where
      go : (names e a.rec ≡ true) ⊎ (names e a.rec ≡ false) → access_of (with_access e a) j ≡ access_of e j
      go (inl q) = rw q (find_apart j n e.accesses)
      go (inr q) = rw q (rw (ne_eqb a.rec j (λ w. n (sym w))))
