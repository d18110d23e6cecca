-- The first blocked point is the least blocked point of a span, and Lock and Read take the run that document 01 names,
-- with either flag; what frozen and held mean point by point. Rests on Tests and Spans.
use Prim.Native.Nat.{ℕ, suc, ◌-◌, ◌≤◌, ◌<◌}
use native.Mathlib.Omega.{arith}
use native.Mathlib.Nat.{le_refl}
use mathlib.Core.Path.{◌≡◌, refl, sym, ◌∙◌}
use mathlib.Core.Logic.{◌⊎◌, inl, inr, ◌↔◌}
use mathlib.Core.Bool.{Bool, true, false, ◌&&◌, ◌||◌}
use mathlib.Core.List.Memᴰ
use mathlib.Core.List.{List, map}
use lib.Dec.{leb, ltb, eqb}
use borrow.Author.Tests.{leb-true, leb-false, ltb-true, ltb-false, eqb-true, eq-eqb}
use Rattle.meaning.specs.Lists.{◌∈◌, any, keep, least}
use Rattle.types.specs.Limits.{SLOTS, READ, WRITE, SETTLED}
use Rattle.meaning.specs.Store.{Version, Lock, Rec, Store, rec_at}
use Rattle.meaning.specs.Points.{is_owned, covers, conflicts, blockers, first_blocked, first_open, frozen, holder}
use Rattle.meaning.specs.Locking.{grant_end, lock_from, lock_end, lock_granted, read_granted}
use Rattle.meaning.specs.Pointwise.{BlockedBy, Blocked, Proper, LeastBlocked, NoneBlocked, FreeRun, PartTaken}
use Rattle.meaning.specs.Pointwise.{LockTakes, LockDenied, ReadTakes, ReadDenied, VersionOn, SettledOn, Frozen}
use Rattle.meaning.specs.Pointwise.{LowestHolder}
use Rattle.meaning.specs.Laws.{FirstBlockedIsLeast, LockTakesRun, ReadTakesRun}
use Rattle.types.specs.declared.Extent.{Extent}
use Rattle.types.specs.declared.Extent.TheVariants.{All, Part}
use Rattle.meaning.proofs.Lists.{and_in, and_left, and_right, or_out, or_left, or_right, test, any_in, any_out}
use Rattle.meaning.proofs.Lists.{keep_in, keep_out, least_le, least_out}
use Rattle.meaning.proofs.Tests.{Under, covers_out, covers_in, owned_out, owned_in, conflicts_out, conflicts_in}
use Rattle.meaning.proofs.Tests.{blockers_out, blockers_in, Covered}
use Rattle.meaning.proofs.Spans.{first_covered_top, first_covered_low, first_covered_is, first_covered_least}
use Rattle.meaning.proofs.Spans.{first_free_low, first_free_is, first_free_run}

-- a point is blocked exactly if it is under one of the locks that block
module _ (mode k : ℕ) (x : Rec) (p : ℕ) where
  pub blocked_by_lem : {l : Lock} → l ∈ blockers mode k x → Under p l → BlockedBy mode k x p l.owner
  blocked_by_lem {l} m u =
      let w = blockers_out mode k x m in
      record {
        lock = l;
        member = w.0;
        owned = refl;
        other = w.1.other;
        against = w.1.against;
        from = u.from;
        upto = u.upto;
      }

  pub blocked_out : Covered (blockers mode k x) p → Blocked mode k x p
  blocked_out c = (c.lock.owner, blocked_by_lem c.member c.under)

  pub by_blocker : (o : ℕ) → (b : BlockedBy mode k x p o) → b.lock ∈ blockers mode k x
  by_blocker o b =
      blockers_in mode k x b.member (record { other = λ e. b.other (sym b.owned ∙ e); against = b.against })

  pub blocked_in : Blocked mode k x p → Covered (blockers mode k x) p
  blocked_in b =
      record {
        lock = b.1.lock;
        member = by_blocker b.0 b.1;
        under = record { from = b.1.from; upto = b.1.upto };
      }

-- the first blocked point, where there is one and where there is none
module _ (mode k : ℕ) (x : Rec) (low high : ℕ) where
  pub first_blocked_free : (q : ℕ) → low ≤ q → q < first_blocked mode k x low high → Blocked mode k x q → ⊥
  first_blocked_free q h g b = first_covered_least (blockers mode k x) low high q h g (blocked_in mode k x q b)

  pub first_blocked_is : Proper x → first_blocked mode k x low high ≤ high
      → Blocked mode k x (first_blocked mode k x low high)
  first_blocked_is proper h =
      blocked_out mode k x (first_blocked mode k x low high)
      (first_covered_is (blockers mode k x) low high (λ l m. proper l (blockers_out mode k x m).0) h)

  pub none_blocked : high < first_blocked mode k x low high → NoneBlocked mode k x low high
  none_blocked h q f g = first_blocked_free q f (omega arith)

  pub least_blocked : Proper x → low ≤ high → first_blocked mode k x low high ≤ high
      → LeastBlocked mode k x low high (first_blocked mode k x low high)
  least_blocked proper s h =
      record {
        from = first_covered_low (blockers mode k x) low high (omega arith);
        upto = h;
        blocked = first_blocked_is proper h;
        least = first_blocked_free;
      }

  -- the run from a point that is not blocked
  pub free_run : Proper x → low ≤ high → (Blocked mode k x low → ⊥)
      → FreeRun mode k x high low (first_blocked mode k x low high - 1)
  free_run proper s f =
      let a : low < first_blocked mode k x low high = past (test (ltb low (first_blocked mode k x low high))) in
      let t = first_covered_top (blockers mode k x) low high in
      record {
        some = omega arith;
        upto = omega arith;
        free = λ q g h. first_blocked_free q g (omega arith);
        next = next a (test (leb (first_blocked mode k x low high) high));
      }
    where
      past : (ltb low (first_blocked mode k x low high) ≡ true) ⊎ (ltb low (first_blocked mode k x low high) ≡ false)
          → low < first_blocked mode k x low high
      past (inl e) = ltb-true low (first_blocked mode k x low high) e
      past (inr e) =
          let g = ltb-false low (first_blocked mode k x low high) e in
          let b = least_blocked proper s (omega arith) in
          let same : first_blocked mode k x low high ≡ low = omega (arith, b.from) in
          absurd (f (rw same at b.blocked))

      next : low < first_blocked mode k x low high
          → (leb (first_blocked mode k x low high) high ≡ true) ⊎ (leb (first_blocked mode k x low high) high ≡ false)
          → (first_blocked mode k x low high - 1 ≡ high) ⊎ Blocked mode k x (suc (first_blocked mode k x low high - 1))
      next a (inl e) =
          let same : first_blocked mode k x low high ≡ suc (first_blocked mode k x low high - 1) = omega arith in
          inr (rw same at (first_blocked_is proper (leb-true (first_blocked mode k x low high) high e)))
      next a (inr e) =
          inl (omega
          (arith, leb-false (first_blocked mode k x low high) high e, first_covered_top (blockers mode k x) low high))

pub first_blocked_is_least : FirstBlockedIsLeast
first_blocked_is_least mode k x low high proper s = go (test (leb (first_blocked mode k x low high) high))
  where
    go : (leb (first_blocked mode k x low high) high ≡ true) ⊎ (leb (first_blocked mode k x low high) high ≡ false)
        → LeastBlocked mode k x low high (first_blocked mode k x low high)
        ⊎ ((first_blocked mode k x low high ≡ suc high) × NoneBlocked mode k x low high)
    go (inl e) = inl (least_blocked mode k x low high proper s (leb-true (first_blocked mode k x low high) high e))
    go (inr e) =
        let h = leb-false (first_blocked mode k x low high) high e in
        inr (omega (arith, first_covered_top (blockers mode k x) low high), none_blocked mode k x low high h)

-- Lock
module _ (k : ℕ) (x : Rec) (low high : ℕ) (proper : Proper x) (s : low ≤ high) where
  part_taken : first_open WRITE k x low high ≤ high
      → PartTaken k x low high (lock_from Part k x low high) (lock_end Part k x low high)
  part_taken h =
      record {
        starts = first_free_low (blockers WRITE k x) low high (omega arith);
        skipped = λ q f g. blocked_out WRITE k x q (first_free_run (blockers WRITE k x) low high q f g);
        taken =
            free_run WRITE k x (first_open WRITE k x low high) high proper h
            (λ b. first_free_is (blockers WRITE k x) low high h
            (blocked_in WRITE k x (first_open WRITE k x low high) b));
      }

  lock_taken : (w : Extent) → lock_granted w k x low high ≡ true
      → LockTakes w k x low high (lock_from w k x low high) (lock_end w k x low high)
  lock_taken All e = (refl, refl, none_blocked WRITE k x low high (ltb-true high (first_blocked WRITE k x low high) e))
  lock_taken Part e = part_taken (leb-true (first_open WRITE k x low high) high e)

  lock_denied : (w : Extent) → lock_granted w k x low high ≡ false → LockDenied w k x low high
  lock_denied All e = (
    first_blocked WRITE k x low high,
    least_blocked WRITE k x low high proper s (ltb-false high (first_blocked WRITE k x low high) e),
  )
  lock_denied Part e =
      λ q f g.
      let h = leb-false (first_open WRITE k x low high) high e in
      blocked_out WRITE k x q (first_free_run (blockers WRITE k x) low high q f (omega arith))

pub lock_takes_run : LockTakesRun
lock_takes_run w k x low high proper s = (lock_taken k x low high proper s w, lock_denied k x low high proper s w)

-- Read
module _ (k : ℕ) (x : Rec) (low high : ℕ) (proper : Proper x) (s : low ≤ high) where
  read_taken_lem : (w : Extent) → read_granted w k x low high ≡ true
      → ReadTakes w k x low high (grant_end w READ k x low high)
  read_taken_lem All e = (refl, none_blocked READ k x low high (ltb-true high (first_blocked READ k x low high) e))
  read_taken_lem Part e =
      free_run READ k x low high proper s
      (first_blocked_free READ k x low high low (le_refl low) (ltb-true low (first_blocked READ k x low high) e))

  read_denied : (w : Extent) → read_granted w k x low high ≡ false → ReadDenied w k x low high
  read_denied All e = (
    first_blocked READ k x low high,
    least_blocked READ k x low high proper s (ltb-false high (first_blocked READ k x low high) e),
  )
  read_denied Part e =
      let g = ltb-false low (first_blocked READ k x low high) e in
      let b = least_blocked READ k x low high proper s (omega arith) in
      let same : first_blocked READ k x low high ≡ low = omega (arith, b.from) in
      rw same at b.blocked

pub read_takes_run : ReadTakesRun
read_takes_run w k x low high proper s = (read_taken_lem k x low high proper s w, read_denied k x low high proper s w)

-- frozen
module _ (mode p : ℕ) where
  abbrev settles : Lock → Bool
  settles l = is_owned SETTLED l && conflicts mode l && covers p l

  pub settled_out : (x : Rec) → any settles x.locks ≡ true → SettledOn mode x p
  settled_out x e =
      let w = any_out settles x.locks e in
      let l : Lock = w.0 in
      let d = and_left (is_owned SETTLED l && conflicts mode l) (covers p l) w.2 in
      let u = covers_out p l (and_right (is_owned SETTLED l && conflicts mode l) (covers p l) w.2) in
      record {
        lock = l;
        member = w.1;
        owned = owned_out SETTLED l (and_left (is_owned SETTLED l) (conflicts mode l) d);
        against = conflicts_out mode l (and_right (is_owned SETTLED l) (conflicts mode l) d);
        from = u.from;
        upto = u.upto;
      }

  pub settled_in : (x : Rec) → SettledOn mode x p → any settles x.locks ≡ true
  settled_in x b =
      any_in settles b.member
      (and_in (and_in (owned_in SETTLED b.lock b.owned) (conflicts_in mode b.lock b.against))
      (covers_in p b.lock (record { from = b.from; upto = b.upto })))

module _ (p : ℕ) where
  abbrev stands : Version → Bool
  stands v = eqb v.point p

  pub version_out : (x : Rec) → any stands x.versions ≡ true → VersionOn x p
  version_out x e =
      let w = any_out stands x.versions e in
      record { version = w.0; member = w.1; stands = eqb-true w.0.point p w.2 }

  pub version_in : (x : Rec) → VersionOn x p → any stands x.versions ≡ true
  version_in x b = any_in stands b.member (eq-eqb b.version.point p b.stands)

pub frozen_is : (s : Store) (r mode p : ℕ) → (frozen s r mode p ≡ true) ↔ Frozen s r mode p
unfolding frozen
frozen_is s r mode p =
    (λ e. out (or_out (any (settles mode p) (rec_at s r).locks) (any (stands p) (rec_at s r).versions) e), back)
  where
    out : (any (settles mode p) (rec_at s r).locks ≡ true) ⊎ (any (stands p) (rec_at s r).versions ≡ true)
        → Frozen s r mode p
    out (inl e) = inl (settled_out mode p (rec_at s r) e)
    out (inr e) = inr (version_out p (rec_at s r) e)

    back : Frozen s r mode p → (any (settles mode p) (rec_at s r).locks || any (stands p) (rec_at s r).versions) ≡ true
    back (inl b) = or_left (any (stands p) (rec_at s r).versions) (settled_in mode p (rec_at s r) b)
    back (inr b) = or_right (any (settles mode p) (rec_at s r).locks) (version_in p (rec_at s r) b)

-- held: where every owner that blocks is a slot, the least of them is named
module _ (mode k : ℕ) (x : Rec) (p : ℕ) where
  abbrev pub owners : List ℕ
  owners = map (λ l. l.owner) (keep (covers p) (blockers mode k x))

  pub owner_in : (o : ℕ) → BlockedBy mode k x p o → o ∈ owners
  owner_in o w =
      let u : Under p w.lock = record { from = w.from; upto = w.upto } in
      Memᴰ.cast (sym w.owned)
      (Memᴰ.map (λ l. l.owner) (keep_in (covers p) (by_blocker mode k x p o w) (covers_in p w.lock u)))

  pub owner_out : {o : ℕ} → o ∈ owners → BlockedBy mode k x p o
  owner_out m =
      let w = Memᴰ.of_map (λ l. l.owner) (keep (covers p) (blockers mode k x)) m in
      let n = keep_out (covers p) (blockers mode k x) w.1 in
      rw w.2 at (blocked_by_lem mode k x p n.0 (covers_out p w.0 n.1))

  pub holder_le : (o : ℕ) → BlockedBy mode k x p o → holder mode k x p ≤ o
  unfolding holder
  holder_le o w = least_le SLOTS (owner_in o w)

  pub holder_out : (holder mode k x p ≡ SLOTS) ⊎ (holder mode k x p ∈ owners)
  unfolding holder
  holder_out = least_out SLOTS owners

  pub holder_is_lowest : ((o : ℕ) → BlockedBy mode k x p o → o < SLOTS) → Blocked mode k x p
      → LowestHolder mode k x p (holder mode k x p)
  holder_is_lowest slots b = record { holds = go holder_out; lowest = holder_le }
    where
      go : (holder mode k x p ≡ SLOTS) ⊎ (holder mode k x p ∈ owners) → BlockedBy mode k x p (holder mode k x p)
      go (inl e) = absurd (omega (arith, slots b.0 b.1, holder_le b.0 b.1))
      go (inr m) = owner_out m
