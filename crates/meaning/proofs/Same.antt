-- Where two records have the same modes on every point, every search finds the same: the first blocked and the first
-- free point, what is frozen, the holder, the common set, its earliest and its latest point. Rests on Points,
-- CommonSet and LockChanges.
use Prim.Native.Nat.{ℕ, suc, ◌-◌, ◌≤◌}
use native.Mathlib.Omega.{arith}
use mathlib.Core.Path.{◌≡◌, refl, sym, ◌∙◌}
use mathlib.Core.Logic.{◌⊎◌, inl, inr}
use mathlib.Core.Bool.{true, false}
use mathlib.Core.List.{List}
use lib.Dec.{ltb}
use borrow.Author.Tests.{ltb-true, ltb-false}
use Rattle.meaning.specs.Lists.{◌∈◌, least}
use Rattle.types.specs.Limits.{LAST, SLOTS, WRITE, SETTLED}
use Rattle.meaning.specs.Store.{Lock, Rec, Edit, Store, rec_of, rec_at}
use Rattle.meaning.specs.Points.{blockers, first_blocked, first_open, first_free, holder, in_common, earliest}
use Rattle.meaning.specs.Points.{latest}
use Rattle.meaning.specs.Pointwise.{LockOn, HeldOn, BlockedBy, Blocked, Proper, LeastBlocked, NoneBlocked}
use Rattle.meaning.specs.Pointwise.{SettledOn, Frozen, InCommonSet, LeastCommon, GreatestCommon, EmptyCommonSet}
use Rattle.meaning.proofs.Lists.{both, test, least_default}
use Rattle.meaning.proofs.Spans.{first_free_top, first_free_low, first_free_is, first_free_run}
use Rattle.meaning.proofs.Tests.{Covered}
use Rattle.meaning.proofs.Points.{blocked_in, blocked_out, first_blocked_is_least, owner_out}
use Rattle.meaning.proofs.Points.{holder_le}
use Rattle.meaning.proofs.Points.{holder_out, owners}
use Rattle.meaning.proofs.LockChanges.{held_is}
use Rattle.meaning.proofs.CommonSet.{common_set_is}
use Rattle.meaning.proofs.CommonEnds.{earliest_is_least, latest_is_greatest}

-- "every record, point and owner has the same modes": of one record
pub record Modes (x y : Rec) : Type 0 where
  pub each : (o m p : ℕ) → LockOn x.locks o m p → LockOn y.locks o m p

against_same : {mode m n : ℕ} → n ≡ m → (mode ≡ WRITE) ⊎ (m ≡ WRITE) → (mode ≡ WRITE) ⊎ (n ≡ WRITE)
against_same e (inl z) = inl z
against_same e (inr z) = inr (e ∙ z)

module _ {x y : Rec} (to : Modes x y) where
  pub by_same : {mode k p o : ℕ} → BlockedBy mode k x p o → BlockedBy mode k y p o
  by_same {mode} {k} {p} {o} b =
      let w = to.each o b.lock.mode p
      (record { lock = b.lock; member = b.member; owned = b.owned; moded = refl; from = b.from; upto = b.upto }) in
      record {
        lock = w.lock;
        member = w.member;
        owned = w.owned;
        other = b.other;
        against = against_same w.moded b.against;
        from = w.from;
        upto = w.upto;
      }

  pub blocked_same : {mode k p : ℕ} → Blocked mode k x p → Blocked mode k y p
  blocked_same b = (b.0, by_same b.1)

  pub held_same : {o p : ℕ} → HeldOn x.locks o p → HeldOn y.locks o p
  held_same {o} {p} h =
      let w = (held_is x.locks o p).0 h in (held_is y.locks o p).1 (w.0, to.each o w.0 p w.1)

  pub settled_same : {mode p : ℕ} → SettledOn mode x p → SettledOn mode y p
  settled_same {mode} {p} b =
      let w = to.each SETTLED b.lock.mode p
      (record { lock = b.lock; member = b.member; owned = b.owned; moded = refl; from = b.from; upto = b.upto }) in
      record {
        lock = w.lock;
        member = w.member;
        owned = w.owned;
        against = against_same w.moded b.against;
        from = w.from;
        upto = w.upto;
      }

module _ {x y : Rec} (to : Modes x y) (from : Modes y x) where
  -- two least blocked points are one
  pub first_blocked_same : Proper x → Proper y → (mode k low high : ℕ) → low ≤ high
      → first_blocked mode k x low high ≡ first_blocked mode k y low high
  first_blocked_same px py mode k low high s =
      go (first_blocked_is_least mode k x low high px s) (first_blocked_is_least mode k y low high py s)
    where
      go : LeastBlocked mode k x low high (first_blocked mode k x low high)
          ⊎ ((first_blocked mode k x low high ≡ suc high) × NoneBlocked mode k x low high)
          → LeastBlocked mode k y low high (first_blocked mode k y low high)
          ⊎ ((first_blocked mode k y low high ≡ suc high) × NoneBlocked mode k y low high)
          → first_blocked mode k x low high ≡ first_blocked mode k y low high
      go (inl p) (inl q) = order (test (ltb (first_blocked mode k x low high) (first_blocked mode k y low high)))
          (test (ltb (first_blocked mode k y low high) (first_blocked mode k x low high)))
        where
          order : (ltb (first_blocked mode k x low high) (first_blocked mode k y low high) ≡ true)
              ⊎ (ltb (first_blocked mode k x low high) (first_blocked mode k y low high) ≡ false)
              → (ltb (first_blocked mode k y low high) (first_blocked mode k x low high) ≡ true)
              ⊎ (ltb (first_blocked mode k y low high) (first_blocked mode k x low high) ≡ false)
              → first_blocked mode k x low high ≡ first_blocked mode k y low high
          order (inl e) f =
              absurd (q.least (first_blocked mode k x low high) p.from
              (ltb-true (first_blocked mode k x low high) (first_blocked mode k y low high) e)
              (blocked_same to p.blocked))
          order (inr e) (inl f) =
              absurd (p.least (first_blocked mode k y low high) q.from
              (ltb-true (first_blocked mode k y low high) (first_blocked mode k x low high) f)
              (blocked_same from q.blocked))
          order (inr e) (inr f) =
              omega (
                arith,
                ltb-false (first_blocked mode k x low high) (first_blocked mode k y low high) e,
                ltb-false (first_blocked mode k y low high) (first_blocked mode k x low high) f,
              )
      go (inl p) (inr q) =
          absurd (q.1 (first_blocked mode k x low high) p.from p.upto (blocked_same to p.blocked))
      go (inr p) (inl q) =
          absurd (p.1 (first_blocked mode k y low high) q.from q.upto (blocked_same from q.blocked))
      go (inr p) (inr q) = p.0 ∙ sym q.0

  pub holder_same : (mode k p : ℕ) → holder mode k x p ≤ holder mode k y p
  unfolding holder
  holder_same mode k p = go (holder_out mode k y p)
    where
      go : (holder mode k y p ≡ SLOTS) ⊎ (holder mode k y p ∈ owners mode k y p) → holder mode k x p ≤ holder mode k y p
      go (inl e) = omega (arith, e, least_default SLOTS (owners mode k x p))
      go (inr i) = holder_le mode k x p (holder mode k y p) (by_same from (owner_out mode k y p i))

-- the first free point, from the points covered alone
pub first_free_same : (ls ms : List Lock) (low high : ℕ) → low ≤ high
    → ((p : ℕ) → Covered ls p → Covered ms p) → first_free ls low high ≤ first_free ms low high
first_free_same ls ms low high s to = go (test (ltb (first_free ms low high) (first_free ls low high)))
  where
    go : (ltb (first_free ms low high) (first_free ls low high) ≡ true)
        ⊎ (ltb (first_free ms low high) (first_free ls low high) ≡ false)
        → first_free ls low high ≤ first_free ms low high
    go (inr e) = ltb-false (first_free ms low high) (first_free ls low high) e
    go (inl e) =
        let h = ltb-true (first_free ms low high) (first_free ls low high) e in
        absurd (first_free_is ms low high (omega (arith, h, first_free_top ls low high))
        (to (first_free ms low high)
        (first_free_run ls low high (first_free ms low high) (first_free_low ms low high (omega (arith, s))) h)))

pub first_open_same : {x y : Rec} → Modes x y → Modes y x → (mode k low high : ℕ) → low ≤ high
    → first_open mode k x low high ≡ first_open mode k y low high
first_open_same {x} {y} to from mode k low high s =
    omega (
      arith,
      first_free_same (blockers mode k x) (blockers mode k y) low high s
          (λ p c. blocked_in mode k y p (blocked_same to (blocked_out mode k x p c))),
      first_free_same (blockers mode k y) (blockers mode k x) low high s
          (λ p c. blocked_in mode k x p (blocked_same from (blocked_out mode k y p c))),
    )

-- the common set
module _ (rs us : List Rec) (k : ℕ) (e : Edit) where
  pub common_same : ((r : ℕ) → Modes (rec_of rs r) (rec_of us r)) → (p : ℕ) → InCommonSet rs k e p
      → InCommonSet us k e p
  common_same to p c =
      record {
        least = c.least;
        last = c.last;
        written = λ a i w. (to a.rec).each k WRITE p (c.written a i w);
        above = c.above;
        under = λ a tr q i z l h. held_same (to a.rec) (c.under a tr q i z l h);
      }

module _ (rs us : List Rec) (to : (r : ℕ) → Modes (rec_of rs r) (rec_of us r))
    (from : (r : ℕ) → Modes (rec_of us r) (rec_of rs r)) (k : ℕ) (e : Edit) where
  pub in_common_same : (p : ℕ) → in_common rs k e p ≡ in_common us k e p
  in_common_same p =
      both (in_common rs k e p) (in_common us k e p)
      (λ t. (common_set_is us k e p).1 (common_same rs us k e to p ((common_set_is rs k e p).0 t)))
      (λ t. (common_set_is rs k e p).1 (common_same us rs k e from p ((common_set_is us k e p).0 t)))

  pub earliest_same : earliest rs k e ≡ earliest us k e
  earliest_same = go (earliest_is_least rs k e) (earliest_is_least us k e)
    where
      go : LeastCommon rs k e (earliest rs k e) ⊎ ((earliest rs k e ≡ suc LAST) × EmptyCommonSet rs k e)
          → LeastCommon us k e (earliest us k e) ⊎ ((earliest us k e ≡ suc LAST) × EmptyCommonSet us k e)
          → earliest rs k e ≡ earliest us k e
      go (inl p) (inl q) =
          omega (
            arith,
            p.least (earliest us k e) (common_same us rs k e from (earliest us k e) q.common),
            q.least (earliest rs k e) (common_same rs us k e to (earliest rs k e) p.common),
          )
      go (inl p) (inr q) = absurd (q.1 (earliest rs k e) (common_same rs us k e to (earliest rs k e) p.common))
      go (inr p) (inl q) = absurd (p.1 (earliest us k e) (common_same us rs k e from (earliest us k e) q.common))
      go (inr p) (inr q) = p.0 ∙ sym q.0

  pub latest_same : latest rs k e ≡ latest us k e
  latest_same = go (latest_is_greatest rs k e) (latest_is_greatest us k e)
    where
      go : GreatestCommon rs k e (latest rs k e) ⊎ ((latest rs k e ≡ 0) × EmptyCommonSet rs k e)
          → GreatestCommon us k e (latest us k e) ⊎ ((latest us k e ≡ 0) × EmptyCommonSet us k e)
          → latest rs k e ≡ latest us k e
      go (inl p) (inl q) =
          omega (
            arith,
            p.greatest (latest us k e) (common_same us rs k e from (latest us k e) q.common),
            q.greatest (latest rs k e) (common_same rs us k e to (latest rs k e) p.common),
          )
      go (inl p) (inr q) = absurd (q.1 (latest rs k e) (common_same rs us k e to (latest rs k e) p.common))
      go (inr p) (inl q) = absurd (p.1 (latest us k e) (common_same us rs k e from (latest us k e) q.common))
      go (inr p) (inr q) = p.0 ∙ sym q.0

-- frozen
pub frozen_same : (s t : Store) (r mode p : ℕ) → Modes (rec_at s r) (rec_at t r)
    → (rec_at s r).versions ≡ (rec_at t r).versions → Frozen s r mode p → Frozen t r mode p
frozen_same s t r mode p to e (inl b) = inl (settled_same to b)
frozen_same s t r mode p to e (inr v) = inr (record {
  version = v.version;
  member = rw e at v.member;
  stands = v.stands;
})
