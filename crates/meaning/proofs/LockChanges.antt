-- The four changes of a record's locks, point by point: which owner has a lock of which mode on which point after a
-- change, in terms of before; and lock by lock. Rests on Lists and Tests.
use Prim.Native.Nat.{ℕ, ◌<◌}
use native.Mathlib.Omega.{arith}
use mathlib.Core.Path.{◌≡◌, refl, sym, ap, ◌∙◌}
use mathlib.Core.Logic.{◌⊎◌, inl, inr, ◌↔◌}
use mathlib.Core.Bool.{Bool, true, false, not, cond, false≢true}
use mathlib.Core.List.Memᴰ
use mathlib.Core.List.{List}
use lib.Dec.{leb, eqb}
use borrow.Author.Tests.{lt-leb, not-true, eqb-true}
use Rattle.meaning.specs.Lists.{◌∈◌, keep}
use Rattle.types.specs.Limits.{READ, SETTLED}
use Rattle.meaning.specs.Points.{settled_lock, put_lock, join_read, cut}
pub use Rattle.meaning.proofs.Joining.{IsOn, lock_on, is_on, LeftOn}
use Rattle.meaning.proofs.Joining.{put_is, join_is}
use Rattle.meaning.specs.Store.{Lock}
use Rattle.meaning.specs.Points.{is_owned, add_lock, leave_settled, drop_owner, emptied, trimmed, trim_to}
use Rattle.meaning.specs.Pointwise.{LockOn, HeldOn}
use Rattle.meaning.proofs.Lists.{test, false_in, not_both, and_left, and_right, keep_in, keep_out}
use Rattle.meaning.proofs.Tests.{owned_out, unowned_out, other_out, other_in}

-- held is locked in some mode
pub held_is : (ls : List Lock) (o p : ℕ) → HeldOn ls o p ↔ ((m : ℕ) × LockOn ls o m p)
held_is ls o p = (
  λ h. (
    h.lock.mode,
    record { lock = h.lock; member = h.member; owned = h.owned; moded = refl; from = h.from; upto = h.upto },
  ),
  λ w. record { lock = w.1.lock; member = w.1.member; owned = w.1.owned; from = w.1.from; upto = w.1.upto },
)

-- a lock is added: it counts besides those before
pub add_lock_is : (l : Lock) (ls : List Lock) (o m p : ℕ)
    → LockOn (add_lock l ls) o m p ↔ (IsOn l o m p ⊎ LockOn ls o m p)
unfolding add_lock
add_lock_is l ls o m p = put_is l ls o m p

-- a settled lock on low..high is left where the test holds
pub leave_settled_is : (b : Bool) (mode low high : ℕ) (ls : List Lock) (o m p : ℕ)
    → LockOn (leave_settled b mode low high ls) o m p ↔ (LeftOn b mode low high o m p ⊎ LockOn ls o m p)
unfolding leave_settled
leave_settled_is true mode low high ls o m p = go (test (eqb mode READ))
  where
    sides : IsOn (settled_lock mode low high) o m p ⊎ LockOn ls o m p
        → LeftOn true mode low high o m p ⊎ LockOn ls o m p
    sides (inl w) =
        inl (record { left = refl; owned = sym w.owned; moded = sym w.moded; from = w.from; upto = w.upto })
    sides (inr w) = inr w

    sides_back : LeftOn true mode low high o m p ⊎ LockOn ls o m p
        → IsOn (settled_lock mode low high) o m p ⊎ LockOn ls o m p
    sides_back (inl w) = inl (record { owned = sym w.owned; moded = sym w.moded; from = w.from; upto = w.upto })
    sides_back (inr w) = inr w

    as_read : mode ≡ READ → LeftOn true mode low high o m p ⊎ LockOn ls o m p
        → LeftOn true READ low high o m p ⊎ LockOn ls o m p
    as_read z (inl w) = inl (record {
      left = refl;
      owned = w.owned;
      moded = w.moded ∙ z;
      from = w.from;
      upto = w.upto;
    })
    as_read z (inr w) = inr w

    as_mode : mode ≡ READ → LeftOn true READ low high o m p ⊎ LockOn ls o m p
        → LeftOn true mode low high o m p ⊎ LockOn ls o m p
    as_mode z (inl w) = inl (record {
      left = refl;
      owned = w.owned;
      moded = w.moded ∙ sym z;
      from = w.from;
      upto =
          w.upto;
    })
    as_mode z (inr w) = inr w

    go : (eqb mode READ ≡ true) ⊎ (eqb mode READ ≡ false)
        → LockOn (cond (eqb mode READ) (join_read low high ls) (put_lock (settled_lock mode low high) ls)) o m p
        ↔ (LeftOn true mode low high o m p ⊎ LockOn ls o m p)
    go (inl e) =
        let z = eqb-true mode READ e in
        rw e (λ w. as_mode z ((join_is low high ls o m p).0 w), λ w. (join_is low high ls o m p).1 (as_read z w))
    go (inr e) =
        let is = put_is (settled_lock mode low high) ls o m p in
        rw e (λ w. sides (is.0 w), λ w. is.1 (sides_back w))
leave_settled_is false mode low high ls o m p = (inr, back)
  where
    back : LeftOn false mode low high o m p ⊎ LockOn ls o m p → LockOn ls o m p
    back (inl w) = absurd (false≢true w.left)
    back (inr w) = w

-- one owner's locks go
pub drop_owner_member : (k : ℕ) (ls : List Lock) {l : Lock} → (l ∈ drop_owner k ls) ↔ ((l ∈ ls) × (l.owner ≡ k → ⊥))
unfolding drop_owner
drop_owner_member k ls {l} = (
  λ i. let w = keep_out (λ l. not (is_owned k l)) ls i in (w.0, other_out k l w.1),
  λ w. keep_in (λ l. not (is_owned k l)) w.0 (other_in k l w.1),
)

pub drop_owner_is : (k : ℕ) (ls : List Lock) (o m p : ℕ)
    → LockOn (drop_owner k ls) o m p ↔ (LockOn ls o m p × (o ≡ k → ⊥))
drop_owner_is k ls o m p = (
  λ w. let i = (drop_owner_member k ls).0 w.member in (lock_on i.0 (is_on w), λ e. i.1 (w.owned ∙ e)),
  λ w. lock_on ((drop_owner_member k ls).1 (w.0.member, λ e. w.1 (sym w.0.owned ∙ e))) (is_on w.0),
)

-- settled locks lose their points up to v: a lock after the change is one before it, trimmed, that is not emptied
pub trim_to_member : (v : ℕ) (ls : List Lock) {l : Lock} → l ∈ trim_to v ls
    → (n : Lock) × (n ∈ ls) × (emptied v n ≡ false) × (trimmed v n ≡ l)
unfolding trim_to
trim_to_member v ls i =
    let w = Memᴰ.of_map (trimmed v) (keep (λ l. not (emptied v l)) ls) i in
    let n = keep_out (λ l. not (emptied v l)) ls w.1 in
    (w.0, n.0, not-true (emptied v w.0) n.1, w.2)

pub member_trim_to : (v : ℕ) (ls : List Lock) {n : Lock} → n ∈ ls → emptied v n ≡ false → trimmed v n ∈ trim_to v ls
unfolding trim_to
member_trim_to v ls i e = Memᴰ.map (trimmed v) (keep_in (λ l. not (emptied v l)) i (ap not e))

-- a lock with points above v, or of an edit, is not emptied
pub stays : (v : ℕ) (l : Lock) → (l.owner ≡ SETTLED → v < l.high) → emptied v l ≡ false
stays v l f =
    false_in (emptied v l)
    (λ e. not_both (and_right (is_owned SETTLED l) (leb l.high v) e)
    (lt-leb l.high v (f (owned_out SETTLED l (and_left (is_owned SETTLED l) (leb l.high v) e)))))

trimmed_is : (v : ℕ) (l : Lock) (o m p : ℕ) → IsOn (trimmed v l) o m p ↔ (IsOn l o m p × (o ≡ SETTLED → v < p))
trimmed_is v l o m p = go (is_owned SETTLED l) refl
  where
    go : (b : Bool) → is_owned SETTLED l ≡ b
        → IsOn (cond b (cut v l) l) o m
        p
        ↔ (IsOn l o m p × (o ≡ SETTLED → v < p))
    go true e = (
      λ w. (
        record { owned = w.owned; moded = w.moded; from = omega (arith, w.from); upto = w.upto },
        λ q. omega (arith, w.from),
      ),
      λ w.
          let h = w.1 (sym w.0.owned ∙ owned_out SETTLED l e) in
          record { owned = w.0.owned; moded = w.0.moded; from = omega (arith, w.0.from); upto = w.0.upto },
    )
    go false e = (λ w. (w, λ q. absurd (unowned_out SETTLED l e (w.owned ∙ q))), λ w. w.0)

pub trim_to_is : (v : ℕ) (ls : List Lock) (o m p : ℕ)
    → LockOn (trim_to v ls) o m p ↔ (LockOn ls o m p × (o ≡ SETTLED → v < p))
trim_to_is v ls o m p = (out, back)
  where
    out : LockOn (trim_to v ls) o m p → LockOn ls o m p × (o ≡ SETTLED → v < p)
    out w =
        let n = trim_to_member v ls w.member in
        let i = (trimmed_is v n.0 o m p).0 (rw n.3 (is_on w)) in
        (lock_on n.1 i.0, i.1)

    back : LockOn ls o m p × (o ≡ SETTLED → v < p) → LockOn (trim_to v ls) o m p
    back w =
        let l : Lock = w.0.lock in
        let e = stays v l (λ q. omega (arith, w.0.upto, w.1 (sym w.0.owned ∙ q))) in
        lock_on (member_trim_to v ls w.0.member e) ((trimmed_is v l o m p).1 (is_on w.0, w.1))
