-- Two lists of locks that mean the same, of which one is kept in the plain way and one joined, stay so under each
-- change of a record's locks, and the joined one is never the longer. Rests on Joining, Rows and Same.
use Prim.Native.Nat.{ℕ, suc, ◌-◌, ◌≤◌}
use native.Mathlib.Omega.{arith}
use mathlib.Core.Path.{◌≡◌, refl, sym, ap, ◌∙◌}
use mathlib.Core.Logic.{◌⊎◌, inl, inr, ◌↔◌}
use mathlib.Core.Bool.{Bool, true, false, not, cond, ◌&&◌, false≢true}
use mathlib.Core.List.Memᴰ
use mathlib.Core.List.{List, [], ◌∷◌, map}
use lib.Dec.{leb, eqb}
use lib.ListN.{length}
use borrow.Author.Tests.{leb-false, eqb-true}
use Rattle.meaning.specs.Lists.{◌∈◌, keep, pairwise}
use Rattle.types.specs.Limits.{READ, SETTLED}
use Rattle.meaning.specs.Store.{Lock}
use Rattle.meaning.specs.Points.{is_owned, drop_owner, trim_to, trimmed, emptied}
use Rattle.meaning.specs.Pointwise.{LockOn}
use Rattle.meaning.specs.Points.{no_later, put_lock, settled_lock, is_settled_read, touches, joined_row, join_read}
use Rattle.meaning.specs.Points.{apart_reads}
use Rattle.meaning.proofs.Lists.{and_left, and_right, test, keep_in, keep_out, keep_split}
use Rattle.meaning.proofs.Tests.{owned_out}
use Rattle.meaning.proofs.LockChanges.{IsOn, LeftOn, lock_on, is_on, drop_owner_is, drop_owner_member}
use Rattle.meaning.proofs.LockChanges.{trim_to_is, trim_to_member}
use Rattle.meaning.proofs.Joining.{put_out, put_old, put_new, join_is}
use Rattle.meaning.proofs.Trimmed.{kind_kept}
use Rattle.meaning.proofs.Rows.{Perm, none, skip, swap, then, perm_refl, perm_length, put_perm, fewer_reads}

-- lists up to their order
module _ {A : Type 0} where
  pub perm_member : {xs ys : List A} {z : A} → Perm xs ys → z ∈ xs → z ∈ ys
  perm_member none i = i
  perm_member {z = z} (skip {x} {xs} {ys} p) i = go (Memᴰ.cases_cons i) (λ j. perm_member p j)
    where
      go : (z ≡ x) ⊎ (z ∈ xs) → (z ∈ xs → z ∈ ys) → z ∈ x ∷ ys
      go (inl e) f = Memᴰ.head e
      go (inr j) f = Memᴰ.tail (f j)
  perm_member {z = z} (swap {x} {y} {xs}) i = go (Memᴰ.cases_cons i)
    where
      more : (z ≡ y) ⊎ (z ∈ xs) → z ∈ y ∷ x ∷ xs
      more (inl e) = Memᴰ.head e
      more (inr j) = Memᴰ.tail (Memᴰ.tail j)

      go : (z ≡ x) ⊎ (z ∈ y ∷ xs) → z ∈ y ∷ x ∷ xs
      go (inl e) = Memᴰ.tail (Memᴰ.head e)
      go (inr j) = more (Memᴰ.cases_cons j)
  perm_member (then p q) i = perm_member q (perm_member p i)

  pub perm_sym : {xs ys : List A} → Perm xs ys → Perm ys xs
  perm_sym none = none
  perm_sym (skip p) = skip (perm_sym p)
  perm_sym swap = swap
  perm_sym (then p q) = then (perm_sym q) (perm_sym p)

  pub perm_keep : (t : A → Bool) {xs ys : List A} → Perm xs ys → Perm (keep t xs) (keep t ys)
  perm_keep t none = none
  perm_keep t (skip {x} {xs} {ys} p) = go (t x) (perm_keep t p)
    where
      go : (b : Bool) → Perm (keep t xs) (keep t ys) → Perm (cond b (x ∷ keep t xs) (keep t xs)) (cond b (x ∷ keep t
          ys) (keep t ys))
      go true q = skip q
      go false q = q
  perm_keep t (swap {x} {y} {xs}) = go (t x) (t y)
    where
      go : (a b : Bool) → Perm (cond a (x ∷ cond b (y ∷ keep t xs) (keep t xs)) (cond b (y ∷ keep t xs) (keep t xs)))
          (cond b (y ∷ cond a (x ∷ keep t xs) (keep t xs)) (cond a (x ∷ keep t xs) (keep t xs)))
      go true true = swap
      go true false = perm_refl (x ∷ keep t xs)
      go false true = perm_refl (y ∷ keep t xs)
      go false false = perm_refl (keep t xs)
  perm_keep t (then p q) = then (perm_keep t p) (perm_keep t q)

  pub perm_map : (f : A → A) {xs ys : List A} → Perm xs ys → Perm (map f xs) (map f ys)
  perm_map f none = none
  perm_map f (skip p) = skip (perm_map f p)
  perm_map f swap = swap
  perm_map f (then p q) = then (perm_map f p) (perm_map f q)

  pub keep_swap : (a b : A → Bool) (xs : List A) → keep a (keep b xs) ≡ keep b (keep a xs)
  keep_swap a b [] = refl
  keep_swap a b (x ∷ xs) = go (test (a x)) (test (b x)) (keep_swap a b xs)
    where
      go : (a x ≡ true) ⊎ (a x ≡ false) → (b x ≡ true) ⊎ (b x ≡ false) → keep a (keep b xs) ≡ keep b (keep a xs)
          → keep a (keep b (x ∷ xs)) ≡ keep b (keep a (x ∷ xs))
      go (inl p) (inl q) e = rw (p, q, p) (ap (λ ys. x ∷ ys) e)
      go (inl p) (inr q) e = rw (p, q) e
      go (inr p) (inl q) e = rw (p, q, p) e
      go (inr p) (inr q) e = rw (p, q) e

-- a lock in front
cons_is : (l : Lock) (ls : List Lock) (o m p : ℕ) → LockOn (l ∷ ls) o m p ↔ (IsOn l o m p ⊎ LockOn ls o m p)
cons_is l ls o m p = (λ w. out w (Memᴰ.cases_cons w.member), back)
  where
    out : (w : LockOn (l ∷ ls) o m p) → (w.lock ≡ l) ⊎ (w.lock ∈ ls) → IsOn l o m p ⊎ LockOn ls o m p
    out w (inl e) = inl (rw e at (is_on w))
    out w (inr i) = inr (lock_on i (is_on w))

    back : IsOn l o m p ⊎ LockOn ls o m p → LockOn (l ∷ ls) o m p
    back (inl w) = lock_on (Memᴰ.head refl) w
    back (inr w) = lock_on (Memᴰ.tail w.member) (is_on w)

-- the rows that are no settled reads
abbrev pub is_plain : Lock → Bool
is_plain l = not (is_settled_read l)

abbrev pub plains : List Lock → List Lock
plains ls = keep is_plain ls

pub record Locks (xs ys : List Lock) : Type 0 where
  pub rows : Perm (plains xs) (plains ys)
  pub to : (p : ℕ) → LockOn xs SETTLED READ p → LockOn ys SETTLED READ p
  pub from : (p : ℕ) → LockOn ys SETTLED READ p → LockOn xs SETTLED READ p
  pub proper : (l : Lock) → l ∈ xs → l.low ≤ l.high

module _ {xs ys : List Lock} where
  one_way : Perm (plains xs) (plains ys) → ((p : ℕ) → LockOn xs SETTLED READ p → LockOn ys SETTLED READ p)
      → (o m p : ℕ) → LockOn xs o m p → LockOn ys o m p
  one_way rows to o m p w = go (test (is_settled_read w.lock))
    where
      go : (is_settled_read w.lock ≡ true) ⊎ (is_settled_read w.lock ≡ false) → LockOn ys o m p
      go (inl e) =
          let a = owned_out SETTLED w.lock (and_left (is_owned SETTLED w.lock) (eqb w.lock.mode READ) e) in
          let b = eqb-true w.lock.mode READ (and_right (is_owned SETTLED w.lock) (eqb w.lock.mode READ) e) in
          let v =
          to p (record {
            lock = w.lock;
            member = w.member;
            owned = a;
            moded = b;
            from = w.from;
            upto = w.upto;
          }) in
          record {
            lock = v.lock;
            member = v.member;
            owned = v.owned ∙ sym a ∙ w.owned;
            moded = v.moded ∙ sym b ∙ w.moded;
            from = v.from;
            upto = v.upto;
          }
      go (inr e) =
          lock_on (keep_out is_plain ys (perm_member rows (keep_in is_plain w.member (ap not e)))).0 (is_on w)

  pub modes_to : Locks xs ys → (o m p : ℕ) → LockOn xs o m p → LockOn ys o m p
  modes_to a = one_way a.rows a.to

pub modes_from : {xs ys : List Lock} → Locks xs ys → (o m p : ℕ) → LockOn ys o m p → LockOn xs o m p
modes_from {xs} {ys} a = one_way {xs = ys} {ys = xs} (perm_sym a.rows) a.from

-- a row in front, and at its place
pub add_alike : {xs ys : List Lock} (l : Lock) → l.low ≤ l.high → Locks xs ys → Locks (l ∷ xs) (put_lock l ys)
add_alike {xs} {ys} l h a =
    record {
      rows = then (front (is_plain l)) (perm_keep is_plain (put_perm l ys));
      to = into;
      from = out;
      proper = λ m i. each m (Memᴰ.cases_cons i);
    }
  where
    front : (b : Bool) → Perm (cond b (l ∷ plains xs) (plains xs)) (cond b (l ∷ plains ys) (plains ys))
    front true = skip a.rows
    front false = a.rows

    into : (p : ℕ) (w : LockOn (l ∷ xs) SETTLED READ p) → LockOn (put_lock l ys) SETTLED READ p
    into p w = go (Memᴰ.cases_cons w.member)
      where
        old : LockOn ys SETTLED READ p → LockOn (put_lock l ys) SETTLED READ p
        old v = lock_on (put_old l ys v.member) (is_on v)

        go : (w.lock ≡ l) ⊎ (w.lock ∈ xs) → LockOn (put_lock l ys) SETTLED READ p
        go (inl e) = lock_on (put_new l ys) (rw e at (is_on w))
        go (inr i) = old (a.to p (lock_on i (is_on w)))

    out : (p : ℕ) (w : LockOn (put_lock l ys) SETTLED READ p) → LockOn (l ∷ xs) SETTLED READ p
    out p w = go (put_out l ys w.member)
      where
        old : LockOn xs SETTLED READ p → LockOn (l ∷ xs) SETTLED READ p
        old v = lock_on (Memᴰ.tail v.member) (is_on v)

        go : (w.lock ≡ l) ⊎ (w.lock ∈ ys) → LockOn (l ∷ xs) SETTLED READ p
        go (inl e) = lock_on (Memᴰ.head refl) (rw e at (is_on w))
        go (inr i) = old (a.from p (lock_on i (is_on w)))

    each : (m : Lock) → (m ≡ l) ⊎ (m ∈ xs) → m.low ≤ m.high
    each m (inl e) = rw e h
    each m (inr i) = a.proper m i

-- an owner's rows go; not those of settled locks
pub drop_alike : {xs ys : List Lock} (k : ℕ) → (SETTLED ≡ k → ⊥) → Locks xs ys
    → Locks (drop_owner k xs) (drop_owner k ys)
unfolding drop_owner
drop_alike {xs} {ys} k n a =
    record {
      rows = rw (keep_swap is_plain (λ l. not (is_owned k l)) xs, keep_swap is_plain (λ l. not (is_owned k l)) ys)
          (perm_keep (λ l. not (is_owned k l)) a.rows);
      to = λ p w. (drop_owner_is k ys SETTLED READ p).1 (a.to p ((drop_owner_is k xs SETTLED READ p).0 w).0, n);
      from = λ p w. (drop_owner_is k xs SETTLED READ p).1 (a.from p ((drop_owner_is k ys SETTLED READ p).0 w).0, n);
      proper = λ l i. a.proper l ((drop_owner_member k xs).0 i).0;
    }

-- a settled read lock is left: a row in front, and joined
pub left_alike : {xs ys : List Lock} (low high : ℕ) → low ≤ high → Locks xs ys
    → Locks (settled_lock READ low high ∷ xs) (join_read low high ys)
left_alike {xs} {ys} low high h a =
    record {
      rows = then a.rows (then same (perm_keep is_plain
          (put_perm (joined_row low high ys) (keep (λ l. not (touches low high l)) ys))));
      to = λ p w. (join_is low high ys SETTLED READ p).1 (sides p ((cons_is (settled_lock READ low high) xs SETTLED READ
          p).0 w));
      from = λ p w. back p ((join_is low high ys SETTLED READ p).0 w);
      proper = λ m i. each m (Memᴰ.cases_cons i);
    }
  where
    sides : (p : ℕ) → IsOn (settled_lock READ low high) SETTLED READ p ⊎ LockOn xs SETTLED READ p
        → LeftOn true READ low high SETTLED READ p ⊎ LockOn ys SETTLED READ p
    sides p (inl w) = inl (record { left = refl; owned = refl; moded = refl; from = w.from; upto = w.upto })
    sides p (inr w) = inr (a.to p w)

    back : (p : ℕ) → LeftOn true READ low high SETTLED READ p ⊎ LockOn ys SETTLED READ p
        → LockOn (settled_lock READ low high ∷ xs) SETTLED READ p
    back p (inl w) =
        record {
          lock =
              settled_lock READ low high;
          member = Memᴰ.head refl;
          owned = refl;
          moded = refl;
          from = w.from;
          upto
              = w.upto;
        }
    back p (inr w) = let v = a.from p w in lock_on (Memᴰ.tail v.member) (is_on v)

    -- a plain row touches nothing
    untouched : (ls : List Lock) → plains (keep (λ l. not (touches low high l)) ls) ≡ plains ls
    untouched [] = refl
    untouched (l ∷ ls) = go (test (is_settled_read l)) (test (touches low high l)) (untouched ls)
      where
        go : (is_settled_read l ≡ true) ⊎ (is_settled_read l ≡ false)
            → (touches low high l ≡ true) ⊎ (touches low high l ≡ false)
            → plains (keep (λ l. not (touches low high l)) ls) ≡ plains ls
            → plains (keep (λ l. not (touches low high l)) (l ∷ ls)) ≡ plains (l ∷ ls)
        go (inl e) (inl f) ih = rw (f, e) ih
        go (inl e) (inr f) ih = rw (f, e) ih
        go (inr e) (inl f) ih = absurd (false≢true (sym e ∙ and_left (is_settled_read l) (leb l.low (suc high) && leb
            low (suc l.high)) f))
        go (inr e) (inr f) ih = rw (f, e) (ap (λ zs. l ∷ zs) ih)

    same : Perm (plains ys) (plains (keep (λ l. not (touches low high l)) ys))
    same = rw (untouched ys) (perm_refl (plains ys))

    each : (m : Lock) → (m ≡ settled_lock READ low high) ⊎ (m ∈ xs) → m.low ≤ m.high
    each m (inl e) = rw e h
    each m (inr i) = a.proper m i

-- settled locks lose their points up to v
pub trim_alike : {xs ys : List Lock} (v : ℕ) → Locks xs ys → Locks (trim_to v xs) (trim_to v ys)
unfolding trim_to
trim_alike {xs} {ys} v a =
    record {
      rows = rw (plain_trim xs, plain_trim ys) (perm_map (trimmed v) (perm_keep (λ l. not (emptied v l)) a.rows));
      to = λ p w. let i = (trim_to_is v xs SETTLED READ p).0 w in (trim_to_is v ys SETTLED READ p).1 (
        a.to p i.0,
        i.1,
      );
      from = λ p w. let i = (trim_to_is v ys SETTLED READ p).0 w in (trim_to_is v xs SETTLED READ p).1 (
        a.from p i.0,
        i.1,
      );
      proper = λ l i. let n = trim_to_member v xs i in spans n.0 (a.proper n.0 n.1) n.2 l n.3;
    }
  where
    plain_trim : (ls : List Lock) → plains (map (trimmed v) (keep (λ l. not (emptied v l)) ls))
        ≡ map (trimmed v) (keep (λ l. not (emptied v l)) (plains ls))
    plain_trim [] = refl
    plain_trim (l ∷ ls) = go (test (emptied v l)) (test (is_settled_read l)) (plain_trim ls)
      where
        go : (emptied v l ≡ true) ⊎ (emptied v l ≡ false) → (is_settled_read l ≡ true) ⊎ (is_settled_read l ≡ false)
            → plains (map (trimmed v) (keep (λ l. not (emptied v l)) ls)) ≡ map (trimmed v) (keep (λ l. not (emptied v
            l)) (plains ls))
            → plains (map (trimmed v) (keep (λ l. not (emptied v l)) (l ∷ ls))) ≡ map (trimmed v) (keep (λ l. not
            (emptied v l)) (plains (l ∷ ls)))
        go (inl e) (inl f) ih = rw (e, f) ih
        go (inl e) (inr f) ih = rw (e, f, e) ih
        go (inr e) (inl f) ih = rw (e, f, kind_kept v l ∙ f) ih
        go (inr e) (inr f) ih = rw (e, f, kind_kept v l ∙ f, e) (ap (λ zs. trimmed v l ∷ zs) ih)

    spans : (n : Lock) → n.low ≤ n.high → emptied v n ≡ false → (l : Lock) → trimmed v n ≡ l → l.low ≤ l.high
    spans n h e l z = rw z at (go (test (is_owned SETTLED n)))
      where
        go : (is_owned SETTLED n ≡ true) ⊎ (is_owned SETTLED n ≡ false) → (trimmed v n).low ≤ (trimmed v n).high
        go (inl q) = rw q (omega (arith, h, leb-false n.high v (rest q)))
          where
            rest : is_owned SETTLED n ≡ true → leb n.high v ≡ false
            rest q = rw q at e
        go (inr q) = rw q h

-- the joined list is no longer than the other
pub shorter : {xs ys : List Lock} → Locks xs ys → ((l : Lock) → l ∈ ys → l.low ≤ l.high)
    → pairwise no_later ys ≡ true → pairwise apart_reads ys ≡ true → length ys ≤ length xs
shorter {xs} {ys} a proper rises joined =
    omega (
      arith,
      keep_split is_settled_read xs,
      keep_split is_settled_read ys,
      perm_length a.rows,
      fewer_reads xs ys (λ p. (a.to p, a.from p)) proper rises joined,
    )
