-- Which locks of a record settling leaves, and that they are no more than before: an own write lock goes for the one
-- left on the commit point, an own read lock for the one left from the point read. Rests on LockChanges.
use Prim.Native.Nat.{ℕ, suc, ◌+◌, ◌≤◌, ◌<◌}
use native.Mathlib.Omega.{arith}
use native.Mathlib.Nat.{le_refl}
use mathlib.Core.Path.{◌≡◌, refl}
use mathlib.Core.Logic.{◌⊎◌, inl, inr}
use mathlib.Core.Bool.{Bool, true, false, not, cond}
use mathlib.Core.List.{List, []}
use lib.Dec.{eqb}
use lib.ListN.{length}
use borrow.Author.Tests.{eqb-true, eq-eqb}
use Rattle.meaning.specs.Lists.{◌∈◌, keep}
use Rattle.types.specs.Limits.{READ, WRITE, SETTLED, COMMITTED}
use Rattle.meaning.specs.Store.{Lock, Access, Edit, no_access, access_of, has_read}
use Rattle.meaning.specs.Points.{is_write, is_owned, own, leave_settled, drop_owner}
use Rattle.meaning.specs.Pointwise.{LockOn}
use Rattle.meaning.specs.Ending.{locks_left, settled_locks, settled_locks_by}
use Rattle.meaning.proofs.Lists.{keep_in, keep_split, mem_nonempty}
use Rattle.meaning.proofs.LockChanges.{drop_owner_member, drop_owner_is, leave_settled_is}
use Rattle.meaning.specs.Points.{settled_lock, put_lock, is_settled_read, touches, joined_row, join_read, no_later}
use Rattle.meaning.specs.Points.{apart_reads}
use Rattle.meaning.proofs.Joining.{put_out, put_old, put_new, put_rises, length_put, length_join, join_rises}
use Rattle.meaning.proofs.Rows.{join_joined, put_joined}
use Rattle.meaning.specs.Lists.{pairwise}
use Rattle.meaning.proofs.Lists.{keep_out, pairwise_keep}
use Rattle.meaning.proofs.Tests.{own_in, write_in, unwrite_in, read_out, read_in}
use Rattle.meaning.specs.Store.{has_written}

-- the row that is left: a read row with those that it takes in
abbrev pub left_row : ℕ → ℕ → ℕ → List Lock → Lock
left_row mode low high ls = cond (eqb mode READ) (joined_row low high ls) (settled_lock mode low high)

pub left_owner : (mode low high : ℕ) (ls : List Lock) → (left_row mode low high ls).owner ≡ SETTLED
left_owner mode low high ls = go (eqb mode READ)
  where
    go : (b : Bool) → (cond b (joined_row low high ls) (settled_lock mode low high)).owner ≡ SETTLED
    go true = refl
    go false = refl

module _ (b : Bool) (mode low high : ℕ) (ls : List Lock) where
  abbrev grown : List Lock
  grown = cond (eqb mode READ) (join_read low high ls) (put_lock (settled_lock mode low high) ls)

  grown_out : (l : Lock) → l ∈ grown → (l ≡ left_row mode low high ls) ⊎ (l ∈ ls)
  grown_out l m = go (eqb mode READ) m
    where
      joins : (l ≡ joined_row low high ls) ⊎ (l ∈ keep (λ l. not (touches low high l)) ls)
          → (l ≡ joined_row low high ls) ⊎ (l ∈ ls)
      joins (inl z) = inl z
      joins (inr i) = inr (keep_out (λ l. not (touches low high l)) ls i).0

      go : (c : Bool) → l ∈ cond c (join_read low high ls) (put_lock (settled_lock mode low high) ls)
          → (l ≡ cond c (joined_row low high ls) (settled_lock mode low high)) ⊎ (l ∈ ls)
      go true n = joins (put_out (joined_row low high ls) (keep (λ l. not (touches low high l)) ls) n)
      go false n = put_out (settled_lock mode low high) ls n

  grown_new : left_row mode low high ls ∈ grown
  grown_new = go (eqb mode READ)
    where
      go : (c : Bool) → cond c (joined_row low high ls) (settled_lock mode low high)
          ∈ cond c (join_read low high ls) (put_lock (settled_lock mode low high) ls)
      go true = put_new (joined_row low high ls) (keep (λ l. not (touches low high l)) ls)
      go false = put_new (settled_lock mode low high) ls

  grown_old : (l : Lock) → is_settled_read l ≡ false → l ∈ ls → l ∈ grown
  grown_old l n m = go (eqb mode READ)
    where
      go : (c : Bool) → l ∈ cond c (join_read low high ls) (put_lock (settled_lock mode low high) ls)
      go true =
          put_old (joined_row low high ls) (keep (λ l. not (touches low high l)) ls)
          (keep_in (λ l. not (touches low high l)) m (rw n refl))
      go false = put_old (settled_lock mode low high) ls m

  pub leave_out : (l : Lock) → l ∈ leave_settled b mode low high ls
      → ((b ≡ true) × (l ≡ left_row mode low high ls)) ⊎ (l ∈ ls)
  unfolding leave_settled
  leave_out l m = go b refl m
    where
      first : b ≡ true → (l ≡ left_row mode low high ls) ⊎ (l ∈ ls)
          → ((b ≡ true) × (l ≡ left_row mode low high ls)) ⊎ (l ∈ ls)
      first q (inl z) = inl (q, z)
      first q (inr n) = inr n

      go : (c : Bool) → b ≡ c → l ∈ cond c grown ls → ((b ≡ true) × (l ≡ left_row mode low high ls)) ⊎ (l ∈ ls)
      go true q n = first q (grown_out l n)
      go false q n = inr n

  pub leave_old : (l : Lock) → is_settled_read l ≡ false → l ∈ ls → l ∈ leave_settled b mode low high ls
  unfolding leave_settled
  leave_old l d m = go b
    where
      go : (c : Bool) → l ∈ cond c grown ls
      go true = grown_old l d m
      go false = m

  pub leave_new : b ≡ true → left_row mode low high ls ∈ leave_settled b mode low high ls
  unfolding leave_settled
  leave_new q = rw q grown_new

  pub leave_rises : pairwise no_later ls ≡ true → pairwise no_later (leave_settled b mode low high ls) ≡ true
  unfolding leave_settled
  leave_rises h = go b (eqb mode READ)
    where
      go : (c d : Bool) → pairwise no_later
          (cond c (cond d (join_read low high ls) (put_lock (settled_lock mode low high)
          ls)) ls) ≡ true
      go true true = join_rises low high ls h
      go true false = put_rises (settled_lock mode low high) ls h
      go false d = h

-- where a lock of record r comes from after slot k, with the edit e, is settled
pub data LeftBy (k : ℕ) (e : Edit) (r : ℕ) (ls : List Lock) (l : Lock) : Type 0 where
  other : l ∈ ls → (l.owner ≡ k → ⊥) → LeftBy k e r ls l
  wrote : e.state ≡ COMMITTED → has_written (access_of e r) ≡ true → l ≡ settled_lock WRITE e.point e.point
      → LeftBy k e r ls l
  read : e.state ≡ COMMITTED → (tr : ℕ) → (access_of e r).from ≡ suc tr
      → l ≡ joined_row (access_of e r).from e.point (drop_owner k ls) → LeftBy k e r ls l

module _ (k : ℕ) (e : Edit) (r : ℕ) (ls : List Lock) where
  abbrev a : Access
  a = access_of e r

  pub settled_out : (l : Lock) → l ∈ settled_locks k e r ls → LeftBy k e r ls l
  unfolding settled_locks_by
  settled_out l m = go (eqb e.state COMMITTED) refl m
    where
      dropped : l ∈ drop_owner k ls → LeftBy k e r ls l
      dropped n = let w = (drop_owner_member k ls).0 n in other w.0 w.1

      second : e.state ≡ COMMITTED
          → ((has_read a ≡ true) × (l ≡ joined_row a.from e.point (drop_owner k ls))) ⊎ (l ∈ drop_owner k ls)
          → LeftBy k e r ls l
      second z (inl w) = let t = read_out a w.0 in read z t.0 t.1 w.1
      second z (inr n) = dropped n

      first : {ms : List Lock} → e.state ≡ COMMITTED
          → ((has_written a ≡ true) × (l ≡ settled_lock WRITE e.point e.point)) ⊎ (l ∈ ms)
          → (l ∈ ms → ((has_read a ≡ true) × (l ≡ joined_row a.from e.point (drop_owner k ls))) ⊎ (l ∈ drop_owner k
          ls))
          → LeftBy k e r ls l
      first z (inl w) f = wrote z w.0 w.1
      first z (inr n) f = second z (f n)

      go : (b : Bool) → eqb e.state COMMITTED ≡ b → l ∈ cond b (locks_left e a (drop_owner k ls)) (drop_owner k ls)
          → LeftBy k e r ls l
      go true q n = first (eqb-true e.state COMMITTED q) (leave_out _ _ _ _ _ l n) (λ i. leave_out _ _ _ _ _ l i)
      go false q n = dropped n

  -- a row stays, but a settled read may have been taken in
  pub settled_other : (l : Lock) → is_settled_read l ≡ false → l ∈ ls → (l.owner ≡ k → ⊥) → l ∈ settled_locks k e r ls
  unfolding settled_locks_by
  settled_other l d m h = go (eqb e.state COMMITTED)
    where
      go : (b : Bool) → l ∈ cond b (locks_left e a (drop_owner k ls)) (drop_owner k ls)
      go true = leave_old _ _ _ _ _ l d (leave_old _ _ _ _ _ l d ((drop_owner_member k ls).1 (m, h)))
      go false = (drop_owner_member k ls).1 (m, h)

  -- point by point: what another owner has, settled reads among it, it has afterwards
  pub settled_locked : (o m p : ℕ) → LockOn ls o m p → (o ≡ k → ⊥) → LockOn (settled_locks k e r ls) o m p
  unfolding settled_locks_by
  settled_locked o m p w n = go (eqb e.state COMMITTED)
    where
      dropped : LockOn (drop_owner k ls) o m p
      dropped = (drop_owner_is k ls o m p).1 (w, n)

      go : (b : Bool) → LockOn (cond b (locks_left e a (drop_owner k ls)) (drop_owner k ls)) o m p
      go true =
          (leave_settled_is (has_written a) WRITE e.point e.point
          (leave_settled (has_read a) READ a.from e.point (drop_owner k ls)) o m p).1
          (inr ((leave_settled_is (has_read a) READ a.from e.point (drop_owner k ls) o m p).1 (inr dropped)))
      go false = dropped

  pub settled_wrote : e.state ≡ COMMITTED → has_written a ≡ true
      → settled_lock WRITE e.point e.point ∈ settled_locks k e r ls
  unfolding settled_locks_by
  settled_wrote z q = rw (eq-eqb e.state COMMITTED z) (leave_new _ _ _ _ _ q)

  -- point by point: "a settled read lock tr + 1..t for each record read and a settled write lock on t for each written"
  pub settled_reads : e.state ≡ COMMITTED → (tr p : ℕ) → a.from ≡ suc tr → tr < p → p ≤ e.point
      → LockOn (settled_locks k e r ls) SETTLED READ p
  unfolding settled_locks_by
  settled_reads z tr p q low high =
      rw (eq-eqb e.state COMMITTED z)
      ((leave_settled_is (has_written a) WRITE e.point e.point
      (leave_settled (has_read a) READ a.from e.point (drop_owner k ls)) SETTLED READ p).1
      (inr ((leave_settled_is (has_read a) READ a.from e.point (drop_owner k ls) SETTLED READ p).1
      (inl (record { left = read_in a tr q; owned = refl; moded = refl; from = omega (arith, q, low); upto = high })))))

  -- in rising order, and joined
  pub settled_rises : pairwise no_later ls ≡ true → pairwise no_later (settled_locks k e r ls) ≡ true
  unfolding settled_locks_by drop_owner
  settled_rises h = go (eqb e.state COMMITTED)
    where
      dropped : pairwise no_later (keep (λ l. not (is_owned k l)) ls) ≡ true
      dropped = pairwise_keep no_later (λ l. not (is_owned k l)) ls h

      go : (b : Bool) → pairwise no_later (cond b (locks_left e a (drop_owner k ls)) (drop_owner k ls)) ≡ true
      go true = leave_rises _ _ _ _ _ (leave_rises _ _ _ _ _ dropped)
      go false = dropped

  pub settled_joined : ((l : Lock) → l ∈ ls → l.low ≤ l.high) → (e.state ≡ COMMITTED → a.from ≤ e.point)
      → pairwise no_later ls ≡ true → pairwise apart_reads ls ≡ true
      → pairwise apart_reads (settled_locks k e r ls) ≡ true
  unfolding settled_locks_by drop_owner leave_settled
  settled_joined proper span rises joined = go (eqb e.state COMMITTED) refl
    where
      rest : List Lock
      rest = keep (λ l. not (is_owned k l)) ls

      sorted : pairwise no_later (keep (λ l. not (is_owned k l)) ls) ≡ true
      sorted = pairwise_keep no_later (λ l. not (is_owned k l)) ls rises

      dropped : pairwise apart_reads (keep (λ l. not (is_owned k l)) ls) ≡ true
      dropped = pairwise_keep apart_reads (λ l. not (is_owned k l)) ls joined

      reads : (b : Bool) → a.from ≤ e.point
          → (pairwise no_later (cond b (join_read a.from e.point (keep (λ l. not (is_owned k l)) ls)) (keep (λ l.
          not (is_owned k l)) ls)) ≡ true)
          × (pairwise apart_reads (cond b (join_read a.from e.point (keep (λ l. not (is_owned k l)) ls)) (keep (λ
          l. not (is_owned k l)) ls)) ≡ true)
      reads true h = (
        join_rises a.from e.point (keep (λ l. not (is_owned k l)) ls) sorted,
        join_joined a.from e.point h (keep (λ l. not (is_owned k l)) ls)
            (λ l i. proper l (keep_out (λ l. not (is_owned k l)) ls i).0) dropped sorted,
      )
      reads false h = (sorted, dropped)

      writes : (b : Bool) (ms : List Lock) → (pairwise no_later ms ≡ true) × (pairwise apart_reads ms ≡ true)
          → pairwise apart_reads (cond b (put_lock (settled_lock WRITE e.point e.point) ms) ms) ≡ true
      writes true ms w = put_joined (settled_lock WRITE e.point e.point) ms refl w.0 w.1
      writes false ms w = w.1

      go : (b : Bool) → eqb e.state COMMITTED ≡ b
          → pairwise apart_reads (cond b (locks_left e a (drop_owner k ls)) (drop_owner k ls)) ≡ true
      go true q =
          writes (has_written a)
          (cond (has_read a) (join_read a.from e.point (keep (λ l. not (is_owned k l)) ls)) (keep (λ l. not
          (is_owned k l)) ls))
          (reads (has_read a) (span (eqb-true e.state COMMITTED q)))
      go false q = dropped

  pub settled_writes : e.state ≡ COMMITTED → has_written a ≡ true
      → LockOn (settled_locks k e r ls) SETTLED WRITE e.point
  settled_writes z q =
      record {
        lock = settled_lock WRITE e.point e.point;
        member = settled_wrote z q;
        owned = refl;
        moded = refl;
        from = le_refl e.point;
        upto = le_refl e.point;
      }

-- where there is neither a lock nor an access, nothing is left
pub settled_none : (k : ℕ) (e : Edit) (r : ℕ) → access_of e r ≡ no_access r → settled_locks k e r [] ≡ []
unfolding settled_locks_by leave_settled drop_owner
settled_none k e r q = rw q (go (eqb e.state COMMITTED))
  where
    go : (b : Bool) → cond {A = List Lock} b [] [] ≡ []
    go true = refl
    go false = refl

-- an own lock of either kind
pub record OwnWrite (k : ℕ) (ls : List Lock) : Type 0 where
  pub lock : Lock
  pub member : lock ∈ ls
  pub owned : lock.owner ≡ k
  pub mode : lock.mode ≡ WRITE

pub record OwnRead (k : ℕ) (ls : List Lock) : Type 0 where
  pub lock : Lock
  pub member : lock ∈ ls
  pub owned : lock.owner ≡ k
  pub mode : lock.mode ≡ WRITE → ⊥

module _ (k : ℕ) (e : Edit) (r : ℕ) (ls : List Lock) where
  abbrev pub mine : List Lock
  mine = own k ls

  abbrev pub mine_read : List Lock
  mine_read = keep (λ l. not (is_write l)) mine

  pub some_write : OwnWrite k ls → 1 ≤ length (keep is_write mine)
  some_write w = mem_nonempty (keep_in is_write (own_in k ls w.member w.owned) (write_in w.lock w.mode))

  pub some_read : OwnRead k ls → 1 ≤ length mine_read
  some_read w =
      mem_nonempty
      (keep_in (λ l. not (is_write l)) (own_in k ls w.member w.owned) (rw (unwrite_in w.lock w.mode) refl))

  pub parts : length (keep is_write mine) + length mine_read + length (drop_owner k ls) ≡ length ls
  unfolding drop_owner own
  parts = omega (arith, keep_split (is_owned k) ls, keep_split is_write mine)

  leave_length : (b : Bool) (mode low high : ℕ) (ms : List Lock) (n : ℕ) → (b ≡ true → 1 ≤ n)
      → length (leave_settled b mode low high ms) ≤ n + length ms
  unfolding leave_settled
  leave_length true mode low high ms n h = go (eqb mode READ)
    where
      go : (c : Bool) → length (cond c (join_read low high ms) (put_lock (settled_lock mode low high) ms))
          ≤ n + length ms
      go true = omega (arith, h refl, length_join low high ms)
      go false = omega (arith, h refl, length_put (settled_lock mode low high) ms)
  leave_length false mode low high ms n h = omega arith

  pub settled_few : (e.state ≡ COMMITTED → has_written (access_of e r) ≡ true → OwnWrite k ls)
      → (e.state ≡ COMMITTED → (tr : ℕ) → (access_of e r).from ≡ suc tr → OwnRead k ls)
      → length (settled_locks k e r ls) ≤ length ls
  unfolding settled_locks_by
  settled_few f g = go (eqb e.state COMMITTED) refl
    where
      go : (b : Bool) → eqb e.state COMMITTED ≡ b
          → length (cond b (locks_left e (access_of e r) (drop_owner k ls)) (drop_owner k ls)) ≤ length ls
      go false q = omega (arith, parts)
      go true q =
          let z = eqb-true e.state COMMITTED q in
          let x = access_of e r in
          let ms = leave_settled (has_read x) READ x.from e.point (drop_owner k ls) in
          omega (
            arith,
            parts,
            leave_length (has_written x) WRITE e.point e.point ms (length (keep is_write mine))
                (λ w. some_write (f z w)),
            leave_length (has_read x) READ x.from e.point (drop_owner k ls) (length mine_read)
                (λ w. let t = read_out x w in some_read (g z t.0 t.1)),
          )
