-- Membership of the common set is document 01's sentence: each access allows the point exactly if an own write lock or
-- own locks from the point read on are there. Rests on Tests and Spans.
use Prim.Native.Nat.{ℕ, suc, ◌≤◌, ◌<◌}
use native.Mathlib.Omega.{arith}
use mathlib.Core.Path.{◌≡◌}
use mathlib.Core.Logic.{◌⊎◌, inl, inr}
use mathlib.Core.Bool.{Bool, true, false, ◌&&◌}
use mathlib.Core.List.{List}
use lib.Dec.{leb, ltb}
use borrow.Author.Tests.{leb-true, le-leb, ltb-true, lt-ltb}
use Rattle.meaning.specs.Lists.{◌∈◌, all}
use Rattle.types.specs.Limits.{LAST, WRITE}
use Rattle.meaning.specs.Store.{Lock, Access, Rec, Edit, rec_of, has_read}
use Rattle.meaning.specs.Points.{covered, own, writes, first_free, own_on, allows_write, allows_read, allows, lowest}
use Rattle.meaning.specs.Points.{in_common}
use Rattle.meaning.specs.Pointwise.{LockOn, HeldOn, InCommonSet}
use Rattle.meaning.specs.Laws.{CommonSetIs}
use Rattle.meaning.proofs.Lists.{and_in, and_left, and_right, implies_out, implies_in, test, all_out, all_in}
use Rattle.meaning.proofs.Tests.{read_out, read_in, unread_out, own_out, own_in, writes_out, writes_in, Covered}
use Rattle.meaning.proofs.Tests.{covered_out, covered_in}
use Rattle.meaning.proofs.Spans.{first_free_run, reached}
use Rattle.meaning.specs.Store.{has_written}

module _ (ls : List Lock) (k p : ℕ) where
  -- own locks on a point, of either mode and to write
  pub held_out : Covered (own k ls) p → HeldOn ls k p
  held_out c =
      let w = own_out k ls c.member in
      record { lock = c.lock; member = w.0; owned = w.1; from = c.under.from; upto = c.under.upto }

  pub held_in : HeldOn ls k p → Covered (own k ls) p
  held_in h = record {
    lock = h.lock;
    member = own_in k ls h.member h.owned;
    under = record { from = h.from; upto = h.upto };
  }

  pub written_out : Covered (writes (own k ls)) p → LockOn ls k WRITE p
  written_out c =
      let w = writes_out (own k ls) c.member in
      let o = own_out k ls w.0 in
      record { lock = c.lock; member = o.0; owned = o.1; moded = w.1; from = c.under.from; upto = c.under.upto }

  pub written_in : LockOn ls k WRITE p → Covered (writes (own k ls)) p
  written_in h =
      record {
        lock = h.lock;
        member = writes_in (own k ls) (own_in k ls h.member h.owned) h.moded;
        under = record { from = h.from; upto = h.upto };
      }

-- the test for one access, as orders: under a write lock if written; if read, between `from` and the first point under
-- none of the locks
pub record Parts (ls : List Lock) (a : Access) (p : ℕ) : Type 0 where
  pub written : has_written a ≡ true → Covered (writes ls) p
  pub from : a.from ≤ p
  pub upto : has_read a ≡ true → p < first_free ls a.from LAST

module _ (ls : List Lock) (a : Access) (p : ℕ) where
  abbrev starts : Bool
  starts = leb a.from p

  abbrev ends : Bool
  ends = ltb p (first_free ls a.from LAST)

  read_parts : allows_read ls a p ≡ true → has_read a ≡ true → (starts && ends) ≡ true
  read_parts e h = implies_out (has_read a) (starts && ends) e h

  pub parts_out : (allows_write ls a p && allows_read ls a p) ≡ true → Parts ls a p
  parts_out e =
      let w = and_left (allows_write ls a p) (allows_read ls a p) e in
      let r = and_right (allows_write ls a p) (allows_read ls a p) e in
      record {
        written = λ h. covered_out (writes ls) p (implies_out (has_written a) (covered (writes ls) p) w h);
        from = low r (test (has_read a));
        upto = λ h. ltb-true p (first_free ls a.from LAST) (and_right starts ends (read_parts r h));
      }
    where
      low : allows_read ls a p ≡ true → (has_read a ≡ true) ⊎ (has_read a ≡ false) → a.from ≤ p
      low r (inl h) = leb-true a.from p (and_left starts ends (read_parts r h))
      low r (inr h) = omega (arith, unread_out a h)

  pub parts_in : Parts ls a p → (allows_write ls a p && allows_read ls a p) ≡ true
  parts_in w =
      and_in
      (implies_in (has_written a) (covered (writes ls) p) (λ h. covered_in (writes ls) p (w.written h)))
      (implies_in (has_read a) (starts && ends)
      (λ h. and_in (le-leb a.from p w.from) (lt-ltb p (first_free ls a.from LAST) (w.upto h))))

-- the sentence for one access
pub record Allowed (rs : List Rec) (k p : ℕ) (a : Access) : Type 0 where
  pub written : has_written a ≡ true → LockOn (rec_of rs a.rec).locks k WRITE p
  pub above : (tr : ℕ) → a.from ≡ suc tr → tr < p
  pub under : (tr q : ℕ) → a.from ≡ suc tr → tr < q → q ≤ p → HeldOn (rec_of rs a.rec).locks k q

module _ (rs : List Rec) (k p : ℕ) (a : Access) where
  abbrev ls : List Lock
  ls = (rec_of rs a.rec).locks

  pub allows_out : allows rs k p a ≡ true → Allowed rs k p a
  unfolding allows own_on
  allows_out e =
      let w = parts_out (own k ls) a p e in
      record {
        written = λ h. written_out ls k p (w.written h);
        above = λ tr q. omega (arith, w.from);
        under =
            λ tr q s g h.
            held_out ls k q
            (first_free_run (own k ls) a.from LAST q (omega arith) (omega (arith, w.upto (read_in a tr s))));
      }

  -- what is covered from `from` on ends at LAST, so this direction is for points
  pub allows_in : p ≤ LAST → Allowed rs k p a → allows rs k p a ≡ true
  unfolding allows own_on
  allows_in last w =
      parts_in (own k ls) a p (record {
        written = λ h. written_in ls k p (w.written h);
        from = low (test (has_read a));
        upto = λ h. let r = read_out a h in reaches r.0 r.1;
      })
    where
      low : (has_read a ≡ true) ⊎ (has_read a ≡ false) → a.from ≤ p
      low (inl h) = let r = read_out a h in omega (arith, r.1, w.above r.0 r.1)
      low (inr h) = omega (arith, unread_out a h)

      reaches : (tr : ℕ) → a.from ≡ suc tr → p < first_free (own k ls) a.from LAST
      reaches tr e =
          (reached (own k ls) a.from LAST p (omega (arith, w.above tr e)) last).1
          (λ q g h. held_in ls k q (w.under tr q e (omega arith) h))

-- the test as orders, and each access allowing the point
pub record Common (rs : List Rec) (k : ℕ) (e : Edit) (p : ℕ) : Type 0 where
  pub least : lowest e ≤ p
  pub last : p ≤ LAST
  pub each : all (allows rs k p) e.accesses ≡ true

module _ (rs : List Rec) (k : ℕ) (e : Edit) (p : ℕ) where
  pub common_out : in_common rs k e p ≡ true → Common rs k e p
  unfolding in_common
  common_out t =
      let d = and_left (leb (lowest e) p && leb p LAST) (all (allows rs k p) e.accesses) t in
      record {
        least = leb-true (lowest e) p (and_left (leb (lowest e) p) (leb p LAST) d);
        last = leb-true p LAST (and_right (leb (lowest e) p) (leb p LAST) d);
        each = and_right (leb (lowest e) p && leb p LAST) (all (allows rs k p) e.accesses) t;
      }

  pub common_in : Common rs k e p → in_common rs k e p ≡ true
  unfolding in_common
  common_in c = and_in (and_in (le-leb (lowest e) p c.least) (le-leb p LAST c.last)) c.each

  out : in_common rs k e p ≡ true → InCommonSet rs k e p
  out t =
      let c = common_out t in
      record {
        least = c.least;
        last = c.last;
        written = λ a m. (allowed c a m).written;
        above = λ a tr m. (allowed c a m).above tr;
        under = λ a tr q m. (allowed c a m).under tr q;
      }
    where
      allowed : Common rs k e p → (a : Access) → a ∈ e.accesses → Allowed rs k p a
      allowed c a m = allows_out rs k p a (all_out (allows rs k p) e.accesses c.each a m)

  back : InCommonSet rs k e p → in_common rs k e p ≡ true
  back s =
      common_in (record { least = s.least; last = s.last; each = all_in (allows rs k p) e.accesses each })
    where
      each : (a : Access) → a ∈ e.accesses → allows rs k p a ≡ true
      each a m =
          allows_in rs k p a s.last (record {
            written = s.written a m;
            above = λ tr q. s.above a tr m q;
            under = λ tr q h. s.under a tr q m h;
          })

pub common_set_is : CommonSetIs
common_set_is rs k e p = (out rs k e p, back rs k e p)
