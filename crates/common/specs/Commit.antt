-- The search for the commit point, access by access: the least distance of a set at or above a distance, and the steps
-- that lead there. A set is given by its test. Rests on Search of `blocking` and on Views of the crate `tables`.
use Rattle.std.specs.Prelude.{ℕ, suc, ◌+◌, ◌≤◌, ◌<◌, min, max, ◌≡◌, Bool, true, cond, ◌&&◌, List, [], ◌∷◌, ◌++◌, map}
use Rattle.std.specs.Prelude.{leb, take, Option, None, Some}
use Rattle.std.specs.Bool.{then_some}
use Rattle.types.specs.Limits.{LAST}
use Rattle.meaning.specs.Lists.{all, keep, least}
use Rattle.meaning.specs.Points.{first_free, writes, allows, own_on}
use Rattle.meaning.specs.Store.{Rec, has_read}
use Rattle.types.specs.declared.Lock.{Lock}
use Rattle.types.specs.declared.Access.{Access}
use Rattle.types.specs.declared.Counts.{Counts}
use Rattle.tables.specs.Decode.{slot_at, records_of}
use Rattle.blocking.specs.Search.{owns_write, upto}
use Rattle.common.specs.declared.sets.CommonSet.{CommonSet}
use Rattle.common.specs.declared.sets.Limit.{Limit}
use Rattle.meaning.specs.Store.{has_written}

-- q is the least number of the set at or above p, or LAST + 1 where there is none
pub record LeastFrom (set : ℕ → Bool) (p q : ℕ) : Type 0 where
  pub from : p ≤ q
  pub top : q ≤ suc LAST
  pub inside : q ≤ LAST → set q ≡ true
  pub least : (x : ℕ) → p ≤ x → x < q → set x ≡ true → ⊥

-- q is at or above p with no number of the set passed on the way, and where it is p it is in the set
pub record Lifted (set : ℕ → Bool) (p q : ℕ) : Type 0 where
  pub from : p ≤ q
  pub top : q ≤ suc LAST
  pub passed : (x : ℕ) → p ≤ x → x < q → set x ≡ true → ⊥
  pub still : q ≡ p → q ≤ LAST → set q ≡ true

-- the same with the answer None for LAST + 1
abbrev pub NextFrom : (ℕ → Bool) → ℕ → Option ℕ → Type 0
NextFrom set p None = LeastFrom set p (suc LAST)
NextFrom set p (Some q) = LeastFrom set p q × (q ≤ LAST)

abbrev pub LiftedTo : (ℕ → Bool) → ℕ → Option ℕ → Type 0
LiftedTo set p None = Lifted set p (suc LAST)
LiftedTo set p (Some q) = Lifted set p q × (q ≤ LAST)

-- q is the greatest point of the set at or below p, or 0 where there is none
pub record GreatestTo (set : ℕ → Bool) (p q : ℕ) : Type 0 where
  pub upto : q ≤ p
  pub inside : 1 ≤ q → set q ≡ true
  pub greatest : (x : ℕ) → q < x → x ≤ p → set x ≡ true → ⊥

-- a point from 1 on, from the functions of `meaning` that answer 0 for none
abbrev pub positive : ℕ → Option ℕ
positive p = then_some (leb 1 p) p

-- the first point after `from` that is under no own lock, or LAST + 1 where nothing was read
unfoldable pub read_end : List Lock → Access → ℕ
read_end ls a = cond (has_read a) (first_free ls a.from LAST) (suc LAST)

-- as an end sees it, from `near` to `far`: the least distance at or above d under one of the locks, or LAST + 1; a lock
-- that ends before it starts has no points
module _ (near far : ℕ → ℕ → ℕ) where
  abbrev pub start_from : ℕ → Lock → ℕ
  start_from d l = max d (near l.low l.high)

  abbrev pub starts_after : ℕ → Lock → Bool
  starts_after d l = leb (start_from d l) (far l.low l.high)

  unfoldable pub first_under : List Lock → ℕ → ℕ
  first_under ls d = least (suc LAST) (map (start_from d) (keep (starts_after d) ls))

  -- one turn of the search over the write locks of slot k
  abbrev pub sooner : Option ℕ → ℕ → Option ℕ
  sooner None x = Some x
  sooner (Some b) x = Some (min b x)

  abbrev pub nearer : ℕ → ℕ → Option ℕ → Lock → Option ℕ
  nearer k d best l = cond (owns_write k l && starts_after d l) (sooner best (start_from d l)) best

  -- where an access that is written to leads
  abbrev pub up_from : List Lock → Access → ℕ → ℕ
  up_from ls a d = cond (has_written a) (first_under (writes ls) d) d

  abbrev pub written_from : List Lock → Access → ℕ → Option ℕ
  written_from ls a d = cond {A = Option ℕ} (has_written a) (upto LAST (first_under (writes ls) d)) (Some d)

-- the records that a set or one access is over, and the locks of the slot on the record of that access
abbrev pub recs_in : CommonSet → List Rec
recs_in s = records_of s.slot.tables.counts s.slot.tables.words.now

abbrev pub recs_at : Limit → List Rec
recs_at l = records_of l.tables.counts l.tables.words.now

abbrev pub own_locks : Limit → List Lock
own_locks l = own_on (recs_at l) l.slot l.access

-- whether an access allows the point at a distance, and whether all these do
abbrev pub allows_at : (ℕ → ℕ) → List Rec → ℕ → ℕ → Access → Bool
allows_at point rs k d a = allows rs k (point d) a

abbrev pub all_allow_at : (ℕ → ℕ) → CommonSet → List Access → ℕ → Bool
all_allow_at point s xs d = all (allows_at point (recs_in s) s.slot.number d) xs

-- the first j accesses of slot k, and: a is the next one
unfoldable pub first_accesses : Counts → List ℕ → ℕ → ℕ → List Access
first_accesses c w k j = take j (slot_at c w k).accesses

abbrev pub first_in : CommonSet → ℕ → List Access
first_in s j = first_accesses s.slot.tables.counts s.slot.tables.words.now s.slot.number j

pub record Next (c : Counts) (w : List ℕ) (k j : ℕ) (a : Access) : Type 0 where
  pub joined : first_accesses c w k (j + 1) ≡ first_accesses c w k j ++ (a ∷ [])

abbrev pub Follows : CommonSet → ℕ → Access → Type 0
Follows s j a = Next s.slot.tables.counts s.slot.tables.words.now s.slot.number j a
