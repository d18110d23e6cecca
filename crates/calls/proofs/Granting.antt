-- What the searches ask of ready words, what is granted, from what they answered, and what a grant says of its test.
-- Rests on Acting, specs/Grants and Spans of `meaning`.
use Prim.Native.Nat.{ℕ, ◌-◌, ◌≤◌, ◌<◌}
use mathlib.Core.Path.{◌≡◌, refl, sym, ap, ◌∙◌}
use mathlib.Core.Logic.{◌⊎◌, inl, inr}
use mathlib.Core.Bool.{Bool, true, false, cond}
use mathlib.Core.List.{List}
use native.Mathlib.Omega.{arith}
use lib.Dec.{ltb}
use borrow.Author.Tests.{ltb-true, ltb-false, leb-false, lt-ltb, le-leb, lt-leb}
use Rattle.types.specs.Limits.{READ, WRITE}
use Rattle.meaning.specs.Store.{Rec, Store, rec_at}
use Rattle.meaning.specs.Points.{blockers, first_blocked, first_free, first_open}
use Rattle.meaning.specs.Pointwise.{Proper}
use Rattle.meaning.specs.Locking.{lock_granted, read_granted}
use Rattle.types.specs.declared.Counts.{Counts}
use Rattle.types.specs.declared.Extent.{Extent}
use Rattle.types.specs.declared.Extent.TheVariants.{All, Part}
use Rattle.meaning.proofs.JudgeLocking.{proper}
use Rattle.meaning.proofs.Lists.{test}
use Rattle.meaning.proofs.Spans.{first_covered_low, first_covered_is, first_covered_least}
use Rattle.meaning.proofs.Spans.{first_free_low, first_free_is, first_free_run}
use Rattle.meaning.proofs.Tests.{blockers_out}
use Rattle.tables.specs.Decode.{record_at, decode_at}
use Rattle.tables.proofs.Decoded.{rec_at_lem}
use Rattle.blocking.specs.declared.Blocked.{Blocked}
use Rattle.blocking.specs.declared.Which.TheVariants.{Against}
use Rattle.blocking.specs.Search.{Grant, Rises, counts, counted, upto, judged, run_grant}
use Rattle.blocking.proofs.Answered.{upto_some, upto_none}
use Rattle.std.specs.Prelude.{Ok, Err, None, Some}
use Rattle.calls.specs.Contract.{Ready}
use Rattle.calls.specs.Grants.{lock_grant, read_grant}
use Rattle.calls.proofs.Acting.{all_rise}

-- the search for a blocked point, by slot k
pub search_needs : {c : Counts} {w : List ℕ} {r k : ℕ} → Ready c w → r < c.records → 1 ≤ k
    → (1 ≤ k) × Proper (rec_at (decode_at c w) r) × Rises c w r
search_needs {c} {w} {r} R l slot = (slot, proper (decode_at c w) R.store r, all_rise c w R r l)

pub grant_judged : (t : Bool) (from end : ℕ) (q b : Blocked) → cond {A = Grant} t (Ok (from, end)) (Err q) ≡ Err b
    → (t ≡ false) × (q ≡ b)
grant_judged false from end q b e = (refl, cc)
grant_judged true from end q b e = let z : ◌≡◌ {A = ℕ} 0 1 = cc in absurd (omega arith)

pub grant_taken : (t : Bool) (from end : ℕ) (q : Blocked) (low high : ℕ)
    → cond {A = Grant} t (Ok (from, end)) (Err q) ≡ Ok (low, high)
    → (t ≡ true) × (from ≡ low) × (end ≡ high)
grant_taken true from end q low high e =
    let p : ◌≡◌ {A = ℕ × ℕ} (from, end) (low, high) = cc in
    (refl, ap (λ x. x.0) p, ap (λ x. x.1) p)
grant_taken false from end q low high e = let z : ◌≡◌ {A = ℕ} 0 1 = cc in absurd (omega arith)

-- where low is not blocked, it is the first free point
open_low : (mode k : ℕ) (x : Rec) (low high : ℕ) → low ≤ high → low < first_blocked mode k x low high
    → first_open mode k x low high ≡ low
open_low mode k x low high order l = go (test (ltb low (first_open mode k x low high)))
  where
    go : (ltb low (first_open mode k x low high) ≡ true) ⊎ (ltb low (first_open mode k x low high) ≡ false)
        → first_open mode k x low high ≡ low
    go (inl e) =
        let below = ltb-true low (first_open mode k x low high) e in
        absurd
        (first_covered_least (blockers mode k x) low high low (omega arith) l
        (first_free_run (blockers mode k x) low high low (omega arith) below))
    go (inr e) =
        let above = ltb-false low (first_open mode k x low high) e in
        omega (arith, first_free_low (blockers mode k x) low high (omega arith))

-- where nothing is granted, a point is blocked
pub lock_refused : (e : Extent) (k : ℕ) (x : Rec) (low high : ℕ) → low ≤ high → lock_granted e k x low high ≡ false
    → first_blocked WRITE k x low high ≤ high
lock_refused All k x low high order g = ltb-false high (first_blocked WRITE k x low high) g
lock_refused Part k x low high order g = go (test (ltb high (first_blocked WRITE k x low high)))
  where
    go : (ltb high (first_blocked WRITE k x low high) ≡ true) ⊎ (ltb high (first_blocked WRITE k x low high) ≡ false)
        → first_blocked WRITE k x low high ≤ high
    go (inl e) =
        let above = ltb-true high (first_blocked WRITE k x low high) e in
        let none = leb-false (first_open WRITE k x low high) high g in
        absurd (omega (arith, open_low WRITE k x low high order (omega arith)))
    go (inr e) = ltb-false high (first_blocked WRITE k x low high) e

pub read_refused : (e : Extent) (k : ℕ) (x : Rec) (low high : ℕ) → low ≤ high → read_granted e k x low high ≡ false
    → first_blocked READ k x low high ≤ high
read_refused All k x low high order g = ltb-false high (first_blocked READ k x low high) g
read_refused Part k x low high order g = omega (arith, ltb-false low (first_blocked READ k x low high) g)

-- Lock, from the run of points that was asked for first
module _ (s : Store) (k r low high : ℕ) where
  abbrev first : ℕ
  first = first_blocked WRITE k (rec_at s r) low high

  pub run_locks : run_grant All s r WRITE k low high ≡ lock_grant All s k r low high
  unfolding run_grant lock_grant
  run_locks = refl

  pub run_takes : (e : Extent) (from end : ℕ) → low ≤ high → Ok (from, end) ≡ run_grant e s r WRITE k low high
      → Ok (from, end) ≡ lock_grant e s k r low high
  unfolding run_grant lock_grant
  run_takes All from end order f = f
  run_takes Part from end order f =
      let g = grant_taken (ltb low first) low (first - 1) (judged s r WRITE k low high) from end (sym f) in
      let l = ltb-true low first g.0 in
      rw (open_low WRITE k (rec_at s r) low high order l, le-leb low high order)
      (f ∙ rw g.0 refl)

-- P of Lock, from the first free point, which the words gave
module _ (c : Counts) (w : List ℕ) (k r low high : ℕ) (l : r < c.records) where
  abbrev s : Store
  s = decode_at c w

  abbrev free : ℕ
  free = first_free (counted (Against (record { mode = WRITE; slot = k })) (record_at c w r).locks) low high

  from_is : free ≡ first_open WRITE k (rec_at s r) low high
  unfolding counted counts blockers
  from_is = ap (λ (x : Rec). first_open WRITE k x low high) (sym (rec_at_lem c w r l))

  pub later_judged : (b : Blocked) → Err b ≡ run_grant Part s r WRITE k low high → None ≡ upto high free
      → Err b ≡ lock_grant Part s k r low high
  unfolding run_grant lock_grant
  later_judged b f e =
      let above : high < first_open WRITE k (rec_at s r) low high = omega (arith, upto_none high free e, from_is) in
      let first = first_blocked WRITE k (rec_at s r) low high in
      let g = grant_judged (ltb low first) low (first - 1) (judged s r WRITE k low high) b (sym f) in
      rw (lt-leb (first_open WRITE k (rec_at s r) low high) high above) (ap Err (sym g.1))

  module _ (from : ℕ) (e : Some from ≡ upto high free) where
    pub later_inside : from ≤ high
    later_inside = let u = upto_some high free e in omega (arith, u.0, u.1)

    -- the point is free, so that a run starts there
    later_starts : Proper (rec_at s r) → from < first_blocked WRITE k (rec_at s r) from high
    later_starts proper = go (test (ltb from next))
      where
        next : ℕ
        next = first_blocked WRITE k (rec_at s r) from high

        at : from ≡ first_open WRITE k (rec_at s r) low high
        at = (upto_some high free e).0 ∙ from_is

        go : (ltb from next ≡ true) ⊎ (ltb from next ≡ false) → from < next
        go (inl t) = ltb-true from next t
        go (inr t) =
            let i = later_inside in
            let m = first_covered_low (blockers WRITE k (rec_at s r)) from high (omega arith) in
            let same : next ≡ from = omega (arith, ltb-false from next t) in
            let c =
            first_covered_is (blockers WRITE k (rec_at s r)) from high
            (λ l m. proper l (blockers_out WRITE k (rec_at s r) m).0) (omega arith) in
            absurd (first_free_is (blockers WRITE k (rec_at s r)) low high (omega (arith, at)) (rw (same, at) at c))

    pub later_taken : Proper (rec_at s r) → run_grant Part s r WRITE k from high ≡ lock_grant Part s k r low high
    unfolding run_grant lock_grant
    later_taken proper =
        let g : from ≡ first_open WRITE k (rec_at s r) low high = (upto_some high free e).0 ∙ from_is in
        let i = later_inside in
        rw (
          lt-ltb from (first_blocked WRITE k (rec_at s r) from high) (later_starts proper),
          le-leb (first_open WRITE k (rec_at s r) low high) high (omega (arith, g)),
        ) (rw (← g) refl)

-- Read
pub run_reads : (e : Extent) (s : Store) (k r low high : ℕ)
    → run_grant e s r READ k low high ≡ read_grant e s k r low high
unfolding run_grant read_grant
run_reads All s k r low high = refl
run_reads Part s k r low high = refl
