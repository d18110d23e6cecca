-- The header: what the computed test of counts and length says as plain facts, and back, and the test as the code goes
-- through it. Rests on specs.Layout.
use Prim.Native.Nat.{ℕ, ◌≤◌, ◌<◌}
use mathlib.Core.Path.{◌≡◌, refl, sym, ap, ◌∙◌}
use mathlib.Core.Bool.{true, false, and-false}
use mathlib.Core.List.{List, [], ◌∷◌}
use native.Mathlib.Omega.{arith}
use lib.ListN.{length}
use lib.Dec.{leb, eqb}
use borrow.Author.Tests.{leb-true, eqb-true, ne_eqb, le-leb, eq-eqb}
use Rattle.chains.proofs.Bounded.{both_true}
use Rattle.meaning.proofs.Lists.{every_at}
use Rattle.types.specs.Limits.{MAX_RECORDS, MAX_EDITS, MAX_ROWS}
use Rattle.meaning.specs.Records.{good_counts, in_range}
use Rattle.types.specs.declared.Counts.{Counts}
use Rattle.tables.specs.Layout.{counts_of, header_ok, size_of, Ranged, Fits, HEADER}

range : (n top : ℕ) → in_range n top ≡ true → (1 ≤ n) × (n ≤ top)
range n top e = let b = both_true (leb 1 n) (leb n top) e in (leb-true 1 n b.0, leb-true n top b.1)

pub good_ranged : (c : Counts) → good_counts c ≡ true → Ranged c
unfolding good_counts
good_ranged c e =
    let at =
    every_at
    (in_range c.records MAX_RECORDS
    ∷ in_range c.edits MAX_EDITS
    ∷ in_range c.versions MAX_ROWS
    ∷ in_range c.locks MAX_ROWS
    ∷ in_range c.accesses MAX_ROWS
    ∷ [])
    e in
    let r = range c.records _ (at 0) in
    let s = range c.edits _ (at 1) in
    let v = range c.versions _ (at 2) in
    let l = range c.locks _ (at 3) in
    let u = range c.accesses _ (at 4) in
    record {
      records_low = r.0;
      records_high = r.1;
      edits_low = s.0;
      edits_high = s.1;
      versions_low = v.0;
      versions_high = v.1;
      locks_low = l.0;
      locks_high = l.1;
      accesses_low = u.0;
      accesses_high = u.1;
    }

in_range_lem : (n top : ℕ) → 1 ≤ n → n ≤ top → in_range n top ≡ true
in_range_lem n top p q = rw (le-leb 1 n p, le-leb n top q)

pub ranged_good : (c : Counts) → Ranged c → good_counts c ≡ true
unfolding good_counts
ranged_good c g =
    rw (
      in_range_lem c.records MAX_RECORDS g.records_low g.records_high,
      in_range_lem c.edits MAX_EDITS g.edits_low g.edits_high,
      in_range_lem c.versions MAX_ROWS g.versions_low g.versions_high,
      in_range_lem c.locks MAX_ROWS g.locks_low g.locks_high,
      in_range_lem c.accesses MAX_ROWS g.accesses_low g.accesses_high,
    ) refl

-- a store is longer than its header
pub size_least : (c : Counts) → HEADER ≤ size_of c
unfolding size_of
size_least c = omega arith

pub header_short : (w : List ℕ) → length w < HEADER → header_ok w ≡ false
unfolding header_ok
header_short w h =
    rw (ne_eqb (length w) (size_of (counts_of w)) (λ e. omega (arith, size_least (counts_of w))))
    (and-false (good_counts (counts_of w)))

pub header_bad : (w : List ℕ) (c : Counts) → c ≡ counts_of w → good_counts c ≡ false → header_ok w ≡ false
unfolding header_ok
header_bad w c e g = rw (ap good_counts (sym e) ∙ g)

pub header_size : (w : List ℕ) (c : Counts) → c ≡ counts_of w → good_counts c ≡ true
    → header_ok w ≡ eqb (length w) (size_of c)
unfolding header_ok
header_size w c e g = rw (sym e, g)

pub header_fits : (w : List ℕ) → header_ok w ≡ true → Fits (counts_of w) w
unfolding header_ok
header_fits w e =
    let b = both_true (good_counts (counts_of w)) _ e in
    record {
      counts = refl;
      ranged = good_ranged (counts_of w) b.0;
      size = eqb-true (length w) (size_of (counts_of w)) b.1;
    }

pub fits_header : (c : Counts) (w : List ℕ) → Fits c w → header_ok w ≡ true
unfolding header_ok
fits_header c w f = rw (f.counts, ranged_good c f.ranged, eq-eqb (length w) (size_of c) f.size) refl
