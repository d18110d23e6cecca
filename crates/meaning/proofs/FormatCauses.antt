-- Format is refused exactly where a count is out of range or the length is not the sum, and Point where the reading or
-- the seat is too large; points order as pairs of reading and seat. Rests on CauseTests.
use Prim.Native.Nat.{ℕ, ◌*◌, ◌+◌, ◌/◌, ◌%◌, ◌≤◌, ◌<◌}
use native.Mathlib.Omega.{arith}
use native.Mathlib.Decide.{dec_lt}
use mathlib.Core.Path.{◌≡◌, refl}
use mathlib.Core.Logic.{◌⊎◌, inl, inr, ◌↔◌}
use mathlib.Core.Bool.{Bool, true, false, cond, ◌&&◌}
use mathlib.Core.List.{List, []}
use lib.Dec.{ltb}
use Rattle.types.specs.Limits.{READINGS, SEATS, LAST, MAX_RECORDS, MAX_EDITS, MAX_ROWS}
use Rattle.meaning.specs.Store.{Counts, fresh}
use Rattle.types.specs.Replies.{Reply, ok, point, refusing}
use Rattle.meaning.specs.Outcomes.{replies, pass, needs, unless}
use Rattle.meaning.specs.Records.{good_counts, formatting}
use Rattle.meaning.specs.Causes.{BadCounts, records, edits, versions, locks, accesses, OutOfRange}
use Rattle.meaning.specs.Order.{Refuses}
use Rattle.meaning.specs.Laws.{FormatRefusedForCause, PointRefusedForCause, PointsOrderAsPairs, PointsRunToLast}
use Rattle.meaning.proofs.Lists.{not_both}
use Rattle.meaning.proofs.CauseTests.{Refutes, and_test, range_test, below_test}

-- the five counts, and a part that never fails
abbrev AnyOut : Counts → Type 0
AnyOut c =
    OutOfRange c.records MAX_RECORDS
    ⊎ (OutOfRange c.edits MAX_EDITS
    ⊎ (OutOfRange c.versions MAX_ROWS ⊎ (OutOfRange c.locks MAX_ROWS ⊎ (OutOfRange c.accesses MAX_ROWS ⊎ ⊥))))

counts_out : (c : Counts) → AnyOut c → BadCounts c
counts_out c (inl q) = records q
counts_out c (inr (inl q)) = edits q
counts_out c (inr (inr (inl q))) = versions q
counts_out c (inr (inr (inr (inl q)))) = locks q
counts_out c (inr (inr (inr (inr (inl q))))) = accesses q
counts_out c (inr (inr (inr (inr (inr q))))) = absurd q

counts_in : (c : Counts) → BadCounts c → AnyOut c
counts_in c (records q) = inl q
counts_in c (edits q) = inr (inl q)
counts_in c (versions q) = inr (inr (inl q))
counts_in c (locks q) = inr (inr (inr (inl q)))
counts_in c (accesses q) = inr (inr (inr (inr (inl q))))

true_test : Refutes true ⊥
true_test = record { stands = λ e. absurd (not_both refl e); free = λ e z. z }

pub counts_test : (c : Counts) → Refutes (good_counts c) (BadCounts c)
unfolding good_counts
counts_test c =
    let t : Refutes (good_counts c) (AnyOut c) =
    and_test (range_test c.records MAX_RECORDS)
    (and_test (range_test c.edits MAX_EDITS)
    (and_test (range_test c.versions MAX_ROWS)
    (and_test (range_test c.locks MAX_ROWS) (and_test (range_test c.accesses MAX_ROWS) true_test))))
    in
    record { stands = λ e. counts_out c (t.stands e); free = λ e q. t.free e (counts_in c q) }

fits_test : (b : Bool) → Refutes b (b ≡ false)
fits_test b = record { stands = λ e. e; free = not_both }

-- a reply that is a refusal exactly where a test fails
refused_iff : {P : Type 0} (n : ℕ) (f : Bool → Reply) (b : Bool) → Refutes b P → f false ≡ refusing n []
    → ((more : List ℕ) → f true ≡ refusing n more → ⊥) → Refuses n (f b) ↔ P
refused_iff n f true t no_more other = (λ w. absurd (other w.0 w.1), λ p. absurd (t.free refl p))
refused_iff n f false t no_more other = (λ w. t.stands refl, λ p. ([], no_more))

pub format_refused_for_cause : FormatRefusedForCause
unfolding formatting
format_refused_for_cause fits c s =
    refused_iff 16 (λ b. (unless s (needs b 16 pass) (replies (fresh c) ok)).reply) (good_counts c && fits)
    (and_test (counts_test c) (fits_test fits)) refl (λ more e. let z : ◌≡◌ {A = ℕ} 0 1 = cc in omega arith)

pub point_refused_for_cause : PointRefusedForCause
point_refused_for_cause reading seat =
    refused_iff 6 (λ b. cond b (point (reading * SEATS + seat)) (refusing 6 []))
    (ltb reading READINGS && ltb seat SEATS)
    (and_test (below_test reading READINGS) (below_test seat SEATS)) refl
    (λ more e. let z : ◌≡◌ {A = ℕ} 0 1 = cc in omega arith)

-- two points, by their readings and then by their seats
pub points_order_as_pairs : PointsOrderAsPairs
points_order_as_pairs r s q t a b = (λ h. out h (dec_lt r q), back)
  where
    out : r * SEATS + s < q * SEATS + t → Dec (r < q) → (r < q) ⊎ ((r ≡ q) × (s < t))
    out h (yes l) = inl l
    out h (no l) = inr (omega (arith, a, b), omega (arith, a, b))

    back : (r < q) ⊎ ((r ≡ q) × (s < t)) → r * SEATS + s < q * SEATS + t
    back (inl l) = omega (arith, a, b)
    back (inr e) = omega (arith, e.0, e.1)

pub points_run_to_last : PointsRunToLast
points_run_to_last p = (out, back)
  where
    out : p ≤ LAST → (r : ℕ) × (s : ℕ) × (r < READINGS) × (s < SEATS) × (p ≡ r * SEATS + s)
    out h = (p / SEATS, p % SEATS, omega arith, omega arith, omega arith)

    back : (r : ℕ) × (s : ℕ) × (r < READINGS) × (s < SEATS) × (p ≡ r * SEATS + s) → p ≤ LAST
    back (r, s, a, b, e) = omega (arith, a, b, e)
