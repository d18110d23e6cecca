-- The run of points that an asker may have, from the first blocked point. Rests on Answered and on Spans of the crate
-- `meaning`.
use Prim.Native.Nat.{ℕ, ◌-◌, ◌≤◌, ◌<◌}
use mathlib.Core.Path.{◌≡◌, refl, ap}
use mathlib.Core.Bool.{true}
use native.Mathlib.Omega.{arith}
use lib.Dec.{leb}
use borrow.Author.Tests.{leb-true, leb-false, lt-ltb, le-ltb}
use Rattle.std.specs.Prelude.{None, Some, Ok, Err}
use Rattle.types.specs.declared.Extent.{Extent}
use Rattle.types.specs.declared.Extent.TheVariants.{All, Part}
use Rattle.meaning.specs.Points.{blockers, first_blocked}
use Rattle.meaning.specs.Store.{Store, rec_at}
use Rattle.meaning.proofs.Spans.{first_covered_top}
use Rattle.blocking.specs.declared.Blocked.{Blocked}
use Rattle.blocking.specs.Search.{first_judged, judged, run_grant}
use Rattle.blocking.proofs.Answered.{some_out, none_out}

module _ (s : Store) (r mode k low high : ℕ) (order : low ≤ high) where
  abbrev first : ℕ
  first = first_blocked mode k (rec_at s r) low high

  pub run_free : None ≡ first_judged s r mode k low high → (e : Extent)
      → Ok (low, high) ≡ run_grant e s r mode k low high
  unfolding first_judged run_grant
  run_free f e = go e (leb-false first high (none_out (judged s r mode k low high) (leb first high) f))
    where
      go : (e : Extent) → high < first → Ok (low, high) ≡ run_grant e s r mode k low high
      go All l = rw (lt-ltb high first l) refl
      go Part l =
          let t = first_covered_top (blockers mode k (rec_at s r)) low high in
          let n : high ≡ first - 1 = omega arith in
          rw (lt-ltb low first (omega arith)) (ap (λ (p : ℕ). Ok (low, p)) n)

  module _ (b : Blocked) (f : Some b ≡ first_judged s r mode k low high) where
    out : (b ≡ judged s r mode k low high) × (leb first high ≡ true)
    unfolding first_judged
    out = some_out (judged s r mode k low high) (leb first high) f

    point_is : b.point ≡ first
    point_is = ap (λ (y : Blocked). y.point) out.0

    pub run_to : low < b.point → Ok (low, b.point - 1) ≡ run_grant Part s r mode k low high
    unfolding run_grant
    run_to l = rw (lt-ltb low first (omega (arith, point_is))) (ap (λ (p : ℕ). Ok (low, p - 1)) point_is)

    pub run_all : Err b ≡ run_grant All s r mode k low high
    unfolding run_grant
    run_all = rw (le-ltb high first (leb-true first high out.1)) (ap Err out.0)

    pub run_part : b.point ≤ low → Err b ≡ run_grant Part s r mode k low high
    unfolding run_grant
    run_part l = rw (le-ltb low first (omega (arith, point_is))) (ap Err out.0)
