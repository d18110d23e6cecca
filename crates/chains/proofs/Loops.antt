-- The loop that counts a chain's rows: the rows met and those still to meet are the chain's. Rests on Walks.
use Prim.Native.Nat.{ℕ, ◌+◌, ◌-◌, ◌≤◌}
use mathlib.Core.Path.{◌≡◌, refl, sym, ap, subst, ◌∙◌}
use mathlib.Core.Bool.{Bool, true}
use mathlib.Core.List.{List}
use native.Mathlib.Omega.{arith}
use lib.ListN.{length}
use borrow.Author.Tests.{eq-eqb, ne_eqb}
use Rattle.chains.specs.declared.Table.{Table}
use Rattle.std.specs.Prelude.{Some, None}
use Rattle.chains.specs.declared.Cursor.{Cursor}
use Rattle.chains.specs.Cursor.{Met, Halted}
use Rattle.chains.specs.Walk.{more, rows, ends}
use Rattle.chains.specs.Table.{link, chain, ended, len_of}
use Rattle.chains.proofs.Walks.{step, stop, fuel_of}

-- The length of the chain from h₀: n - f rows have been met
pub record LengthInv (nx : ℕ → ℕ) (n h₀ h f : ℕ) : Type 0 where
  pub fuel : f ≤ n
  pub long : length (rows nx n f h) + (n - f) ≡ length (rows nx n n h₀)
  pub end : ends nx n f h ≡ ends nx n n h₀

pub length_again : {nx : ℕ → ℕ} {n h₀ h f h' : ℕ} {r : Bool} → LengthInv nx n h₀ h f → r ≡ more n f h → r ≡ true
    → h' ≡ nx h → LengthInv nx n h₀ h' (f - 1)
length_again {nx} {n} {h₀} {h} {f} i d e q =
    let s = step nx n f h d e in
    rw q (record {
      fuel = omega (arith, i.fuel);
      long = omega (arith, i.long, i.fuel, ap length s.row, fuel_of n f h d e);
      end = sym s.end ∙ i.end;
    })

module _ {t : Table} {w : List ℕ} {h₀ : ℕ} {s s' : Cursor} (l : LengthInv (link t w) t.count h₀ s.row s.left) where
  pub length_met : {i : ℕ} → Met t w s i s' → LengthInv (link t w) t.count h₀ s'.row s'.left
  length_met m =
      let left : s.left - 1 ≡ s'.left = omega (arith, m.counted) in
      subst (λ f. LengthInv (link t w) t.count h₀ s'.row f) left
      (length_again l (sym m.goes_on) refl (m.next ∙ ap (link t w) m.at))

  pub length_ended : Halted t w s s' → s'.row ≡ 0 → Some (t.count - s'.left) ≡ len_of t w h₀
  unfolding len_of chain ended
  length_ended e z =
      let stopped = stop (link t w) t.count s.left s.row (sym e.ends) refl in
      let left : s'.left ≡ s.left = ap (λ (x : Cursor). x.left) e.stays in
      rw (sym l.end ∙ stopped.end ∙ eq-eqb s.row 0 (sym (ap (λ (x : Cursor). x.row) e.stays) ∙ z), len_of)
      (ap Some (omega (arith, left, l.long, ap length stopped.row)))

  pub length_broken : Halted t w s s' → (s'.row ≡ 0 → ⊥) → None ≡ len_of t w h₀
  unfolding len_of chain ended
  length_broken e z =
      let stopped = stop (link t w) t.count s.left s.row (sym e.ends) refl in
      rw (sym l.end ∙ stopped.end ∙ ne_eqb s.row 0 (λ q. z (ap (λ (x : Cursor). x.row) e.stays ∙ q)), len_of)
