-- One step of a walk by a cursor; the same step in other words, which a loop changed meanwhile. Rests on Walks.
use Prim.Native.Nat.{ℕ, ◌-◌}
use mathlib.Core.Path.{◌≡◌, refl, sym, ap, ◌∙◌}
use mathlib.Core.Bool.{Bool, true, false}
use mathlib.Core.List.{List, ◌∷◌}
use native.Mathlib.Omega.{arith}
use Rattle.chains.specs.declared.Table.{Table}
use Rattle.chains.specs.declared.Cursor.{Cursor}
use Rattle.chains.specs.Walk.{more, rows}
use Rattle.chains.specs.Table.{link, front}
use Rattle.chains.specs.Cursor.{Met, Halted}
use Rattle.chains.proofs.Walks.{step, stop, row_of, fuel_of}

module _ (t : Table) (w : List ℕ) (s : Cursor) {r : Bool} (d : r ≡ more t.count s.left s.row) where
  pub met : {h : ℕ} → r ≡ true → h ≡ link t w s.row → Met t w s s.row (record { row = h; left = s.left - 1 })
  unfolding front
  met e q =
      record {
        goes_on = sym d ∙ e;
        at = refl;
        row = row_of t.count s.left s.row d e;
        next = q;
        counted = omega (arith, fuel_of t.count s.left s.row d e);
        rest = (step (link t w) t.count s.left s.row d e).row
            ∙ ap (λ y. s.row ∷ rows (link t w) t.count (s.left - 1) y) (sym q);
      }

  pub halted : r ≡ false → Halted t w s s
  unfolding front
  halted e =
      record {
        ends = sym d ∙ e;
        stays = refl;
        rest = (stop (link t w) t.count s.left s.row d e).row;
      }

-- the row met is linked in the words v as in w
pub met_in : {t : Table} {w : List ℕ} (v : List ℕ) {s s' : Cursor} {i : ℕ} → Met t w s i s' → link t w i ≡ link t v i
    → Met t v s i s'
unfolding front
met_in {t} {w} v {s} {s'} {i} m e =
    let left : s.left - 1 ≡ s'.left = omega (arith, m.counted) in
    let next : link t v s.row ≡ s'.row = ap (link t v) (sym m.at) ∙ sym e ∙ sym m.next in
    record {
      goes_on = m.goes_on;
      at = m.at;
      row = m.row;
      next = m.next ∙ e;
      counted = m.counted;
      rest = (step (link t v) t.count s.left s.row (sym m.goes_on) refl).row
          ∙ ap (λ x. x ∷ rows (link t v) t.count (s.left - 1) (link t v s.row)) (sym m.at)
          ∙ ap (λ y. i ∷ rows (link t v) t.count (s.left - 1) y) next
          ∙ ap (λ f. i ∷ rows (link t v) t.count f s'.row) left;
    }

pub halted_in : {t : Table} {w : List ℕ} (v : List ℕ) {s s' : Cursor} → Halted t w s s' → Halted t v s s'
unfolding front
halted_in {t} v {s} m =
    record {
      ends = m.ends;
      stays = m.stays;
      rest = (stop (link t v) t.count s.left s.row (sym m.ends) refl).row;
    }
