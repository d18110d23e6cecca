-- The index on the way of a call that ends an edit. Rests on the laws of `index`.
use Prim.Native.Nat.{ℕ}
use mathlib.Core.Path.{◌≡◌}
use mathlib.Core.Bool.{true}
use mathlib.Core.List.{List, [], ◌∷◌}
use Rattle.types.specs.declared.Access.{Access}
use Rattle.types.specs.declared.Counts.{Counts}
use Rattle.meaning.specs.Store.{Store}
use Rattle.meaning.specs.Ending.{ended}
use Rattle.tables.specs.Decode.{decode_at}
use Rattle.changes.specs.Becomes.{Becomes, on_edit}
use Rattle.index.specs.Index.{touched, Indexed}
use Rattle.index.proofs.Touching.{by_locks, rec_change}
use Rattle.index.proofs.Calls.{ended_after}
use Rattle.index.proofs.Noting.{kept}
use Rattle.endings.specs.Steps.{changed, along, saved_rec}

pub with_index : {A B C : Type 0} → A × B → C → A × B × C
with_index p i = (p.0, p.1, i)

-- a slot's state and point say nothing of what it has touched
pub ended_indexed : (c : Counts) (w : List ℕ) (k state point : ℕ) {ix w' : List ℕ} → Indexed (decode_at c w) ix
    → Becomes c w' (on_edit (decode_at c w) k (λ e. ended e state point)) → Indexed (decode_at c w') ix
ended_indexed c w k state point {ix} I B =
    rw B.means (kept (decode_at c w) _ ix ix I (λ i r h. ended_after i r h (decode_at c w) k state point))

-- nor does a version
saved_after : (t i r : ℕ) (acc : List Access) (s : Store) → touched (along (saved_rec t) acc s) i r ≡ true
    → touched s i r ≡ true
unfolding along changed saved_rec
saved_after t i r [] s p = p
saved_after t i r (a ∷ acc) s p =
    rec_change s i r a.rec _ (λ z q. by_locks s i r (λ u. u) (rw z q)) (λ u. u)
    (saved_after t i r acc (changed (saved_rec t) a s) p)

pub saved_indexed : (c : Counts) (w : List ℕ) (acc : List Access) (t : ℕ) {ix w' : List ℕ} → Indexed (decode_at c w) ix
    → Becomes c w' (along (saved_rec t) acc (decode_at c w)) → Indexed (decode_at c w') ix
saved_indexed c w acc t {ix} I B =
    rw B.means (kept (decode_at c w) _ ix ix I (λ i r h. saved_after t i r acc (decode_at c w)))
