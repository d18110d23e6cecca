-- The walk that frees rows of a chain by a test of their entry, and counts them: the invariant of Turns of `chains`. In
-- each, `m` is what the walk's step ensures. Rests on Turns and Frames of `chains`.
use Prim.Native.Nat.{ℕ, ◌+◌, ◌≤◌, ◌<◌}
use mathlib.Core.Path.{◌≡◌, ap}
use mathlib.Core.Bool.{Bool, true, false}
use mathlib.Core.List.{List, []}
use native.Mathlib.Omega.{arith}
use lib.ListN.{length, set}
use Rattle.chains.specs.declared.Table.{Table}
use Rattle.chains.specs.declared.Heads.{Heads}
use Rattle.chains.specs.declared.Cursor.{Cursor}
use Rattle.chains.specs.Walk.{IsRow}
use Rattle.chains.specs.Cursor.{start, Met, Halted}
use Rattle.chains.specs.Table.{place, head_of, rows_of, Laid}
use Rattle.chains.specs.Change.{Ready, Follows, Unlinked}
use Rattle.chains.proofs.Frames.{put_same}
use Rattle.chains.proofs.Turns.{TurnInv, turn_start, turn_ready, turn_hit, turn_miss, turn_count, turn_end, turn_put}
use Rattle.types.specs.declared.Counts.{Counts}
use Rattle.tables.specs.Layout.{Fits}
use Rattle.changes.specs.Freed.{FreedBy, RowsKept}

pub record Freeing (t : Table) (h : Heads) (test : ℕ → Bool) (w₀ : List ℕ) (a : ℕ) (w : List ℕ) (place : ℕ)
    (s : Cursor) (freed : ℕ) : Type 0 where
  pub turns : TurnInv t h test w₀ a 0 [] (rows_of t h w₀ a) w place s
  pub lost : freed + length (rows_of t h w a) ≡ length (rows_of t h w₀ a)

pub freeing_start : {t : Table} {h : Heads} {w : List ℕ} {a : ℕ} {s : Cursor} (test : ℕ → Bool) → Ready t h w a 0
    → s ≡ start t (head_of h w a) → Freeing t h test w a w 0 s 0
freeing_start test rd e = record { turns = turn_start test rd e; lost = omega arith }

module _ {t : Table} {h : Heads} {test : ℕ → Bool} {w₀ : List ℕ} {a : ℕ} {w : List ℕ} {place : ℕ} {s : Cursor}
    {freed : ℕ} (i : Freeing t h test w₀ a w place s freed) where
  module _ {s' : Cursor} {x : ℕ} (m : Met t w s x s') where
    pub freeing_ready : Ready t h w a 0 × Follows t h w a place x
    freeing_ready = turn_ready i.turns m

    pub freeing_hit : {w' : List ℕ} → test x ≡ true → Unlinked t h w w' a 0 place x
        → Freeing t h test w₀ a w' place s' (freed + 1)
    freeing_hit e u =
        record { turns = turn_hit i.turns m e u; lost = omega (arith, i.lost, turn_count i.turns m _ u) }

    pub freeing_miss : test x ≡ false → Freeing t h test w₀ a w x s' freed
    freeing_miss e = record { turns = turn_miss i.turns m e; lost = i.lost }

    -- no more rows are freed than the table has
    pub freeing_room : (w' : List ℕ) → Unlinked t h w w' a 0 place x → freed + 1 ≤ t.count
    freeing_room w' u =
        omega (arith, i.lost, i.turns.met, i.turns.fit, i.turns.fuel, turn_count i.turns m _ u)

  pub freeing_end : {s' : Cursor} → Halted t w s s' → FreedBy test t h w₀ w a freed
  freeing_end m = record { unlinked = turn_end i.turns m; lost = i.lost }

  -- the counts are as before the walk, and so is the entry of the row that is met
  module _ {A : Type 0} (c : Counts) {at : List ℕ → ℕ → A} {t' : Table} {h' : Heads} (k : RowsKept t' h' at c w₀)
      (et : t ≡ t') (eh : h ≡ h') where
    pub freeing_fits : Fits c w
    freeing_fits = (k w (rw (et, eh) at i.turns.elsewhere)).0

    pub freeing_entry : {s' : Cursor} {x : ℕ} → Met t w s x s' → at w x ≡ at w₀ x
    freeing_entry {x = x} m = (k w (rw (et, eh) at i.turns.elsewhere)).1 x (rw et at m.row)

-- a word of a row that is no link word stored beside the walk: it is as if the walk had begun with it
pub freeing_put : {t : Table} {h : Heads} {test : ℕ → Bool} {w₀ : List ℕ} {a : ℕ} {w : List ℕ} {place' : ℕ}
    {s : Cursor} {freed : ℕ} → Freeing t h test w₀ a w place' s freed → Laid t h w₀
    → (x o v : ℕ) → IsRow t.count x → o < t.stride → (o ≡ t.off → ⊥)
    → Freeing t h test (set w₀ (place t x o) v) a (set w (place t x o) v) place' s freed
freeing_put {t} {h} {test} {w₀} {a} {w} i l x o v q k n =
    let in_a = i.turns.ready.a_in in
    let same₀ = (put_same t h w₀ x o v l q.low k n).rows_kept a in_a in
    let same = (put_same t h w x o v i.turns.ready.laid q.low k n).rows_kept a in_a in
    record {
      turns = rw same₀ (turn_put i.turns l x o v q k n);
      lost = omega (arith, i.lost, ap length same₀, ap length same);
    }
