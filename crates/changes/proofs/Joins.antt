-- The walk that drops the settled reads which a new one touches, with the row that it and those met so far are
-- together, and the change that these leave. In each, `m` is what the walk's step ensures. Rests on Keeping and
-- Besides, and on Turns and Stepping of `chains`.
use Prim.Native.Nat.{ℕ, suc, ◌≤◌, ◌<◌}
use mathlib.Core.Path.{◌≡◌, refl, sym, ap, ◌∙◌}
use mathlib.Core.Bool.{Bool, true, false, not, cond}
use mathlib.Core.List.{List, [], ◌∷◌, map}
use native.Mathlib.Omega.{arith}
use Rattle.std.specs.List.{fold}
use Rattle.chains.specs.declared.Cursor.{Cursor}
use Rattle.chains.specs.Cursor.{ahead, start, Met, Halted}
use Rattle.chains.specs.Table.{chain, front, head_of, rows_of}
use Rattle.chains.specs.Change.{Ready, Follows, Unlinked, UnlinkedBy}
use Rattle.chains.proofs.Frames.{only_elsewhere, apart_kept}
use Rattle.chains.proofs.Stepping.{halted_in}
use Rattle.chains.proofs.Turns.{TurnInv, turn_start, turn_ready, turn_met, turn_hit, turn_miss, turn_end}
use Rattle.types.specs.Limits.{MAX_EDITS, READ, SETTLED}
use Rattle.types.specs.declared.Lock.{Lock}
use Rattle.types.specs.declared.Counts.{Counts}
use Rattle.meaning.proofs.Lists.{least_shift, greatest_shift}
use Rattle.meaning.specs.Lists.{keep, least, greatest}
use Rattle.meaning.specs.Store.{Rec, rec_at, locks_used}
use Rattle.meaning.specs.Points.{touches, joined_row, join_read, add_lock}
use Rattle.meaning.proofs.Lists.{length_keep}
use Rattle.tables.specs.Layout.{MODES, lock_table, lock_heads, Fits}
use Rattle.tables.specs.Decode.{lock_at, lock_rows, locks_of, record_at, decode_at}
use Rattle.tables.specs.Words.{Well}
use Rattle.tables.proofs.Decoded.{rec_at_lem}
use Rattle.changes.specs.Becomes.{Beside, on_locks}
use Rattle.changes.specs.Widened.{widened}
use Rattle.changes.proofs.Apart.{locks_accesses}
use Rattle.changes.proofs.Parts.{accesses_kept}
use Rattle.changes.proofs.Lists.{drop_keep}
use Rattle.changes.proofs.Locks.{lock_ready_back, drop_locks_law, locks_dropped}
use Rattle.changes.proofs.Keeping.{locks_keep}
use Rattle.changes.proofs.Besides.{then_locks, locks_after}

-- a row with those of a list that it takes in
abbrev over : Lock → List Lock → Lock
over row ls =
    record {
      low = least row.low (map (λ l. l.low) ls);
      high = greatest row.high (map (λ l. l.high) ls);
      mode = row.mode;
      owner = row.owner;
    }

over_turn : (row l : Lock) (ls : List Lock) (hit : Bool) → over row (cond hit (l ∷ ls) ls) ≡ over (widened row hit l) ls
over_turn row l ls true =
    rw (
      least_shift row.low l.low (map (λ m. m.low) ls),
      greatest_shift row.high l.high (map (λ m. m.high) ls),
    ) refl
over_turn row l ls false = refl

-- a row with those of a list taken in that touch, one after the other
abbrev taken : ℕ → ℕ → Lock → List Lock → Lock
taken low high row ls = fold (λ r l. widened r (touches low high l) l) row ls

pub over_all : (low high : ℕ) (row : Lock) (ls : List Lock)
    → taken low high row ls ≡ over row (keep (touches low high) ls)
over_all low high row [] = refl
over_all low high row (l ∷ ls) =
    over_all low high (widened row (touches low high l) l) ls
    ∙ sym (over_turn row l (keep (touches low high) ls) (touches low high l))

-- the settled reads that touch go, and leave a walk along accesses as it was
pub touching_gone : {c : Counts} {w w' : List ℕ} {r : ℕ} (low high : ℕ) → Well c w → r < c.records
    → UnlinkedBy (λ i. touches low high (lock_at c w i)) (lock_table c) (lock_heads c) w w' (suc r) 0
    → Beside c w w' (on_locks (decode_at c w) r (keep (λ l. not (touches low high l))))
unfolding lock_table
touching_gone {c} {w} {r = r} low high W l u = record {
  becomes =
      drop_locks_law W l (λ x. touches low high (lock_at c w x)) u
      (locks_dropped c w r l (touches low high) ∙ drop_keep (touches low high) _ (λ x. refl) _);
  accesses = accesses_kept (apart_kept (locks_accesses c) (only_elsewhere (omega arith) u.elsewhere));
}

-- From words w₀ the locks up to the place have lost those that touch, and the row so far with those ahead that touch is
-- what all of them are together
pub record Joins (c : Counts) (low high : ℕ) (w₀ : List ℕ) (r : ℕ) (w : List ℕ) (row : Lock) (place : ℕ)
    (s : Cursor) : Type 0 where
  pub turns : TurnInv (lock_table c) (lock_heads c) (λ i. touches low high (lock_at c w₀ i)) w₀ (suc r) 0 []
      (rows_of (lock_table c) (lock_heads c) w₀ (suc r)) w place s
  pub same : taken low high row (map (lock_at c w₀) (ahead (lock_table c) w₀ s))
      ≡ joined_row low high (record_at c w₀ r).locks

pub joins_start : {c : Counts} {w : List ℕ} {r : ℕ} {s : Cursor} (low high : ℕ) → Well c w → r < c.records
    → s ≡ start (lock_table c) (head_of (lock_heads c) w (suc r))
    → Joins c low high w r w (record { low = low; high = high; mode = READ; owner = SETTLED }) 0 s
unfolding record_at locks_of lock_rows rows_of chain front
joins_start {c} {w} {r} {s} low high W l e =
    record {
      turns = turn_start (λ i. touches low high (lock_at c w i)) (lock_ready_back W l) e;
      same =
          over_all low high (record { low = low; high = high; mode = READ; owner = SETTLED })
          (map (lock_at c w) (ahead (lock_table c) w s))
          ∙ ap (λ x. joined_row low high (map (lock_at c w) (ahead (lock_table c) w x))) e;
    }

module _ {c : Counts} {low high : ℕ} {w₀ : List ℕ} {r : ℕ} {w : List ℕ} {row : Lock} {place : ℕ} {s : Cursor}
    (W : Well c w₀) (i : Joins c low high w₀ r w row place s) where
  pub joins_fits : Fits c w
  joins_fits = (locks_keep W.fits w i.turns.elsewhere).0

  module _ {s' : Cursor} {x : ℕ} (m : Met (lock_table c) w s x s') where
    pub joins_ready : Ready (lock_table c) (lock_heads c) w (suc r) 0
        × Follows (lock_table c) (lock_heads c) w (suc r) place x
    joins_ready = turn_ready i.turns m

    -- the row that is met is as before the walk, and the row so far takes it in if it touches
    module _ {l row' : Lock} (k : l ≡ lock_at c w x) (z : row' ≡ widened row (touches low high l) l) where
      entry : l ≡ lock_at c w₀ x
      entry = k ∙ (locks_keep W.fits w i.turns.elsewhere).1 x m.row

      taken_on : taken low high row' (map (lock_at c w₀) (ahead (lock_table c) w₀ s'))
          ≡ joined_row low high (record_at c w₀ r).locks
      taken_on =
          ap (λ y. taken low high y (map (lock_at c w₀) (ahead (lock_table c) w₀ s')))
          (z ∙ ap (λ y. widened row (touches low high y) y) entry)
          ∙ ap (λ rs. taken low high row (map (lock_at c w₀) rs)) (sym (turn_met i.turns m).rest)
          ∙ i.same

      pub joins_hit : {w' : List ℕ} → touches low high l ≡ true
          → Unlinked (lock_table c) (lock_heads c) w w' (suc r) 0 place x → Joins c low high w₀ r w' row' place s'
      joins_hit e u =
          record { turns = turn_hit i.turns m (ap (touches low high) (sym entry) ∙ e) u; same = taken_on }

      pub joins_miss : touches low high l ≡ false → Joins c low high w₀ r w row' x s'
      joins_miss e =
          record { turns = turn_miss i.turns m (ap (touches low high) (sym entry) ∙ e); same = taken_on }

  pub joins_end : {s' : Cursor} → r < c.records → Halted (lock_table c) w s s'
      → Beside c w₀ w (on_locks (decode_at c w₀) r (keep (λ l. not (touches low high l))))
      × (row ≡ joined_row low high (rec_at (decode_at c w₀) r).locks)
  joins_end l m = (
    touching_gone low high W l (turn_end i.turns m),
    ap (λ rs. taken low high row (map (lock_at c w₀) rs)) (sym (halted_in w₀ m).rest) ∙ i.same
        ∙ ap (λ (x : Rec). joined_row low high x.locks) (sym (rec_at_lem c w₀ r l)),
  )

-- what is left of the record's locks, then the row
module _ {c : Counts} {w w₁ : List ℕ} (r low high : ℕ) {row : Lock} (l : r < c.records)
    (D : Beside c w w₁ (on_locks (decode_at c w) r (keep (λ l. not (touches low high l))))
    × (row ≡ joined_row low high (rec_at (decode_at c w) r).locks)) where
  pub joined_needs : locks_used (decode_at c w) < c.locks
      → Well c w₁ × (r < c.records) × (row.mode < MODES) × (row.owner ≤ MAX_EDITS)
      × (locks_used (decode_at c w₁) < c.locks)
  joined_needs h =
      let mode : row.mode ≡ READ = ap (λ (x : Lock). x.mode) D.1 in
      let owner : row.owner ≡ SETTLED = ap (λ (x : Lock). x.owner) D.1 in (
        D.0.becomes.well,
        l,
        omega arith,
        omega arith,
        omega (
          arith,
          locks_after r (keep (λ l. not (touches low high l))) l D.0,
          length_keep (λ l. not (touches low high l)) (rec_at (decode_at c w) r).locks,
        ),
      )

  pub joined_left : {w₂ : List ℕ} → Beside c w₁ w₂ (on_locks (decode_at c w₁) r (add_lock row))
      → Beside c w w₂ (on_locks (decode_at c w) r (join_read low high))
  unfolding add_lock
  joined_left B =
      rw D.1 at (then_locks r (keep (λ l. not (touches low high l))) l D.0 (add_lock row) B)
