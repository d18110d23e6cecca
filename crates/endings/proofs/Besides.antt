-- Changes of one record's locks or versions, one after the other, beside a walk along accesses. Rests on Folds and
-- Leaving.
use Prim.Native.Nat.{ℕ, ◌+◌, ◌≤◌, ◌<◌}
use native.Mathlib.Omega.{arith}
use mathlib.Core.Path.{◌≡◌, refl}
use mathlib.Core.Bool.{Bool, true, false}
use mathlib.Core.List.Memᴰ
use mathlib.Core.List.{List, [], ◌∷◌}
use Rattle.types.specs.Limits.{READ, WRITE}
use Rattle.types.specs.declared.Access.{Access}
use Rattle.types.specs.declared.Lock.{Lock}
use Rattle.types.specs.declared.Counts.{Counts}
use Rattle.meaning.specs.Store.{Store, rec_at, has_read, locks_used}
use Rattle.meaning.specs.Points.{leave_settled}
use Rattle.tables.specs.Layout.{MODES}
use Rattle.tables.specs.Decode.{access_at, decode_at}
use Rattle.tables.specs.Words.{Well}
use Rattle.changes.specs.Becomes.{Beside, on_locks}
use Rattle.changes.proofs.Besides.{beside_none, then_locks, locks_after}
use Rattle.calls.proofs.Acting.{records_counted}
use Rattle.endings.specs.Steps.{changed, left_rec, mark, LeaveNeed}
use Rattle.endings.proofs.Folds.{rec_again}
use Rattle.endings.proofs.Leaving.{leave_length}
use Rattle.meaning.specs.Store.{has_written}

module _ (c : Counts) (w : List ℕ) where
  pub lock_rows_lem : (decode_at c w).lock_rows ≡ c.locks
  unfolding decode_at
  lock_rows_lem = refl

  pub version_rows_lem : (decode_at c w).version_rows ≡ c.versions
  unfolding decode_at
  version_rows_lem = refl

room_one : {b : Bool} {n m : ℕ} → b ≡ true → n + mark b ≤ m → n < m
room_one {b} {n} {m} e h = let k : n + 1 ≤ m = rw e at h in omega arith

-- a settled lock of one record, where one is left and where none is
module _ (c : Counts) (w : List ℕ) (r mode low high : ℕ) (b : Bool) where
  abbrev Left : List ℕ → Bool → Type 0
  Left w₁ l = Beside c w w₁ (on_locks (decode_at c w) r (leave_settled l mode low high))

  pub left_one : {w₁ : List ℕ} → b ≡ true → Left w₁ true → Left w₁ b
  left_one e B = rw e B

  pub left_none : b ≡ false → Well c w → Left w b
  unfolding leave_settled
  left_none e W = rw (e, rec_again (decode_at c w) r) (beside_none W)

-- what access row i leaves: a is its access
module _ (c : Counts) (w : List ℕ) (i : ℕ) (a : Access) (t : ℕ) (W : Well c w)
    (n : LeaveNeed (access_at c w i ∷ []) (decode_at c w)) (ea : a ≡ access_at c w i) where
  abbrev s : Store
  s = decode_at c w

  abbrev leave_read : List Lock → List Lock
  leave_read = leave_settled (has_read a) READ a.from t

  need : LeaveNeed (a ∷ []) s
  need = rw ea n

  here : a.rec < c.records
  here = omega (arith, need.existing a (Memᴰ.head refl), records_counted c w)

  row_room : locks_used s + (mark (has_read a) + mark (has_written a)) ≤ c.locks
  row_room = omega (arith, need.room, lock_rows_lem c w)

  pub read_needs : has_read a ≡ true → Well c w × (a.rec < c.records) × (READ < MODES) × (locks_used s < c.locks)
  read_needs e = (W, here, omega arith, room_one e (omega (arith, row_room)))

  -- the read lock, then the write lock
  module _ {w₁ : List ℕ} (B : Beside c w w₁ (on_locks s a.rec leave_read)) where
    left_room : locks_used (decode_at c w₁) + mark (has_written a) ≤ c.locks
    left_room =
        omega (
          arith,
          row_room,
          locks_after a.rec leave_read here B,
          leave_length (has_read a) READ a.from t (rec_at s a.rec).locks,
        )

    pub write_needs : has_written a ≡ true → Well c w₁ × (a.rec < c.records) × (WRITE < MODES)
        × (locks_used (decode_at c w₁) < c.locks)
    write_needs e = (B.becomes.well, here, omega arith, room_one e left_room)

    pub row_left : {w₂ : List ℕ} → Beside c w₁ w₂
        (on_locks (decode_at c w₁) a.rec (leave_settled (has_written a) WRITE t t))
        → Beside c w w₂ (changed (left_rec t) (access_at c w i) s)
    unfolding changed left_rec
    row_left D = rw (← ea) (then_locks a.rec leave_read here B (leave_settled (has_written a) WRITE t t) D)
