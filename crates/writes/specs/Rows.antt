-- The words that a row is filled with, all but its link. Rests on Layout of `tables`.
use Rattle.std.specs.Prelude.{ℕ, ◌+◌, ◌*◌, Bool, cond, List, set}
use Rattle.chains.specs.Table.{place}
use Rattle.types.specs.declared.Lock.{Lock}
use Rattle.types.specs.declared.Access.{Access}
use Rattle.types.specs.declared.Counts.{Counts}
use Rattle.tables.specs.Layout
use Rattle.std.specs.Prelude.{is_some}
use Rattle.types.specs.Values.{pending_value, pending_word}

-- "mode (1 read, 2 write) + 4 × owner slot"
unfoldable pub lock_tag : Lock → ℕ
lock_tag l = l.mode + l.owner * Layout.MODES

-- "1 if written"
unfoldable pub written_mark : Bool → ℕ
written_mark b = cond b 1 0

module _ (c : Counts) (w : List ℕ) (i : ℕ) where
  -- a version of this point and value; the third word is 0
  unfoldable pub version_stored : ℕ → ℕ → List ℕ
  version_stored point value =
      set
      (set (set w (place (Layout.version_table c) i Layout.V_POINT) point)
      (place (Layout.version_table c) i Layout.V_VALUE) value)
      (place (Layout.version_table c) i Layout.V_SPARE)
      0

  -- a lock of record r
  unfoldable pub lock_stored : ℕ → Lock → List ℕ
  lock_stored r l =
      set
      (set
      (set (set w (place (Layout.lock_table c) i Layout.L_LOW) l.low) (place (Layout.lock_table c) i Layout.L_HIGH)
      l.high)
      (place (Layout.lock_table c) i Layout.L_MODE)
      (lock_tag l))
      (place (Layout.lock_table c) i Layout.L_RECORD)
      r

  unfoldable pub access_stored : Access → List ℕ
  access_stored a =
      set
      (set
      (set (set w (place (Layout.access_table c) i Layout.A_RECORD) a.rec)
      (place (Layout.access_table c) i Layout.A_FROM) a.from)
      (place (Layout.access_table c) i Layout.A_WRITTEN)
      (written_mark (is_some (pending_value a.value))))
      (place (Layout.access_table c) i Layout.A_VALUE)
      (pending_word a.value)
