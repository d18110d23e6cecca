-- A line in the buffer for one. Rests on Shown of the crate `replies`.
use Rattle.std.specs.Prelude.{ℕ, ◌≤◌, ◌≡◌, List, length, take}
use Rattle.replies.specs.declared.Line.{Line}
use Rattle.replies.specs.Shown.{shown}

-- the bytes of the buffer for one line
abbrev pub WIDTH : ℕ
WIDTH = 80

-- the first bytes of a buffer are the line
pub record Printed (l : Line) (out : List ℕ) (end : ℕ) : Type 0 where
  pub line : take end out ≡ shown l
  pub ends : end ≡ length (shown l)
  pub fits : end ≤ length out
