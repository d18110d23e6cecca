-- Whether words moved: not one did, or some did; and what is printed of it. Rests on nothing.
use Rattle.std.specs.Prelude.{ℕ, ◌≡◌, Bool, true, false, List, cond, nat_eq, codes}
use Rattle.std.specs.Cmp.Lexicographic.{pointwise}

pub record Moved (before after : List ℕ) (r : Bool) : Type 0 where
  pub none : r ≡ false → after ≡ before
  pub some : r ≡ true → after ≡ before → ⊥

abbrev pub moved_text : List ℕ → List ℕ → List ℕ
moved_text before after = cond (pointwise nat_eq before after) (codes "no word moved") (codes "words moved")
