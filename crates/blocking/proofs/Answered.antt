-- What an answer with `Some` or `None` says of the test and the number that it comes from. Rests on Search.
use Prim.Native.Nat.{ℕ, ◌≤◌, ◌<◌}
use mathlib.Core.Path.{◌≡◌, refl}
use mathlib.Core.Bool.{Bool, true, false}
use native.Mathlib.Omega.{arith}
use lib.Dec.{leb}
use borrow.Author.Tests.{leb-true, leb-false}
use Rattle.std.specs.Prelude.{None, Some}
use Rattle.std.specs.Bool.{then_some}
use Rattle.blocking.specs.Search.{upto}

module _ {A : Type 0} (x : A) where
  pub some_out : (b : Bool) {y : A} → Some y ≡ then_some b x → (y ≡ x) × (b ≡ true)
  some_out true e = (cc, refl)
  some_out false e = absurd (let z : ◌≡◌ {A = ℕ} 0 1 = cc in omega arith)

  pub none_out : (b : Bool) → None ≡ then_some b x → b ≡ false
  none_out false e = refl
  none_out true e = absurd (let z : ◌≡◌ {A = ℕ} 0 1 = cc in omega arith)

pub upto_some : (top x : ℕ) {y : ℕ} → Some y ≡ upto top x → (y ≡ x) × (x ≤ top)
upto_some top x e = let s = some_out x (leb x top) e in (s.0, leb-true x top s.1)

pub upto_none : (top x : ℕ) → None ≡ upto top x → top < x
upto_none top x e = leb-false x top (none_out x (leb x top) e)
