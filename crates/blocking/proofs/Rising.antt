-- What a walk of rising locks may leave out: from a lock that starts after h on, none meets low..h. Both searches stop
-- by this. Rests on Tests of the crate `meaning`.
use Prim.Native.Nat.{ℕ, ◌<◌}
use mathlib.Core.Path.{◌≡◌, ap}
use mathlib.Core.Logic.{◌⊎◌, inl, inr}
use mathlib.Core.Bool.{true}
use mathlib.Core.List.Memᴰ
use mathlib.Core.List.{List, ◌∷◌}
use native.Mathlib.Omega.{arith}
use borrow.Author.Tests.{leb-true}
use Rattle.meaning.specs.Lists.{◌∈◌, all, pairwise}
use Rattle.meaning.specs.Points.{no_later}
use Rattle.types.specs.declared.Lock.{Lock}
use Rattle.meaning.proofs.Lists.{and_left, and_right, all_out}
use Rattle.meaning.proofs.Tests.{Meeting}

module _ (l : Lock) (ls : List Lock) (rises : pairwise no_later (l ∷ ls) ≡ true) where
  pub rest_rises : pairwise no_later ls ≡ true
  rest_rises = and_right (all (no_later l) ls) (pairwise no_later ls) rises

  pub none_meets : (low h : ℕ) → h < l.low → (m : Lock) → m ∈ (l ∷ ls) → Meeting low h m → ⊥
  none_meets low h after m i b = go (Memᴰ.cases_cons i)
    where
      go : (m ≡ l) ⊎ (m ∈ ls) → ⊥
      go (inl q) = omega (arith, b.starts, ap (λ (x : Lock). x.low) q)
      go (inr j) =
          let later = all_out (no_later l) ls (and_left (all (no_later l) ls) (pairwise no_later ls) rises) m j in
          omega (arith, b.starts, leb-true l.low m.low later)
