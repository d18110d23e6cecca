-- The loop over a record's locks, which keeps what a pass keeps. Rests on Steps and on Sweep of the crate `sweeps`.
use Prim.Native.Nat.{ℕ, ◌≤◌, ◌<◌}
use mathlib.Core.Path.{◌≡◌, refl, sym, ap, ◌∙◌}
use mathlib.Core.Bool.{Bool, true, false, ◌&&◌}
use mathlib.Core.List.{List, [], ◌∷◌}
use lib.Dec.{leb, ltb}
use borrow.Author.Tests.{leb-true, ltb-true}
use Rattle.types.specs.declared.Lock.{Lock}
use Rattle.types.specs.Limits.{LAST}
use Rattle.meaning.specs.Store.{Edit}
use Rattle.meaning.proofs.Lists.{and_left, and_right}
use Rattle.sweeps.specs.declared.Swept.{Swept}
use Rattle.sweeps.specs.Sweep.{passed, passing}
use Rattle.clauses.specs.Clauses.{span_lies, mode_listed, owner_used, lock_sound}
use Rattle.clauses.proofs.Steps.{and_no, and_on}

-- the locks ls are still to come; l is the next, b whether it passes
module _ (now : Swept → Lock → Bool) (s : Swept) where
  module _ {l : Lock} (ls : List Lock) {b : Bool} (d : b ≡ now s l) where
    pass_cons : {t : Swept} → b ≡ true → t ≡ passed s l → passing now s (l ∷ ls) ≡ passing now t ls
    unfolding passing
    pass_cons z f = sym (and_on (sym d ∙ z) (ap (λ x. passing now x ls) f))

    pass_stop : b ≡ false → passing now s (l ∷ ls) ≡ false
    unfolding passing
    pass_stop z = sym (and_no (passing now (passed s l) ls) (sym d ∙ z))

  pass_nil : passing now s [] ≡ true
  unfolding passing
  pass_nil = refl

  module _ {ls : List Lock} {answer : Bool} (i : passing now s ls ≡ answer) where
    pub pass_done : ls ≡ [] → true ≡ answer
    pass_done e = sym (ap (passing now s) e ∙ pass_nil) ∙ i

    module _ {l : Lock} {rest : List Lock} {b : Bool} (e : ls ≡ l ∷ rest) (d : b ≡ now s l) where
      pub pass_on : (t : Swept) → b ≡ true → t ≡ passed s l → passing now t rest ≡ answer
      pass_on t z f = sym (ap (passing now s) e ∙ pass_cons rest d z f) ∙ i

      pub pass_out : b ≡ false → false ≡ answer
      pass_out z = sym (ap (passing now s) e ∙ pass_stop rest d z) ∙ i

-- where a lock that is sound by itself lies
pub lock_lies : (es : List Edit) (floor : ℕ) (l : Lock) → lock_sound es floor l ≡ true
    → (floor < l.low) × (l.low ≤ l.high) × (l.high ≤ LAST)
unfolding lock_sound
lock_lies es floor l h =
    let lies = and_left (span_lies floor l) (mode_listed l && owner_used es l) h in
    let ends = and_right (ltb floor l.low) (leb l.low l.high && leb l.high LAST) lies in (
      ltb-true floor l.low (and_left (ltb floor l.low) (leb l.low l.high && leb l.high LAST) lies),
      leb-true l.low l.high (and_left (leb l.low l.high) (leb l.high LAST) ends),
      leb-true l.high LAST (and_right (leb l.low l.high) (leb l.high LAST) ends),
    )
